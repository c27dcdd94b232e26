-- One bit and one frame, as the code holds them.
pub mod Numbers  -- powers of two and places of bits
pub mod FrameCalls  -- what the calls of `frame` answer
pub mod FaultCounts  -- the rule on faults, as the code counts
pub mod JudgedFrames  -- what judging gives, way by way
pub mod CollectingModes  -- modes told by which they are not
