-- From alignment frames to lock, and what alone locks.
pub mod FirstFrames  -- the two frames after the alignment frames
pub mod SequenceLocks  -- from alignment to lock
pub mod HuntEntry  -- each entry to Hunt starts with no bits
pub mod LockingFrames  -- frames that lead to lock, one by one
pub mod SeenBits  -- the bits held, and the frames before them
pub mod SeenModes  -- the bits of a run, by its mode
pub mod OnlyLocking  -- only what the rules name locks
pub mod AllLocking  -- and all of it
