-- The loops of feeding.
pub mod BitLoop  -- feeding bit by bit: the bits of a byte
pub mod FeedingLoops  -- feeding: the bytes, and the two ends
pub mod FramesLoops  -- feeding by whole frames: the bytes
pub mod SoundFrame  -- feeding by whole frames: a sound frame while locked
pub mod SoundRun  -- .. and a run of them
