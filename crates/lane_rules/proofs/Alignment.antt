-- Every admitted mode, on alignment frames.
pub mod AlignmentPattern  -- the bits of alignment frames
pub mod AlignedRuns  -- modes without unknown parts, on the pattern
pub mod LockLost  -- Locked, on the pattern
pub mod AlignedFrames  -- modes that collect frames, on the pattern
pub mod HuntWindow  -- Hunt with any bits held, on the pattern
pub mod Alignment  -- every admitted mode, on the pattern
