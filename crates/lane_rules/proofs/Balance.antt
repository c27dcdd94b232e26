-- The line's balance and runs, and the sums that show it; promise 5.
pub mod BitCounts  -- ones and zeros
pub mod RunLengths  -- runs of equal bits
pub mod FrameRuns  -- runs over a frame
pub mod LineState  -- the line before a frame
pub mod BalanceStep  -- the line after a frame
pub mod Balance  -- promise 5
pub mod LockSums  -- the sums at lock
pub mod SeenSums  -- the sums while R stays within 16
pub mod BalanceSeen  -- the sums on undamaged frames
