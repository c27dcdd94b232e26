-- Runs of bits, and feeding calls as runs; promise 3, feeding.
pub mod Runs  -- runs of lists of bits
pub mod RunningTotals  -- totals and sums
pub mod WholeFrames  -- 16 bits are a frame judged
pub mod ItemSpacing  -- items are at least 16 bits apart
pub mod FeedingRuns  -- a feeding call is a run of bits
pub mod ReceiverLists  -- lists of the receiver's calls
