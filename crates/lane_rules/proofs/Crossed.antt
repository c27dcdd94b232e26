-- Lanes with crossed wires.
pub mod CrossedBits  -- crossed lines as bits and bytes
pub mod CrossedReadings  -- what an inverted frame is read as
pub mod CrossedFirst  -- crossed lines, on the frame that First judges
pub mod CrossedFrames  -- crossed lines, bit by bit
pub mod CrossedRuns  -- crossed lines, run by run
pub mod CrossedPairs  -- crossed lines, over lists of calls
pub mod CrossedSums  -- the sums of a crossed line
pub mod CrossedLane  -- a crossed lane after one sequence
