-- Totals and sums; promise 4.
pub mod HeldSums  -- sums held at the limits of 32 bits
pub mod CountedFrames  -- which bits count in the sums
pub mod LockedTally  -- losses of lock and frames judged in Locked
pub mod TotalsKept  -- promise 4
pub mod SumsKept  -- the sums of frames judged in Locked
