-- Undamaged items after one sequence, and under bursts; promises 1 and 2.
pub mod ArrivedFrames  -- the frames that arrive
pub mod LockedItems  -- the items of undamaged frames
pub mod WrongItems  -- wrong items, counted by bursts
pub mod BurstBound  -- the burst error bound
pub mod Resynchronisation  -- promises 1 and 2
