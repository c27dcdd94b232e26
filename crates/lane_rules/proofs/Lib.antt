-- Laws by subject, a folder each, which cites only those before it. What a reader looks for stands in Laws.
pub mod Basics  -- tests, computed tables, and bits
pub mod Modes  -- the modes of a receiver, bit by bit and frame by frame; promise 6
pub mod Feeding  -- runs of bits, and feeding calls as runs; promise 3, feeding
pub mod Totals  -- totals and sums; promise 4
pub mod Sending  -- the sender's record, and what its calls write; promise 3, sending
pub mod Alignment  -- every admitted mode, on alignment frames
pub mod Locking  -- from alignment frames to lock, and what alone locks
pub mod Resynchronisation  -- undamaged items after one sequence, and under bursts; promises 1 and 2
pub mod Balance  -- the line's balance and runs, and the sums that show it; promise 5
pub mod Crossed  -- lanes with crossed wires
pub mod Laws  -- the promises
