-- What a reader must believe of this crate, in the order of document 01; the promises last.
pub mod Line
pub mod Sender
pub mod Sending
pub mod Sums
pub mod Receiver
pub mod Judging
pub mod Collecting
pub mod Feeding
pub mod SenderCalls
pub mod ReceiverCalls
pub mod LockedFrames
pub mod Locking
pub mod Crossed
pub mod Bursts
pub mod Balance
pub mod Promise
pub mod PromiseSums
pub mod PromiseCrossed
pub mod Outcomes  -- cited by proofs and by contracts of private calls only
