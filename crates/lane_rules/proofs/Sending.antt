-- The sender's record, and what its calls write; promise 3, sending.
pub mod SenderRecord  -- the sender's record
pub mod SendingLaws  -- the frames sent and the answers of sending
pub mod FrameBytes  -- the frames that bytes are
pub mod WrittenFrames  -- the frames that a sender's bytes are
pub mod Encoding  -- frames that encode samples
pub mod CallFrames  -- what a sender's calls write, frame by frame
pub mod SenderLists  -- lists of the sender's calls
pub mod SequenceFrames  -- the frames after SYNC
pub mod SendersList  -- what a sender's list writes
pub mod SentDisparities  -- the running disparity of a sender's list
pub mod SendingEnds  -- promise 3, sending
pub mod LineNumbers  -- the line of seed 1
pub mod ListsExist  -- there are such lists
