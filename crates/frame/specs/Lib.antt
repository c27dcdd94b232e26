-- What a reader must believe of this crate, in the order of document 01; Cycle is document 02's Q-14.
pub mod Bits
pub mod Scrambler
pub mod Seeds
pub mod Cycle
pub mod Frame
pub mod Answers
pub mod Promise
