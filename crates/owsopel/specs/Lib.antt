-- What a reader must believe of the C interface: records and answers as C holds them.
pub mod Flat
pub mod Answers
pub mod Promise
