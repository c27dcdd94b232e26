-- What a reader must believe of this crate.
pub mod Refusal
pub mod Promise
