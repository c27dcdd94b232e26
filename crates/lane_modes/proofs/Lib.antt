-- Laws by subject, a folder each, on the rules of `lane_rules`; a folder for each source file has the proofs of its functions.
pub mod Steps  -- one bit and one frame, as the code holds them
pub mod Bytes  -- a byte in one go
