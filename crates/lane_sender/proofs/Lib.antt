-- Laws by subject, a folder each, on the rules of `lane_rules`; a folder for each source file has the proofs of its functions.
mod Steps  -- one call, as the code holds it
mod Loops  -- the loop of sending
