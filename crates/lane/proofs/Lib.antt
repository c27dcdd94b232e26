-- Laws by subject, a folder each, on the rules of `lane_rules`; a folder for each source file has the proofs of its functions.
mod Steps  -- one outcome, as the code holds it
mod Loops  -- the loops of feeding
