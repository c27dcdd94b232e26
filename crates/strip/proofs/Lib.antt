-- Laws by subject, on the rules of `strip_rules`; a folder for each source file has the proofs of its functions.
mod Lists  -- a list copied over another
mod WalkRefusals  -- what the walk refuses
mod PieceAt  -- what stands at a place, as a window shows it
mod Filling  -- the items into an array
mod ReadAnswer  -- what reading answers, case by case
mod ConvertAnswer  -- what converting answers, case by case
