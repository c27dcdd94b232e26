-- One outcome, as the code holds it.
pub mod SumsRead  -- sums, as the code's numbers are read
pub mod CountedOutcomes  -- a record with outcomes counted
