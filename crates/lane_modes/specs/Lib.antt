-- What a reader must believe of the lane stands in `lane_rules`.
pub mod PrivateCalls  -- cited by contracts of calls for the crates above, and of private ones, only
