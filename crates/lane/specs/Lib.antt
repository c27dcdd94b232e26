-- What a reader must believe of the lane stands in `lane_rules`.
pub mod PrivateCalls  -- cited by contracts of private calls only
