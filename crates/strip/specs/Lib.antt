-- What a reader must believe of strips stands in `strip_rules`.
pub mod PrivateCalls  -- cited by contracts of private calls only
