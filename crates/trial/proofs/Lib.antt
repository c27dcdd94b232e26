-- The trial values marked P, proved.
pub mod TrialValues
