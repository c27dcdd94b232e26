-- Document 01's trial values that are marked P.
pub mod Table
