-- Tests, computed tables, and bits.
pub mod Tests  -- tests joined by 'or', and two tests
pub mod Tables  -- rules shown by a computed test
pub mod Bits  -- bits of numbers, bytes and frames
