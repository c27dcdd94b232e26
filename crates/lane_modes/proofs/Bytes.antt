-- A byte in one go.
pub mod ToldOutcomes  -- outcomes that are counted
pub mod HeldBits  -- bits that make no frame are held
pub mod LeftBits  -- the bits left of a byte
pub mod RestLoop  -- the loop over bits that make no frame
pub mod WholeBytes  -- a byte in one go
pub mod SkippedBytes  -- a byte in Hunt that can end no two alignment frames
