-- The loop of sending.
pub mod SendingLoop  -- frames into the buffer
