-- The modes of a receiver, bit by bit and frame by frame; promise 6.
pub mod FaultRule  -- the rule on faults
pub mod ModeRecord  -- admitted modes
pub mod NextModes  -- the modes that a mode can go to
pub mod OutcomeRanges  -- what is handed out is in its range
pub mod AdmittedKept  -- promise 6
