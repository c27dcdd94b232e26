-- One call, as the code holds it.
pub mod SenderAnswers  -- what the sender's calls answer
