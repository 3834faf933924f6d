-- Lemmas on the definitions:
pub mod SetLemmas
pub mod CircleLemmas
pub mod AcceptedLemmas
pub mod FitLemmas
pub mod MadeLemmas
-- Worked examples, so that a wrong definition does not check:
pub mod MadeFacts
