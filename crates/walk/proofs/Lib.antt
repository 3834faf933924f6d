-- Lemmas on the definitions:
pub mod GameLemmas
pub mod WalkLemmas
-- Worked examples, so that a wrong definition does not check:
mod WalkFacts
