-- The parts of a text, one after another:
mod TextLemmas
-- What is found, and the stages:
mod FoundLemmas
mod StageLemmas
-- Worked texts, so that a wrong definition does not check:
mod TextFacts
