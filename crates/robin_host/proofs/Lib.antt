-- A file that is handed on in pieces:
pub mod HandedLemmas
-- The text of an accepted season:
pub mod SeasonLemmas
-- Worked examples, so that a wrong definition does not check:
mod NameFacts
