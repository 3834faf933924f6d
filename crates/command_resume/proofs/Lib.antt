-- What is found, answered:
mod FoundLemmas
-- Leagues that are counted out, answered:
mod CountLemmas
-- What is found near the old plan, answered:
mod NearLemmas
-- The stages, one after another:
mod StageLemmas
-- What follows from an answer:
pub mod AnswerLemmas
-- Worked answers, so that a wrong definition does not check:
mod SeasonFacts
