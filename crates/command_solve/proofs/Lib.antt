-- What is found by `solve`, its stages, and what follows from an answer:
mod CommentLemmas
mod ReadingLemmas
pub mod SolveFound
mod SolveStages
pub mod SolveAnswers
pub mod FromLemmas
-- Lines and letters of patterns, what is found, the stages, and what follows from an answer:
mod PatternTexts
mod PatternsFound
mod PatternsStages
pub mod PatternsAnswers
-- Two lists in order of the same games are one list:
mod OrderLemmas
-- What is found of a made league, answered:
pub mod TrialLemmas
-- Worked examples, so that a wrong definition does not check:
pub mod SolveFacts
mod PatternsFacts
pub mod InstanceFacts
mod SeasonFacts
mod TrialFacts
