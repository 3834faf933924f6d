-- How a league is read and measured:
mod MeasureLemmas
-- The stages of `bound`, what follows from an answer, and what an accepted certificate shows:
pub mod BoundStages
pub mod BoundAnswers
pub mod CheckLemmas
-- What is shown by `prove`, its stages, and what follows from an answer:
mod ShownLemmas
mod ProveStages
pub mod ProveAnswers
-- The same where a floor is asked for:
mod FloorLemmas
pub mod FloorAnswers
-- Worked examples, so that a wrong definition does not check:
pub mod BoundAnswerFacts
