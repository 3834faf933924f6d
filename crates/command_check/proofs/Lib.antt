-- Lemmas on the lines of the report, on texts, and on the stages of `validate`:
mod ReportLemmas
mod TextLemmas
mod ValidateLemmas
-- Lemmas on a log that is judged while it is read, and on the stages of `check`:
mod FeedingLemmas
mod StoppingLemmas
pub mod StageLemmas
-- What follows from an answer of `check`:
pub mod AnswerLemmas
-- Worked examples, so that a wrong definition does not check:
pub mod ReportFacts
pub mod ValidateFacts
pub mod CheckFacts
