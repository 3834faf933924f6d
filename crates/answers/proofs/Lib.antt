-- Lemmas on stages:
pub mod StageLemmas
-- What is printable:
mod PrintableFacts
-- Lemmas on printable text:
pub mod PrintableLemmas
-- Each page is that of its command:
mod HelpFacts
-- Worked examples, so that a wrong definition does not check:
mod AnswerFacts
mod FileFacts
