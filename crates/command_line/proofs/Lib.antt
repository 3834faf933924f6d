-- Worked examples, so that a wrong definition does not check:
mod WordFacts
mod FaultFacts
-- Help and the version take no words of a command:
pub mod HelpLemmas
-- Lemmas on options:
pub mod StandingLemmas
-- Lemmas on lists:
pub mod ListLemmas
-- Lemmas on the numbers of teams of commands:
pub mod TeamLemmas
-- Lemmas on which options there are:
pub mod OptionLemmas
