-- Texts on their way to a sink:
pub mod StreamLemmas
-- What a text is read as: its words, its lines, and the whole:
pub mod WordLemmas
pub mod LineLemmas
pub mod TextLemmas
-- What words and lines of values say, one after another:
pub mod SaidLemmas
-- The value that the last literal says:
pub mod ValueLemmas
-- Worked examples, so that a wrong definition does not check:
mod OpbFacts
mod ValuesFacts
