-- Lemmas on ranges, and on runs in them:
pub mod RangeLemmas
pub mod RunLemmas
-- Texts that are joined:
pub mod JoinedTexts
-- Laws of cells and of blocks:
pub mod CellLemmas
pub mod BlockLemmas
-- Lemmas on the stages and on the text:
mod StageLemmas
mod TextLemmas
-- Worked examples, so that a wrong definition does not check:
pub mod CsvFacts
pub mod GridFacts
pub mod AskedFacts
