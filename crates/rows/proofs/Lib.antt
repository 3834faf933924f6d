-- Lemmas on rows that lie end to end:
pub mod FlatLemmas
-- Rows of literals that are counted:
pub mod UnitLemmas
-- What a row forces:
pub mod ForcingLemmas
-- Lists as tests, and rows as tests:
pub mod ListLemmas
pub mod TestLemmas
pub mod TrailLemmas
-- What terms count, variable by variable:
pub mod CountLemmas
pub mod WideLemmas
-- Literals that are the same:
pub mod LiteralLemmas
-- How a table keeps what literals count:
pub mod TableLemmas
-- The row of a sum, variable by variable:
pub mod CancelLemmas
pub mod ClearLemmas
pub mod AddLemmas
-- What a sum's row says:
pub mod SumLaws
-- Worked examples, so that a wrong definition does not check:
pub mod RowFacts
pub mod SumFacts
