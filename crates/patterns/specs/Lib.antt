-- What a reader of a claim must believe:
--
-- What a pattern is, the patterns of a schedule, and the law of the fewest breaks:
pub mod Pattern
pub mod PatternSet
pub mod FewestBreaks
-- Kept inside (laws, and how fields are seen):
--
-- How the patterns stand in a table of home games:
pub mod HomeTable
