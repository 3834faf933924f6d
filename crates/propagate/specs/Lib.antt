-- What a reader of a claim must believe:
--
-- What a trail is, and what its calls do:
pub mod Trails
-- Kept inside (laws, and how fields are seen):
--
-- Rows by their places, and the rows in which a literal stands:
pub mod Numbered
pub mod Links
-- The reaches of rows, and how a trail keeps its literals:
pub mod Tables
pub mod Counters
pub mod Paths
-- Clauses that are watched at two literals:
pub mod Watches
-- What looks at rows leave:
pub mod Looks
