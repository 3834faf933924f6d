-- What a reader of a claim must believe:
--
-- Read in this order; each file needs only those above it. What literals and rows are, and what meets a row:
pub mod Literals
pub mod Rows
pub mod Cardinality
-- What a row says where only some variables have a value:
pub mod Partials
-- How lists of values are read as assignments:
pub mod Values
-- What a row makes of a partial assignment, and where its variables are listed:
pub mod Forcing
pub mod Trails
-- How rows are added up, and what row a sum stands for:
pub mod Sums
-- Kept inside (laws, and how fields are seen):
--
-- The number that stands for a literal:
pub mod Codes
pub mod LitLaws
-- How a store keeps its rows:
pub mod Flat
-- Rows as tests:
pub mod Tests
-- How a sum keeps what its literals count:
pub mod Tables
