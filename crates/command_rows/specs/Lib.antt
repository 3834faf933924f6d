-- What a reader of a claim must believe:
--
-- Which rows are written:
pub mod Rowed
-- What the sum says that is to be least:
pub mod Least
-- What values stand for:
pub mod Valued
-- Kept inside (laws, and how fields are seen):
pub mod SeenRows
pub mod Faults
