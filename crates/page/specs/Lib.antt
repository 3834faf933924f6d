-- What a reader of a claim must believe:
pub mod Promises
pub mod Ran
pub mod Shown
-- The files that a page lends:
pub mod Files
-- Kept inside (how fields are seen):
pub mod ShelfFields
pub mod SinkFields
