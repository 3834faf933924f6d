-- What a reader of a claim must believe:
--
-- How the new file beside a file is called:
pub mod Names
-- A season that is kept in a file:
pub mod Season
-- Kept inside (what a loop keeps, and how fields are seen):
pub mod Handed
pub mod DraftFields
pub mod InputFields
pub mod Fields
pub mod KeeperFields
