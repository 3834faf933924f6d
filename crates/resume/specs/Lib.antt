-- What a reader of a claim must believe:
--
-- Read in this order. When a schedule keeps the played games, and the rows that ask for it:
pub mod Kept
-- That these rows are faithful both ways:
pub mod Resumable
-- What a resume system is of:
pub mod Systems
-- How many games of an old plan a schedule changes, and which of two is nearer:
pub mod Changed
-- Moves that leave the first slots alone and lead to a nearer season, and seasons that none betters:
pub mod Nearing
-- What each answer says of a league, beside the definitions above:
pub mod Answers
-- How far a season is from the old plan:
pub mod Near
-- Kept inside (laws, and how fields are seen):
--
-- Edits that leave the first slots alone, exactly:
pub mod Alone
-- What a walk knows:
pub mod Walks
-- What a search found:
pub mod Found
pub mod Merged
-- The constraints of a league:
pub mod Fixed
