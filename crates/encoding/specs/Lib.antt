-- What a reader of a claim must believe:
--
-- Read in this order; each file needs only those above it. What is counted as true or false, and lists of it:
pub mod Variables
pub mod Lists
-- The rows of a season, those of each class of constraints, and all of a league:
pub mod Season
pub mod Demands
pub mod Encoding
pub mod RowRanges
pub mod Known
-- Which assignment stands for a schedule, and which schedule for an assignment:
pub mod Shadow
-- The limit on a league's rows:
pub mod Limit
-- Kept inside (laws, and how fields are seen):
--
-- Lists in ascending order, so that the variables of a row differ:
pub mod Ascending
-- Pairs of teams:
pub mod Pairs
-- Every class's rows by keys, as they are written and counted:
pub mod Keys
-- How many terms the rows of a key have:
pub mod Terms
-- What an encoding keeps:
pub mod Encoded
