-- What a reader of a claim must believe:
--
-- When a league gives its teams too few games on a side, or asks too many of them:
pub mod VenueCounts
-- The log that says so:
pub mod CountLogs
-- Kept inside (laws, and how fields are seen):
--
-- What a team needs on the other side, by either bound:
pub mod Needs
-- How sets of slots are told apart, and what is kept of each:
pub mod Keys
pub mod Groups
