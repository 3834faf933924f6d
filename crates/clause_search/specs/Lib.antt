-- What a reader of a claim must believe:
--
-- Read in this order. Which steps of a log are kept, when a log says more than propagation finds, and what a search
-- answers:
pub mod Kept
pub mod News
pub mod Answers
-- Kept inside (laws, and how fields are seen):
--
-- What an analysis of a conflict finds:
pub mod Analysis
-- The places of a trail:
pub mod Trails
-- How an analysis marks the places of a trail:
pub mod Marks
-- What a turn of the search does:
pub mod Turns
