-- What a reader of a claim must believe:
--
-- Read in this order. Which games count for an entry:
pub mod Counting
-- What is said of an entry that isn't 0:
pub mod Reasons
-- What the reasons add up to:
pub mod Laws
-- The parts of a sentence, and what a constraint demands:
pub mod Phrases
pub mod Demands
-- Games and numbers in words:
pub mod Games
pub mod Amounts
-- Which reasons are one line, and the line of each class:
pub mod Rows
pub mod Lines
-- The constraints that are missed, in order, with their lines:
pub mod Misses
-- In which order they are told:
pub mod Order
-- What a season lacks of a double round robin:
pub mod Lacks
-- Kept inside (laws, and how fields are seen):
--
-- What a class counts at a key, and the games of a team:
pub mod CountedGames
pub mod Own
pub mod Runs
pub mod Tested
-- The parts of a sentence by its class:
pub mod Sentences
-- A row without where its reason lies in memory, and what is kept of a season:
pub mod SeenRow
pub mod SeenTold
