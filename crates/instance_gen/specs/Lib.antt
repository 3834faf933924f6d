-- What a reader of a claim must believe:
--
-- Draws from the generator of a seed, and the league that is made of them:
pub mod Draws
pub mod Made
-- Kept inside (laws, and how fields are seen):
--
-- The kinds of constraints with draws, side by side:
pub mod Kinds
