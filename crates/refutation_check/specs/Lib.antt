-- What a reader of a claim must believe:
--
-- What an accepted log proves:
pub mod Soundness
-- What a log's steps come to, one after another:
pub mod Judged
-- Which variables rows speak of:
pub mod Within
-- How much memory the rows of steps count:
pub mod Room
-- Kept inside (laws, and how fields are seen):
--
-- How steps are kept, and what a hint and a part come to:
pub mod Kept
pub mod Named
-- Which rows no later step names:
pub mod Forgotten
pub mod Checkers
