-- What a reader of a claim must believe:
--
-- Read in this order. The stages that both commands have in common:
pub mod Seasons
-- What `resume` answers, with `--near` and without, and what `audit` does:
pub mod Resumed
pub mod Near
pub mod Audited
-- Kept inside (what an answer is written as, how fields are seen, and logs of leagues that are counted out):
pub mod SeenSeason
pub mod NearWritten
pub mod Counted
