-- What a reader of a claim must believe:
--
-- Read in this order. Rows that unit variables soften, and what the units cost:
pub mod Softening
-- A constraint as smaller ones, each of which has unit variables of its own:
pub mod Parts
-- The bound rows of a league, their variables and their size:
pub mod BoundRows
-- What bound rows say of schedules:
pub mod Faithful
-- What a bound system is of, and what must be counted first:
pub mod Bounded
-- Kept inside (laws, and how fields are seen):
--
-- What a schedule costs at most:
pub mod Cost
-- Values that satisfy them:
pub mod Units
-- How many terms bound rows have, part by part:
pub mod Sizes
-- Groups that are written one after another:
pub mod Drafts
pub mod OneOf
pub mod Bare
