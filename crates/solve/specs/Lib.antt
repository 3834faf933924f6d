-- What a reader of a claim must believe:
--
-- What each answer says of a league, within the budgets to which a run kept:
pub mod Kept
pub mod Solutions
-- Kept inside (laws, and how fields are seen):
--
-- What one try says of it:
pub mod Tried
-- Which try's schedule is the answer:
pub mod Earliest
-- What is kept of two tries:
pub mod Chosen
