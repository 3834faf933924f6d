-- What a reader of a claim must believe:
--
-- When a league allows its teams too few breaks, and the law that it accepts no schedule then:
pub mod BreakCounts
-- When bounds that are added up allow too few, and the same law of them:
pub mod Sums
-- Kept inside (laws, and how fields are seen):
--
-- What each team is allowed, as it is kept:
pub mod Tables
-- Steps whose lines are short:
pub mod Lines
