-- What a reader of a claim must believe:
--
-- The games of the circle method, what a single round robin is, and how few breaks there are:
pub mod Circle
pub mod SingleRoundRobin
pub mod Breaks
