-- What a reader of a claim must believe:
--
-- What a tally is of, what hard constraints cost, and the rules of a league:
pub mod Tallies
pub mod HardSum
pub mod League
-- Read in this order. What is compared, when nothing is better, and moves that lower it one after another:
pub mod Lower
pub mod Score
pub mod Settled
pub mod Trail
-- What a descent gives:
pub mod Descended
-- Kept inside (laws, and how fields are seen):
--
-- What a tally keeps, and how it is changed and weighed:
pub mod KeySet
pub mod ByTeam
pub mod Bench
pub mod Change
pub mod Weighing
pub mod Ready
-- What a descent knows on its way:
pub mod Walks
