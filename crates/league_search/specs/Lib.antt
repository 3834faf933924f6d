-- What a reader of a claim must believe:
--
-- What sums give behind rows, and what a search over them all answers of the rows:
pub mod Sums
pub mod Answers
-- Read in this order. Which rows are pattern rows, when patterns satisfy them, when a log refutes them or is spent, and
-- what is answered:
pub mod PatternRows
pub mod PatternSets
pub mod PatternLogs
pub mod PatternAnswers
-- Kept inside (laws, and how fields are seen):
--
-- Rows and logs whose variables are numbered anew:
pub mod Raised
-- The patterns that values show:
pub mod Letters
-- Of what the balance of a slot is the sum:
pub mod Balances
