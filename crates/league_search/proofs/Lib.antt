-- How the proof goes. A log that begins with sums is judged as its later steps are over the longer rows
-- (`accepted-behind`).

-- Rows and logs whose variables are higher:
pub mod RaiseLemmas
-- Rows and steps that are numbered anew:
pub mod NumberLemmas
pub mod NewsLemmas
-- Pattern rows, picked one after another:
pub mod PickLemmas
-- What is found of a league:
pub mod LogLemmas
pub mod PatternLemmas
pub mod StopLemmas
-- Rows that steps give, and what is said of a log that begins with these steps:
pub mod GiveLemmas
-- Rows that are copied, added up and narrowed:
pub mod SumLemmas
-- Of what the balance of a slot is the sum:
pub mod BalanceLemmas
-- What is found, said of the league:
pub mod FoundLemmas
-- Worked examples, so that a wrong definition does not check:
mod PatternFacts
mod SumFacts
