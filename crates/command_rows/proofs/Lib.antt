-- Rows that were written are those that were to be:
pub mod RowsLemmas
-- The objective row is found:
pub mod PriceLemmas
-- The least sum is the least objective:
pub mod LeastLaws
-- Rows that values meet or miss:
pub mod MetLemmas
-- How the stages of `values` make an answer:
pub mod ValuesStages
