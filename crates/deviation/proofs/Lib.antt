-- The capacity constraints:
pub mod BeforeLemmas
pub mod CapacityHosts
pub mod OpponentSums
pub mod SpanLemmas
pub mod CapacityTerms
pub mod TouchLemmas
-- The game constraint:
pub mod Ga1Hosts
pub mod ListedLemmas
pub mod Ga1Terms
-- The break constraints:
pub mod BitLemmas
pub mod BreakLemmas
pub mod BreakTerms
-- The fairness constraint:
pub mod LeadLemmas
pub mod PlayedLemmas
pub mod Fa2Terms
-- The separation constraint:
pub mod GapLemmas
pub mod TeamLemmas
pub mod Se1Terms
-- All classes together:
pub mod EntryLemmas
pub mod AssessLemmas
-- Worked examples, so that a wrong definition does not check:
pub mod Ga1Facts
pub mod Se1Facts
mod DeviationFacts
