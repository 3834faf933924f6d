-- The reasons of a constraint:
pub mod ListLemmas
pub mod StepLemmas
pub mod CountLemmas
pub mod MeetingLemmas
pub mod LawLemmas
pub mod LeadLemmas
pub mod GapLemmas
pub mod AddUpLemmas
pub mod NoneLemmas
pub mod OwnLemmas
pub mod PairLemmas
pub mod RunLemmas
pub mod TestLemmas
pub mod TouchLemmas
pub mod ExactLemmas
-- Sentences of demands:
pub mod DemandLemmas
-- Texts by their parts, the rows of reasons, lists that are gone through or made, and the constraints that are missed:
mod PartLemmas
mod RowLemmas
mod WalkLemmas
mod PieceLemmas
mod MissLemmas
mod OrderLemmas
-- Worked examples, so that a wrong definition does not check:
pub mod ReasonFacts
pub mod DemandFacts
pub mod LineFacts
pub mod MissFacts
