-- Lemmas on the definitions:
pub mod AcceptedLemmas
pub mod AscendingLemmas
pub mod FitLemmas
pub mod ListLemmas
pub mod SumLemmas
pub mod RangeLemmas
pub mod OneTermLemmas
pub mod MeetingLemmas
pub mod CountLemmas
pub mod MemberLemmas
pub mod TableLemmas
pub mod WrongLemmas
pub mod RoundRobinLemmas
-- Worked examples, so that a wrong definition does not check:
pub mod DoubleFour
pub mod StructureFacts
pub mod ClassFacts
pub mod AcceptedFacts
pub mod Crowded
pub mod CrowdedFacts
pub mod TwoTeamsFacts
pub mod InstanceFacts
pub mod NameFacts
pub mod SetFacts
pub mod SetLemmas
pub mod NumberSets
pub mod OrderLemmas
