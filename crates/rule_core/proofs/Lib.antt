-- The number of steps, by hand:
pub mod Walks
-- Keys:
pub mod KeyFacts
pub mod KeyLemmas
pub mod KeyListLemmas
pub mod KeyPlaceLemmas
pub mod PairLemmas
-- The counts of games:
pub mod KeepLemmas
pub mod KeptMeetingLemmas
pub mod ListedLemmas
pub mod MarkLemmas
pub mod PlaceFacts
pub mod PlaceLemmas
pub mod RowLemmas
pub mod SeenLemmas
pub mod SpareLemmas
pub mod TableFacts
pub mod TableLemmas
pub mod TeamPlaceLemmas
-- Rules, and what a game touches:
pub mod BreakLemmas
pub mod FrameLemmas
pub mod GameLemmas
pub mod LeadLemmas
pub mod MeetingLemmas
pub mod MutualLemmas
pub mod OneLemmas
pub mod OpponentLemmas
pub mod ReadyLemmas
pub mod TouchedFacts
pub mod TouchedLemmas
pub mod WatchLemmas
