-- What the clauses that keep played games say:
pub mod KeptLemmas
-- The resume rows are faithful both ways, and have as many terms as is said:
pub mod Faithful
pub mod SizeLemmas
-- The resume rows speak of the league's variables alone:
pub mod KnownLemmas
-- A worked example, so that a wrong definition does not check:
pub mod KeptFacts
-- Edits that leave the first slots alone:
pub mod AloneLemmas
-- Changed games, before and after an edit:
pub mod ChangedLemmas
-- When a move betters a season:
pub mod BetterLemmas
-- What a walk knows, one move further:
pub mod WalkLemmas
-- Worked counts:
mod NearingFacts
-- What the old plan, and what a search finds, say of a league whose first slots are played:
pub mod AnswerLemmas
-- The games whose variables are true, gone through by slot and meeting:
pub mod SeasonLemmas
-- Games of one list in the first slots, and of another from there on:
mod MergeLemmas
-- A better schedule keeps what was played:
mod LowerLemmas
-- Worked seasons:
mod MergeFacts
-- Changed games, counted:
pub mod NearLemmas
-- Worked counts of them:
mod NearFacts
