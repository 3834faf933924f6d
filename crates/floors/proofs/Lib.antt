-- The laws need no proof: what they say is checked before it is given. `CheckLemmas` says what an accepted log shows, and
-- `PlaneLemmas` what a log that a search finds shows.
pub mod CheckLemmas
pub mod PlaneLemmas
