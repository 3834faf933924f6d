-- Parts of fewer constraints, and the part of all:
pub mod PartLaws
-- Contradictions that become smaller:
pub mod StandingLemmas
-- The numbers of members:
mod MemberLemmas
-- How many terms the rows of a league may have:
mod LimitLemmas
-- What is said at the end:
pub mod ConflictLemmas
-- What a log uses, and which constraints it names:
mod UsedLemmas
mod NamedLemmas
-- Worked conflicts:
mod ConflictFacts
-- Laws of parts and of the numbers of constraints:
pub mod PartLemmas
-- Worked parts:
mod PartFacts
