-- How the proof goes. The claim of `run`: where it ends without a conflict all rows are quiet, so that none is in
-- conflict or forces a literal. The idea: a quiet row stays so until one of its literals becomes false (`quiet-push`).
-- So a trail keeps how far it has looked: each of the first rows is quiet, or an entry that is still to be looked at
-- made a literal of it false (`IsSeen`, `IsReady`).
-- The given rows keep counters of their reaches. `reach-lacks` and `reach-has` say what one more true literal changes,
-- and `moving-step`, `moving-lost`, `moving-gained` and `IsCounted-moved` go through the rows in which it stands.
-- `IsForcedUpTo-more` and `IsQuietRow-forced` look at one row, `IsVisiting-more` at those of one entry, and
-- `IsQuiet-ready` says that nothing is left.
-- The added clauses have two watched literals. `IsQuietRow-true` and `IsQuietRow-two` say when a clause is quiet.
-- `AreHung-off`, `AreHung-hang` and `AreHung-push` keep the lists of watches. The invariant: if a watched literal was
-- false before, the other one is true now (`IsBacked`). So a watched clause waits for no look (`seen_hung`).
-- `walking-none`, `walking-step` and `walking-end` go through the watches of one literal, `IsWatching-pair` and
-- `IsWatching-held` begin to watch a clause, and `TrailLemmas` puts all together, call by call.
-- The difficulty lies in going back: nothing is mended then. So the watches have to be right before each decision too
-- (`AreBacked`), and only a literal is watched that was false before no decision so far (`WasOpen-now`,
-- `WasOpen-level`). Where a walk meets a conflict in its midst, it hangs the rest back unlooked at (`IsWatching-hang`).

-- Entries, values and rows of a trail:
pub mod EntryLemmas
pub mod ValueLemmas
-- Where literals stand in rows, and the kept reaches:
pub mod ReachLemmas
pub mod LinkLemmas
pub mod FewLemmas
pub mod CountLemmas
-- How a trail keeps its literals:
pub mod PathLemmas
-- Rows that force literals, and rows that wait for a look:
pub mod LookLemmas
-- Clauses, and the lists of the nodes that watch them:
pub mod ClauseLemmas
pub mod ChainLemmas
-- Literals that weren't false before any decision:
pub mod CalmLemmas
-- Watched clauses, and looks at them:
pub mod BackedLemmas
pub mod WalkLemmas
pub mod HangLemmas
pub mod TrailLemmas
-- Worked examples, so that a wrong definition does not check:
pub mod TrailFacts
