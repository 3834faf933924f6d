use Rattle.std.proofs.Common.{◌≡◌, map, take}
use Rattle.clause_search.specs.Kept.{steps_at}
use Rattle.clause_search.specs.News.{row_of}
use Rattle.clause_search.proofs.KeptLemmas.{with_rows}
use Rattle.clause_search.proofs.forget.add_clauses.Given as goal

-- the clauses so far
abbrev pub invariant-loop-place : goal.invariant-loop-place
invariant-loop-place l =
    l.trail ≡ with_rows l.fn.trail (map row_of (steps_at l.log (take l.place-index l.places)))
