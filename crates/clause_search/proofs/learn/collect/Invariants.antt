use Rattle.std.proofs.Common.{◌≡◌, ◌<◌, length}
use Rattle.std.specs.List.{All}
use Rattle.clause_search.specs.Analysis.{clause_below, hints_below}
use Rattle.clause_search.specs.Marks.{role_at}
use Rattle.clause_search.specs.Trails.{lit_at, reason_at}
use Rattle.clause_search.proofs.learn.collect.Given as goal

abbrev pub invariant-loop-k : goal.invariant-loop-k
invariant-loop-k l = record {
  clause : l.clause.items ≡ clause_below (lit_at l.trail.entries) (role_at l.roles) l.k;
  hints : l.hints.items ≡ hints_below (reason_at l.trail.entries) (role_at l.roles) l.k;
  parts : All (λ j. j < length l.trail.entries) l.parts.items;
}
