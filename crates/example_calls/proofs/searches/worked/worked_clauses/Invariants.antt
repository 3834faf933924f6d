use Rattle.std.specs.List.{All}
use Rattle.propagate.specs.Trails.{KnowsVariables}
use Rattle.example_calls.proofs.searches.worked.worked_clauses.Given as goal

-- the rows so far know these variables
abbrev pub invariant-loop-first : goal.invariant-loop-first
invariant-loop-first l = All (KnowsVariables 7) l.rows
