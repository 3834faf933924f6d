use Rattle.std.proofs.Common.{◌≤◌, take}
use Rattle.std.specs.List.{All}
use Rattle.descent.proofs.keep.greatest_terms.Given as goal

abbrev pub invariant-loop-weighted : goal.invariant-loop-weighted
invariant-loop-weighted g l = All (λ w. g.R.Entries.term_count w.rule ≤ l.greatest) (take l.weighted-index l.rules)
