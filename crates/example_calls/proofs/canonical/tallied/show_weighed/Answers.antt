use Rattle.std.proofs.Common.{◌≤◌, arith, ap, subst, sym}
use Rattle.league.specs.Counts.{Counts, counts_of}
use Rattle.example_calls.proofs.canonical.tallied.show_weighed.Goals as goal

-- weighing leaves the counts
pub apply-requires-clause-there : goal.apply-requires-clause-there
apply-requires-clause-there c i j s =
    subst (λ (m : Counts). counts_of c.args.edit.now.out i j s ≤ m i j s) (sym c.weigh-sums.ensures.keeps.counts)
    (c.requires.there i j s)

-- what was put on is there
pub undo-requires-clause-there : goal.undo-requires-clause-there
undo-requires-clause-there c i j s = omega (
  arith,
  c.requires.there i j s,
  ap (λ (m : Counts). m i j s) c.weigh-sums.ensures.keeps.counts,
  c.apply.ensures.counts i j s,
)
