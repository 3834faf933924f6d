use Rattle.std.proofs.Common.{List, subst, sym, ℕ}
use Rattle.league.proofs.SetLemmas.{length-ascending}
use Rattle.rule_core.specs.KeyPlaces.{AreListed}
use Rattle.rule_core.proofs.listed.Listed.of.Goals as goal

pub invariant_of-result : goal.invariant_of-result
invariant_of-result c =
    subst (λ (xs : List ℕ). AreListed xs c.of.result) (sym c.in_ok-from_slice.ensures.items)
    (record { ascending = c.requires.ascending; few = length-ascending c.args.numbers.now 78 c.requires.ascending c.requires.below; placed = c.of.ensures })
