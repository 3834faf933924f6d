use Rattle.std.proofs.Common.{sym, ◌∙◌}
use Rattle.std.proofs.lemmas.Bool.{false≢true}
use Rattle.venue_counts.proofs.NumberedLemmas.{units-differ}
use Rattle.venue_counts.proofs.numbers.are_units.Goals as goal

pub returns-then-not-is_unit : goal.returns-then-not-is_unit
returns-then-not-is_unit c = (
  λ e. absurd (false≢true e),
  λ same. absurd (units-differ c.args.terms.now c.args.literals.now c.loop-k.k c.index-terms-k.result
      c.index-literals-k.result c.loop-k-test.true c.index-terms-k.is c.index-literals-k.is
      (λ e. false≢true (sym c.if-not-is_unit.true ∙ c.is_unit.ensures.1 e)) same),
)
