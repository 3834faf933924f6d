use Rattle.std.proofs.Common.{sym, ◌∙◌}
use Rattle.refutation.proofs.LineLemmas.{clause-behind}
use Rattle.refutation.proofs.line.clause_at.Goals as goal

pub returns-then-is_some : goal.returns-then-is_some
returns-then-is_some c =
    clause-behind _ _ c.in-Some.left _ _ (rw c.in-Some.is at c.in_ok-small_literals.ensures) _ _ _ _
    c.in_ok-small_hints.ensures (sym c.is_some.ensures ∙ c.if-is_some.true)
