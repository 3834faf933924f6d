use Rattle.std.proofs.Common.{◌-◌, ℕ, ap, arith, ◌∙◌}
use Rattle.refutation_check.proofs.KeptLemmas.{behind_some}
use Rattle.refutation_check.proofs.named.named_row.Goals as goal

pub returns-in-Some-clause-row : goal.returns-in-Some-clause-row
returns-in-Some-clause-row c =
    c.row_of_step.ensures.row
    ∙ behind_some c.args.rows.now c.args.steps.now c.args.number (c.args.number - 1 - c.len-count.result)
    c.in-Some.step.now c.if-number-eq0.false (omega (arith, c.len-count.ensures.len))
    (ap (λ (n : ℕ). c.args.number - 1 - n) c.len-count.ensures.len) c.in-Some.ensures.lookup.3.0
    (c.in-Some.ensures.lookup.3.1 c.in-Some.step.now)
