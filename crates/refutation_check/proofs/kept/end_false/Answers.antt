use Rattle.std.proofs.Common.{sym, ◌∙◌}
use Rattle.refutation_check.proofs.StateLemmas.{ends_last}
use Rattle.refutation_check.proofs.kept.end_false.Goals as goal

pub returns-in-Some : goal.returns-in-Some
returns-in-Some c =
    c.is_falsum.ensures ∙ sym (ends_last c.args.steps.now c.in-Some.step.now (sym c.in-Some.ensures.value))
