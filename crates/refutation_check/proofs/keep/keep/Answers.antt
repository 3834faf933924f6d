use Rattle.std.proofs.Common.{ℕ, ◌+◌, List, map, ap, sym, subst, ◌∙◌}
use Rattle.std.specs.Prelude.{Result, IfOk}
use Rattle.refutation.specs.declared.verdict.Cause.{Cause}
use Rattle.refutation_check.specs.Kept.{all_rows, judged_step}
use Rattle.refutation_check.specs.Room.{row_bytes, steps_bytes}
use Rattle.refutation_check.specs.Within.{AreWithin, IsWithin}
use Rattle.refutation_check.specs.declared.kept.KeptStep.{KeptStep}
use Rattle.refutation_check.proofs.KeptLemmas.{more_within}
use Rattle.refutation_check.proofs.RoomLemmas.{bytes_more}
use Rattle.refutation_check.proofs.keep.keep.Goals as goal

pub returns-in_ok-push-in-Ok-clause-within : goal.returns-in_ok-push-in-Ok-clause-within
returns-in_ok-push-in-Ok-clause-within c =
    λ rows vars within here. subst (λ (items : List KeptStep). AreWithin vars (all_rows rows items))
    (sym c.in_ok-push-in-Ok.ensures.items)
    (more_within rows vars c.args.steps.now.items c.in-Ok.step within
    (subst (λ (r : Result KeptStep Cause). IfOk r (λ step. IsWithin vars (judged_step step).row)) c.in-Ok.is here))

pub returns-in_ok-push-in-Ok-clause-counted : goal.returns-in_ok-push-in-Ok-clause-counted
returns-in_ok-push-in-Ok-clause-counted c =
    c.in-Some.ensures.1
    ∙ (ap (λ (n : ℕ). c.args.bytes.now + n) c.step_bytes.ensures
    ∙ (ap (λ (n : ℕ). n + row_bytes (judged_step c.in-Ok.step).row) c.requires.counted
    ∙ (sym (bytes_more c.args.steps.now.items c.in-Ok.step)
    ∙ ap (λ (items : List KeptStep). steps_bytes (map judged_step items)) (sym c.in_ok-push-in-Ok.ensures.items))))
