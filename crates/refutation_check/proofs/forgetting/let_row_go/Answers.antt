use Rattle.std.proofs.Common.{◌≡◌, ◌<◌, length, get_or, arith, ap, sym, ◌∙◌}
use Rattle.refutation_check.specs.Kept.{judged_step}
use Rattle.refutation_check.specs.Room.{row_bytes}
use Rattle.refutation_check.specs.declared.kept.KeptStep.{KeptStep}
use Rattle.refutation_check.proofs.GoneLemmas.{bytes_least, gone-bytes, gone-steps, gone-within}
use Rattle.refutation_check.proofs.forgetting.let_row_go.Goals as goal

pub overflow_sub-freed : goal.overflow_sub-freed
overflow_sub-freed c = omega (arith, c.step_bytes-freed.ensures, bytes_least (judged_step c.index.result.now).row)

pub overflow_sub-bytes : goal.overflow_sub-bytes
overflow_sub-bytes c =
    let step : KeptStep = c.index.result.now in
    let within : c.args.place < length c.args.steps.now.items = omega (arith, c.len-count.ensures, c.if-count-eq0.false, c.if-place-count.false) in
    let read : row_bytes (judged_step (get_or c.args.steps.now.items c.args.place step)).row ≡ c.step_bytes-freed.result =
    ap (λ (s : KeptStep). row_bytes (judged_step s).row) (sym c.index.ensures) ∙ sym c.step_bytes-freed.ensures in
    omega (
      arith,
      read,
      c.requires.counted,
      gone-bytes c.args.steps.now.items c.args.place c.gone.result step c.gone.ensures within,
    )

pub returns-clause-steps : goal.returns-clause-steps
returns-clause-steps c =
    gone-steps c.args.steps.now.items c.args.place c.gone.result c.gone.ensures
    (omega (arith, c.len-count.ensures, c.if-count-eq0.false, c.if-place-count.false))

pub returns-clause-counted : goal.returns-clause-counted
returns-clause-counted c =
    let step : KeptStep = c.index.result.now in
    let within : c.args.place < length c.args.steps.now.items = omega (arith, c.len-count.ensures, c.if-count-eq0.false, c.if-place-count.false) in
    let read : row_bytes (judged_step (get_or c.args.steps.now.items c.args.place step)).row ≡ c.step_bytes-freed.result =
    ap (λ (s : KeptStep). row_bytes (judged_step s).row) (sym c.index.ensures) ∙ sym c.step_bytes-freed.ensures in
    omega (
      arith,
      read,
      c.requires.counted,
      c.step_bytes-freed.ensures,
      bytes_least (judged_step step).row,
      gone-bytes c.args.steps.now.items c.args.place c.gone.result step c.gone.ensures within,
    )

pub returns-clause-freed : goal.returns-clause-freed
returns-clause-freed c =
    let step : KeptStep = c.index.result.now in
    let within : c.args.place < length c.args.steps.now.items = omega (arith, c.len-count.ensures, c.if-count-eq0.false, c.if-place-count.false) in
    let read : row_bytes (judged_step (get_or c.args.steps.now.items c.args.place step)).row ≡ c.step_bytes-freed.result =
    ap (λ (s : KeptStep). row_bytes (judged_step s).row) (sym c.index.ensures) ∙ sym c.step_bytes-freed.ensures in
    omega (
      arith,
      read,
      c.requires.counted,
      gone-bytes c.args.steps.now.items c.args.place c.gone.result step c.gone.ensures within,
    )

pub returns-clause-within : goal.returns-clause-within
returns-clause-within c = λ rows vars within.
    gone-within vars rows c.args.steps.now.items c.args.place c.gone.result c.gone.ensures within
