use Rattle.std.proofs.Common.{◌≡◌, Result, Err, false, take, ap, refl, sym, subst, ◌∙◌}
use Rattle.std.specs.List.{fold}
use Rattle.std.proofs.lemmas.Result.{err_from_is_err_and}
use Rattle.refutation_check.specs.Judged.{Judged, after_step, verdict_so_far}
use Rattle.refutation_check.specs.Room.{has_room}
use Rattle.refutation_check.specs.declared.fault.StepsFault.{StepsFault}
use Rattle.refutation_check.specs.declared.fault.StepsFault.TheVariants.{Full}
use Rattle.refutation_check.proofs.RoomLemmas.{keeps_room}
use Rattle.refutation_check.proofs.StateLemmas.{same_ok}
use Rattle.refutation_check.proofs.SoundLemmas.{accepted_logs_refute}
use Rattle.refutation_check.proofs.VerdictLemmas.{steps_give_verdict}
use Rattle.refutation_check.proofs.whole.check_within.Goals as goal

pub returns-clause-verdict : goal.returns-clause-verdict
returns-clause-verdict c =
    c.verdict.ensures
    ∙ (c.in_ok-judge_all.ensures.verdict
    ∙ (ap (λ (s : Judged). verdict_so_far (fold after_step s c.args.log.now)) c.in_ok-checker.ensures
    ∙ steps_give_verdict c.args.rows.now c.args.vars c.args.log.now))

pub returns-clause-refuted : goal.returns-clause-refuted
returns-clause-refuted c =
    λ accepted. accepted_logs_refute c.args.rows.now c.args.vars c.args.log.now
    (sym (c.verdict.ensures
    ∙ (c.in_ok-judge_all.ensures.verdict
    ∙ (ap (λ (s : Judged). verdict_so_far (fold after_step s c.args.log.now)) c.in_ok-checker.ensures
    ∙ steps_give_verdict c.args.rows.now c.args.vars c.args.log.now)))
    ∙ same_ok accepted)

pub returns-clause-within : goal.returns-clause-within
returns-clause-within c =
    keeps_room c.args.rows.now c.args.vars c.args.room c.args.log.now c.in_ok-checker.checker
    (fold after_step c.in_ok-checker.checker c.args.log.now) c.in_ok-checker.ensures refl
    c.in_ok-judge_all.ensures.within

pub returns-in_err-judge_all-clause-full : goal.returns-in_err-judge_all-clause-full
returns-in_err-judge_all-clause-full c = λ is.
    let p = err_from_is_err_and c.from_residual-in_err-judge_all.result c.from_residual-in_err-judge_all.ensures.1 in
    let fault : StepsFault = c.in_err-judge_all.field-0.0 in
    let ended : c.from_residual-in_err-judge_all.result ≡ Err p.0 = p.1 in
    let same : p.0 ≡ fault = p.2 in
    let full : fault ≡ Full = cc in
    let some = c.in_err-judge_all.ensures.full
    (ap (λ (f : StepsFault). let r : Result (Unit {0}) StepsFault = Err f in r) full) in (
      some.0,
      some.1,
      subst (λ (s : Judged). has_room c.args.room (fold after_step s (take some.0 c.args.log.now)) ≡ false)
          c.in_ok-checker.ensures some.2,
    )
