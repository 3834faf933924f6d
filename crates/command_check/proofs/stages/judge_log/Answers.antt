use Rattle.std.proofs.Common.{◌≡◌, ℕ, List, Option, Result, Err, true, ap, subst, ◌∙◌}
use Rattle.std.proofs.lemmas.Result.{err_from_is_err_and}
use Rattle.robin_io.specs.Outside.{Store, store_between}
use Rattle.refutation.specs.Logs.{log_of}
use Rattle.refutation.specs.Places.{Place, start}
use Rattle.refutation_check.specs.Judged.{Judged, no_step_of}
use Rattle.refutation_check.specs.Room.{has_room}
use Rattle.refutation_check.proofs.RoomLemmas.{room_of_none}
use Rattle.answers.specs.declared.reply.NoValue.{NoValue}
use Rattle.answers.specs.declared.reply.NoValue.TheVariants.{Room}
use Rattle.answers.proofs.StageLemmas.{Answers-wider}
use Rattle.command_check.specs.Check.{IsVerdictWithin, most_log_bytes, says_log}
use Rattle.command_check.specs.Feeding.{ChecksOn}
use Rattle.command_check.specs.Stopping.{PassesLimit}
use Rattle.command_check.proofs.StageLemmas.{log-file}
use Rattle.command_check.proofs.StoppingLemmas.{log-passes}
use Rattle.command_check.proofs.stages.judge_log.Goals as goal

-- the reader began in front of the log, and the checker with no step
pub returns-clause-answer : goal.returns-clause-answer
returns-clause-answer g c = λ rows vars none.
    let store : Store = store_between g.S.Shelf c.args.shelf.now c.log_in.new.shelf in
    let file = c.in_ok-steps.ensures.stage in
    let now = c.log_in.new.feed in
    let new = c.log_in.new.checker in
    let from_start : ChecksOn start c.args.checker.now file.bytes now new c.in_ok-steps.steps =
    subst (λ (at : Place). ChecksOn at c.args.checker.now file.bytes now new c.in_ok-steps.steps) c.new-feed.ensures
    file.checked in
    let from_none : ChecksOn start (no_step_of rows vars) file.bytes now new c.in_ok-steps.steps =
    subst (λ (s : Judged). ChecksOn start s file.bytes now new c.in_ok-steps.steps) none from_start in
    let begun : has_room c.args.limit c.args.checker.now ≡ true =
    ap (λ (s : Judged). has_room c.args.limit s) none ∙ room_of_none rows vars c.args.limit in
    Answers-wider _ _
    (log-file (store.contents c.args.name.now) (store.took_more most_log_bytes) (store.failed c.args.name.now)
    (λ bytes. says_log (log_of bytes) (IsVerdictWithin rows vars c.args.limit)) file.bytes file.file)
    c.verdict_on.result
    (c.verdict_on.ensures.verdict rows vars c.args.limit file.bytes from_none (c.in_ok-steps.ensures.within begun))

-- some first steps of the log pass the limit
pub returns-in_err-steps-clause-passes : goal.returns-in_err-steps-clause-passes
returns-in_err-steps-clause-passes g c = λ is rows vars none.
    let p = err_from_is_err_and c.from_residual.result c.from_residual.ensures.1 in
    let why : NoValue = c.in_err-steps.field-0.0 in
    let ended : c.from_residual.result ≡ Err p.0 = p.1 in
    let same : p.0 ≡ why = p.2 in
    let wanting : why ≡ Room = cc in
    let known : Option (List ℕ) = g.S.Shelf.contents c.args.shelf.now c.args.name.now in
    log-passes known c.args.limit rows vars c.args.checker.now c.log_in.new.checker none
    (subst (λ (at : Place). PassesLimit known c.args.limit at c.args.checker.now c.log_in.new.checker) c.new-feed.ensures
    (c.in_err-steps.ensures.full (ap (λ (w : NoValue). let r : Result ℕ NoValue = Err w in r) wanting)))
