use Rattle.std.proofs.Common.{◌≡◌, ◌≤◌, Option, ℕ, List, codes, subst, sym}
use Rattle.robin_io.specs.Outside.{Store, store_between}
use Rattle.league.specs.Counts.{slot_count}
use Rattle.encoding.specs.Variables.{var_count}
use Rattle.refutation.specs.Logs.{log_of}
use Rattle.answers.specs.SeenReply.{Answers}
use Rattle.answers.specs.Stages.{reads}
use Rattle.answers.proofs.StageLemmas.{Answers-wider}
use Rattle.command_check.specs.Check.{LogPassesRoom, most_log_bytes, says_log}
use Rattle.resume.specs.Systems.{PartlyPlayed, rows_for}
use Rattle.command_resume.specs.Audited.{IsVerdict}
use Rattle.command_resume.proofs.StageLemmas.{read-verdict}
use Rattle.command_resume.proofs.audited.audit_log.Goals as goal

-- where the verdict over the resume rows says yes, no accepted schedule keeps the played games
pub returns-clause-answer : goal.returns-clause-answer
returns-clause-answer g c =
    let store : Store = store_between g.S.Shelf c.args.shelf.now c.judge_log.new.shelf in
    let system : PartlyPlayed = c.in_ok-system.system in
    let slots : system.k ≤ slot_count system.league.n =
    subst (λ (s : PartlyPlayed). s.k ≤ slot_count s.league.n) (sym c.in_ok-system.ensures) c.requires.slots in
    subst
    (λ (s : PartlyPlayed).
    Answers (reads store (codes "log") c.args.name.now most_log_bytes 0
    (λ bytes. says_log (log_of bytes) (IsVerdict s.league s.played s.k c.args.limit))) c.judge_log.result)
    c.in_ok-system.ensures
    (Answers-wider _ _
    (λ answer. read-verdict (store.contents c.args.name.now) (store.took_more most_log_bytes)
    (store.failed c.args.name.now) system.league system.played system.k c.args.limit answer
    c.in_ok-checker.ensures.instance slots)
    c.judge_log.result
    (c.judge_log.ensures.answer (rows_for system) (var_count system.league) c.in_ok-checker.ensures.checker))

pub returns-clause-full : goal.returns-clause-full
returns-clause-full g c = λ is.
    subst
    (λ (s : PartlyPlayed).
    LogPassesRoom (g.S.Shelf.contents c.args.shelf.now c.args.name.now) (rows_for s) (var_count s.league) c.args.limit)
    c.in_ok-system.ensures
    (c.judge_log.ensures.passes is (rows_for c.in_ok-system.system) (var_count c.in_ok-system.system.league)
    c.in_ok-checker.ensures.checker)
