-- What `circle`, `make`, `trial`, `--help` and `--version` promise is kept.
use Rattle.std.proofs.Common.{◌≡◌, ◌≢◌, ℕ, [], inl, inr, ap, sym, ◌∙◌}
use Rattle.robin_watch.specs.declared.budgets.Budgets.{Budgets}
use Rattle.command_line.specs.Words.Command.{Circle, Help, Make, Trial, Version}
use Rattle.answers.specs.Reply.{Answer}
use Rattle.answers.specs.declared.status.Status.TheVariants.{Yes, File, Refuted, Spent}
use Rattle.command_check.proofs.AnswerLemmas.{encodes-small}
use Rattle.command_solve.specs.Circle.{circle_season}
use Rattle.answers.specs.Help.{help_answer, version_answer}
use Rattle.instance_gen.specs.Draws.{seeded}
use Rattle.instance_gen.specs.Made.{made_league}
use Rattle.command_solve.specs.MadeInstance.{IsMade}
use Rattle.command_solve.specs.Trial.{IsTrialBy, tried}
use Rattle.robin_run.specs.Circle.{WritesCircle}
use Rattle.robin_run.specs.Help.{Helps, TellsVersion}
use Rattle.robin_run.specs.Make.{Makes}
use Rattle.robin_run.specs.Run.{Answered, Run}
use Rattle.robin_run.specs.Trial.{Tries}
use Rattle.robin_run.proofs.RunLemmas.{writes, writes-as}

pub writes-circle : (run : Run) → Answered run → WritesCircle run
writes-circle run answered n is = record {
  seasoned = λ works.
      writes run [] (Circle n) (λ answer. answer ≡ circle_season n) answered is works (λ answer given. given);
}

pub makes : (run : Run) → Answered run → Makes run
makes run answered n seed is = record {
  made = λ works. writes run [] (Make n seed) (IsMade n seed) answered is works (λ answer given. given);
}

-- the answer's status is that of a schedule, or of rows that are too many
tried-status : (n seed : ℕ) (budgets : Budgets) (may_stop : Type 0) (answer : Answer)
    → tried n seed budgets may_stop answer
    → (answer.status ≢ Refuted) × (answer.status ≢ Spent)
tried-status n seed budgets may_stop answer (inl h) = (
  λ ended. let same : Yes ≡ Refuted = sym h.1.is_trial.status ∙ ended in cc,
  λ ended. let same : Yes ≡ Spent = sym h.1.is_trial.status ∙ ended in cc,
)
tried-status n seed budgets may_stop answer (inr h) =
    let is : answer.status ≡ File = ap (λ (a : Answer). a.status) h.1 in (
      λ ended. let same : File ≡ Refuted = sym is ∙ ended in cc,
      λ ended. let same : File ≡ Spent = sym is ∙ ended in cc,
    )

pub tries : (run : Run) → Answered run → Tries run
tries run answered n seed budgets is = record {
  tried = λ small works.
      writes run [] (Trial n seed budgets)
      (IsTrialBy n seed (made_league n (seeded seed)) budgets.moves run.may_stop) answered is works
      (λ answer given. encodes-small (made_league n (seeded seed))
      (λ rows. IsTrialBy n seed (made_league n (seeded seed)) budgets.moves run.may_stop) answer small given);
  found = (
    λ ended.
        let whole = writes-as run (Trial n seed budgets) Refuted answered is ended (λ same. cc) (λ same. cc) in
        (tried-status n seed budgets run.may_stop whole.answer whole.given).0 whole.status_is,
    λ ended.
        let whole = writes-as run (Trial n seed budgets) Spent answered is ended (λ same. cc) (λ same. cc) in
        (tried-status n seed budgets run.may_stop whole.answer whole.given).1 whole.status_is,
  );
}

pub helps : (run : Run) → Answered run → Helps run
helps run answered topic is = record {
  helped = λ works.
      writes run [] (Help topic) (λ answer. answer ≡ help_answer topic) answered is works (λ answer given. given);
}

pub tells-version : (run : Run) → Answered run → TellsVersion run
tells-version run answered is works =
    writes run [] Version (λ answer. answer ≡ version_answer) answered is works (λ answer given. given)
