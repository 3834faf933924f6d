-- What `resume`, `resume --near` and `audit` promise is kept.
use Rattle.std.proofs.Common.{◌≡◌, ◌∷◌, [], ℕ, List, Ok, inl, inr, subst}
use Rattle.std.specs.Io.KnownBytes.{Appends}
use Rattle.robin_io.specs.Outside.{Output}
use Rattle.robin_watch.specs.Limits.{IsKeptTo}
use Rattle.league.specs.Instance.{Instance}
use Rattle.league.specs.declared.game.Game.{Game}
use Rattle.robinx.specs.Pieces.{pieces}
use Rattle.robinx.specs.SolutionFile.{solution_of}
use Rattle.command_line.specs.Words.Command.{Audit, Resume, ResumeNear}
use Rattle.answers.specs.Reply.{Answer}
use Rattle.answers.specs.declared.status.Status.TheVariants.{Yes, No, Refuted}
use Rattle.command_check.proofs.AnswerLemmas.{answered-as}
use Rattle.command_resume.specs.Audited.{IsVerdict}
use Rattle.command_resume.specs.Near.{IsKeptNear, IsNearBy, IsNearSeason}
use Rattle.command_resume.specs.Resumed.{IsFoundBy, IsKeptSeason, IsPlanned}
use Rattle.command_resume.proofs.AnswerLemmas.{audited-excluded, audited-kept, audited-well_formed, resumed-excluded, resumed-planned}
use Rattle.command_resume.proofs.AnswerLemmas.{neared-excluded, neared-season, neared-well_formed, resumed-well_formed}
use Rattle.robin_run.specs.Audit.{Audits}
use Rattle.robin_run.specs.Resume.{Resumes}
use Rattle.robin_run.specs.ResumeNear.{ResumesNear}
use Rattle.robin_run.specs.Run.{Answered, Run}
use Rattle.robin_run.proofs.RunLemmas.{writes, writes-as}

planned_whole : (league : Instance) (played : List Game) (k : ℕ) (answer : Answer) (output : Output)
    → IsPlanned league played k answer → Appends output.before output.after answer.text → IsKeptSeason league played k output
planned_whole league played k answer output planned written = record {
  games = planned.games;
  season = planned.season;
  written = subst (λ (text : List ℕ). Appends output.before output.after text) planned.text written;
  reads_back = subst (λ (text : List ℕ). solution_of league.n (pieces text) ≡ Ok planned.games) planned.text
      planned.reads_back;
}

pub resumes : (run : Run) → Answered run → Resumes run
resumes run answered instance solution k conflicts is = record {
  resumed = λ league played good works.
      writes run (instance ∷ solution ∷ []) (Resume instance solution k conflicts)
      (IsFoundBy league played k (IsKeptTo conflicts run.may_stop)) answered is works
      (λ answer given. resumed-well_formed run.store instance solution k (IsKeptTo conflicts run.may_stop) league played
      answer good works.store given);
  kept = λ league played say ended.
      let whole = writes-as run (Resume instance solution k conflicts) Yes answered is ended (λ same. cc) (λ same. cc) in
      planned_whole league played k whole.answer run.output
      (resumed-planned run.store instance solution k (IsKeptTo conflicts run.may_stop) league played whole.answer say
      whole.status_is whole.given)
      whole.written;
  unresumable = λ league played say ended.
      let whole = writes-as run (Resume instance solution k conflicts) Refuted answered is ended (λ same. cc)
      (λ same. cc) in
      resumed-excluded run.store instance solution k (IsKeptTo conflicts run.may_stop) league played whole.answer say
      whole.status_is whole.given;
}

near_whole : (league : Instance) (played : List Game) (k : ℕ) (may_stop : Type 0) (answer : Answer) (output : Output)
    → IsNearSeason league played k may_stop answer → Appends output.before output.after answer.text
    → IsKeptNear league played k may_stop output
near_whole league played k may_stop answer output near written = record {
  games = near.games;
  settled = near.settled;
  season = near.season;
  nearest = near.nearest;
  open_yet = near.open_yet;
  written = subst (λ (text : List ℕ). Appends output.before output.after text) near.text written;
  reads_back = subst (λ (text : List ℕ). solution_of league.n (pieces text) ≡ Ok near.games) near.text near.reads_back;
}

pub resumes-near : (run : Run) → Answered run → ResumesNear run
resumes-near run answered instance solution k budgets is = record {
  neared = λ league played good works.
      writes run (instance ∷ solution ∷ []) (ResumeNear instance solution k budgets)
      (IsNearBy league played k (IsKeptTo budgets.conflicts run.may_stop) run.may_stop) answered is works
      (λ answer given. neared-well_formed run.store instance solution k (IsKeptTo budgets.conflicts run.may_stop)
      run.may_stop league played answer good works.store given);
  changed = λ league played say ended.
      let whole = writes-as run (ResumeNear instance solution k budgets) Yes answered is ended (λ same. cc) (λ same. cc) in
      near_whole league played k run.may_stop whole.answer run.output
      (neared-season run.store instance solution k (IsKeptTo budgets.conflicts run.may_stop) run.may_stop league played
      whole.answer say whole.status_is whole.given)
      whole.written;
  unresumable = λ league played say ended.
      let whole = writes-as run (ResumeNear instance solution k budgets) Refuted answered is ended (λ same. cc)
      (λ same. cc) in
      neared-excluded run.store instance solution k (IsKeptTo budgets.conflicts run.may_stop) run.may_stop league played
      whole.answer say whole.status_is whole.given;
}

pub audits : (run : Run) → Answered run → Audits run
audits run answered instance solution k log is = record {
  audited = λ league played steps good works.
      writes run (instance ∷ solution ∷ log ∷ []) (Audit instance solution k log) (IsVerdict league played k run.room steps)
      answered is works
      (λ answer given. audited-well_formed run.store run.room instance solution k log league played steps answer good works.store
      given);
  within = λ league played steps good ended.
      elim ended [
        | inl accepted ↦
            let whole = writes-as run (Audit instance solution k log) Yes answered is accepted (λ same. cc) (λ same. cc) in
            audited-kept run.store run.room instance solution k log league played steps whole.answer good
            (answered-as whole.answer Yes whole.status_is (λ same. cc) (λ same. cc)) whole.given
        | inr rejected ↦
            let whole = writes-as run (Audit instance solution k log) No answered is rejected (λ same. cc) (λ same. cc) in
            audited-kept run.store run.room instance solution k log league played steps whole.answer good
            (answered-as whole.answer No whole.status_is (λ same. cc) (λ same. cc)) whole.given
      ];
  excluded = λ league played say ended.
      let whole = writes-as run (Audit instance solution k log) Yes answered is ended (λ same. cc) (λ same. cc) in
      audited-excluded run.store run.room instance solution k log league played whole.answer say whole.status_is whole.given;
}
