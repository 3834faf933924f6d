-- What `prove` promises of a floor is kept.
use Rattle.std.proofs.Common.{◌∷◌, [], ◌≡◌, ℕ, List, Option, Some, subst}
use Rattle.std.specs.Io.KnownBytes.{Appends}
use Rattle.robin_io.specs.Outside.{Output}
use Rattle.robin_watch.specs.Limits.{IsKeptTo}
use Rattle.league.specs.Instance.{Instance}
use Rattle.league.specs.declared.game.Game.{Game}
use Rattle.command_line.specs.Words.Command.{Prove}
use Rattle.answers.specs.Reply.{Answer}
use Rattle.answers.specs.declared.status.Status.TheVariants.{Yes, Better, Spent}
use Rattle.command_prove.specs.Floor as floors
use Rattle.command_prove.specs.Floor.{IsFloorShownBy, IsShownWith}
use Rattle.command_prove.specs.Prove.{proved}
use Rattle.command_prove.proofs.FloorAnswers.{FloorShowsAs, floor-known}
use Rattle.command_prove.proofs.ProveAnswers.{proved-well_formed}
use Rattle.command_resume.specs.Seasons.{SaySeason}
use Rattle.robin_run.specs.Prove.{FloorPromise, IsMissed, IsReached, IsUndercut}
use Rattle.robin_run.specs.Run.{Answered, Run}
use Rattle.robin_run.proofs.RunLemmas.{writes, writes-as}

reached : (league : Instance) (asked : ℕ) (games : List Game) (answer : Answer) (output : Output)
    → floors.IsReached league asked games answer → Appends output.before output.after answer.text
    → IsReached league asked games output
reached league asked games answer output shown written = record {
  bound = shown.bound;
  steps = shown.steps;
  accepted = shown.accepted;
  reached = shown.reached;
  least = shown.least;
  certified = shown.proves;
  written = subst (λ (text : List ℕ). Appends output.before output.after text) shown.text written;
}

undercut : (league : Instance) (asked : ℕ) (games : List Game) (answer : Answer) (output : Output)
    → floors.IsUndercut league asked games answer → Appends output.before output.after answer.text
    → IsUndercut league asked games output
undercut league asked games answer output (shown, under) written = record {
  better = shown.better;
  accepted = shown.accepted;
  better_accepted = shown.better_accepted;
  fit = shown.fit;
  lower = shown.lower;
  under = under;
  written = subst (λ (text : List ℕ). Appends output.before output.after text) shown.text written;
}

missed : (league : Instance) (asked : ℕ) (conflicts : Option ℕ) (games : List Game) (answer : Answer) (output : Output)
    → floors.IsMissed league asked conflicts games answer → Appends output.before output.after answer.text
    → IsMissed league asked games output
missed league asked conflicts games answer output shown written = record {
  bound = shown.bound;
  floor = shown.floor;
  steps = shown.steps;
  accepted = shown.accepted;
  least = shown.certified.least;
  below = shown.below;
  certified = shown.certified.proves;
  reads_back = shown.certified.reads_back;
  written = subst (λ (text : List ℕ). Appends output.before output.after text) shown.text written;
}

-- what an answer shows of the games of two files, by its status
floor-by : (run : Run) (instance solution : List ℕ) (asked : ℕ) (conflicts : Option ℕ) (league : Instance)
    (games : List Game) (answer : Answer) → SaySeason run.store instance solution league games
    → proved run.store instance solution (IsShownWith (Some asked) (IsKeptTo conflicts run.may_stop) run.may_stop) answer
    → FloorShowsAs league asked games answer
floor-by run instance solution asked conflicts league games answer say given =
    floor-known run.store instance solution say.first say.second league games asked (IsKeptTo conflicts run.may_stop)
    run.may_stop answer say.first_known say.second_known say.says_league say.says_played given

pub shows-floor : (run : Run) → Answered run → (instance solution : List ℕ) (asked : ℕ) (conflicts : Option ℕ)
    → run.command ≡ Some (Prove instance solution (Some asked) conflicts)
    → FloorPromise run instance solution asked conflicts
shows-floor run answered instance solution asked conflicts is = record {
  shown = λ league games good works.
      writes run (instance ∷ solution ∷ []) (Prove instance solution (Some asked) conflicts)
      (IsFloorShownBy league asked (IsKeptTo conflicts run.may_stop) games) answered is works
      (λ answer given. proved-well_formed run.store instance solution league games
      (IsShownWith (Some asked) (IsKeptTo conflicts run.may_stop) run.may_stop) answer good works.store given);
  reached = λ league games say ended.
      let whole = writes-as run (Prove instance solution (Some asked) conflicts) Yes answered is ended (λ same. cc) (λ same. cc) in
      reached league asked games whole.answer run.output
      ((floor-by run instance solution asked conflicts league games whole.answer say whole.given).reached whole.status_is)
      whole.written;
  undercut = λ league games say ended.
      let whole = writes-as run (Prove instance solution (Some asked) conflicts) Better answered is ended (λ same. cc) (λ same. cc) in
      undercut league asked games whole.answer run.output
      ((floor-by run instance solution asked conflicts league games whole.answer say whole.given).undercut whole.status_is)
      whole.written;
  missed = λ league games say ended.
      let whole = writes-as run (Prove instance solution (Some asked) conflicts) Spent answered is ended (λ same. cc) (λ same. cc) in
      let shown = (floor-by run instance solution asked conflicts league games whole.answer say whole.given).missed
      whole.status_is in
      missed league asked shown.0 games whole.answer run.output shown.1 whole.written;
}
