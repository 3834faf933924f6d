-- What `explain` answers: its stages in their order, and what is found of a league.
use Rattle.std.specs.Prelude.{◌≡◌, ℕ, ◌⊎◌, true, List, codes, Option, Some, Ok}
use Rattle.std.specs.List.{All}
use Rattle.robin_io.specs.Outside.{Store}
use Rattle.league.specs.Accepted.{IsAccepted, objective}
use Rattle.league.specs.Counts.{counts_of}
use Rattle.league.specs.Instance.{Instance}
use Rattle.league.specs.declared.game.Game.{Game}
use Rattle.circle_method.specs.Circle.{double_games}
use Rattle.robinx.specs.Pieces.{pieces}
use Rattle.robinx.specs.InstanceFile.{instance_of}
use Rattle.robinx.specs.SolutionFile.{solution_of}
use Rattle.robinx.specs.Texts.{solution_text}
use Rattle.robinx.specs.declared.instance.TheConstants.{INSTANCE_LIMIT}
use Rattle.answers.specs.Reply.{Answer}
use Rattle.answers.specs.Stages.{◌>>=◌, Outcome, reads, says}
use Rattle.answers.specs.declared.status.Status.TheVariants.{Yes, Refuted, Spent}
use Rattle.encoding.specs.Variables.{var_count}
use Rattle.refutation.specs.Steps.{Step}
use Rattle.refutation.specs.Logs.{log_of}
use Rattle.refutation.specs.Texts.{log_text}
use Rattle.venue_counts.specs.VenueCounts.{are_crowded, are_short}
use Rattle.break_counts.specs.BreakCounts.{are_few}
use Rattle.command_check.specs.Check.{encodes}
use Rattle.explain.specs.Conflicts.{AreDecided, IsAmple, IsConflict, IsIrreducible, IsSeason, IsSpentBy}
use Rattle.explain.specs.declared.cases.Case.{Case}
use Rattle.command_explain.specs.Texts.{ReadsBack, conflict_text}

-- ---- what is found

-- a schedule that the league accepts is written, with its objective, and reads back as its games
pub record IsMet (league : Instance) (answer : Answer) : Type 0 where
  pub games : List Game
  pub season : IsSeason league games
  pub status : answer.status ≡ Yes
  pub text : answer.text ≡ solution_text games (Some (0, objective league (counts_of games)))
  pub reads_back : solution_of league.n (pieces answer.text) ≡ Ok games

-- Hard constraints that contradict each other are written, the log that refutes the league of these alone, and for each
-- a schedule that the league of the others accepts, or a log that leaves that league open. Where each has a schedule, no
-- schedule meets the named constraints and without any one of them there is one; with an ample budget each has, where
-- nothing may stop the run. The log and the cases that are written read back as they are.
pub record IsNamed (league : Instance) (conflicts : Option ℕ) (may_stop : Type 0) (answer : Answer) : Type 0 where
  pub members : List ℕ
  pub log : List Step
  pub cases : List Case
  pub conflict : IsConflict league conflicts may_stop members log cases
  pub irreducible : AreDecided cases → IsIrreducible league members
  pub decided : (may_stop → ⊥) → IsAmple (var_count league) conflicts → AreDecided cases
  pub status : answer.status ≡ Refuted
  pub text : answer.text ≡ conflict_text members log cases
  pub log_reads_back : log_of (log_text log) ≡ Ok log
  pub cases_read_back : All (ReadsBack league.n) cases

-- a log that is spent over the league's rows, at the budget or at the lower one to which a stopped run kept, is written,
-- and reads back as it
pub record IsBudgetSpent (league : Instance) (conflicts : Option ℕ) (may_stop : Type 0) (answer : Answer)
    : Type 0 where
  pub steps : List Step
  pub spent : IsSpentBy league conflicts may_stop steps
  pub status : answer.status ≡ Spent
  pub text : answer.text ≡ log_text steps
  pub reads_back : log_of answer.text ≡ Ok steps

-- What is found of a league, within a budget of conflicts a search. Where the league accepts the schedule of the circle
-- method, a schedule is; where its venue counts are short, or crowded, or it allows its teams too few breaks, a conflict
-- is, whatever the budget; and an ample budget isn't spent where nothing may stop the run.
pub record IsFound (league : Instance) (conflicts : Option ℕ) (may_stop : Type 0) (answer : Answer) : Type 0 where
  pub found : IsMet league answer
      ⊎ (IsNamed league conflicts may_stop answer ⊎ IsBudgetSpent league conflicts may_stop answer)
  pub ample : (may_stop → ⊥) → IsAmple (var_count league) conflicts → answer.status ≡ Spent → ⊥
  pub circle : IsAccepted league (counts_of (double_games league.n)) → answer.status ≡ Yes
  pub short : are_short league ≡ true → answer.status ≡ Refuted
  pub crowded : are_crowded league ≡ true → answer.status ≡ Refuted
  pub few : are_few league ≡ true → answer.status ≡ Refuted

-- ---- stages

-- `explain`, over what a store shows
abbrev pub explained : Store → List ℕ → Option ℕ → Type 0 → Outcome
explained store instance conflicts may_stop = do
  bytes ← reads store (codes "instance") instance INSTANCE_LIMIT 0
  league ← says (codes "instance") (instance_of (pieces bytes))
  rows ← encodes league
  IsFound league conflicts may_stop
