-- What is found of a made league, answered.
use Rattle.std.proofs.Common.{◌≡◌, ℕ, ◌++◌, List, length, Some, Result, Ok, Err, ap, refl, subst, sym, ◌∙◌}
use Rattle.std.specs.Prelude.{IfOk}
use Rattle.robin_watch.specs.declared.budgets.Budgets.{Budgets}
use Rattle.league.specs.Accepted as costs
use Rattle.league.specs.Accepted.{IsAccepted}
use Rattle.league.specs.Counts.{counts_of}
use Rattle.league.specs.Instance.{Instance, IsTeamCount}
use Rattle.league.specs.declared.game.Game.{Game}
use Rattle.circle_method.specs.Circle.{double_games}
use Rattle.robinx.specs.Texts.{solution_text}
use Rattle.answers.specs.Reply.{Answer}
use Rattle.answers.specs.SeenReply.{Answers, answer_of}
use Rattle.answers.specs.declared.reply.NoValue.{NoValue}
use Rattle.answers.specs.declared.reply.Reply.{Reply}
use Rattle.answers.specs.declared.status.Status.TheVariants.{Yes}
use Rattle.descent.specs.Descended.{Descended}
use Rattle.command_check.specs.Check.{encodes}
use Rattle.instance_gen.specs.Draws.{seeded}
use Rattle.instance_gen.specs.Made.{made_league}
use Rattle.solve.specs.Solutions as solutions
use Rattle.solve.specs.declared.solved.Solved.{Solved}
use Rattle.solve.specs.declared.solved.Solved.TheVariants as answers
use Rattle.command_solve.specs.Solve.{descent_text}
use Rattle.command_solve.proofs.SolveFound.{schedule-told}
use Rattle.command_solve.specs.Trial.{IsTrial, IsTrialBy, found_lines, league_lines, tried}
use Rattle.command_solve.specs.Written.{IsTrialWritten}

-- what the first schedule of a descent costs
abbrev first_cost : Instance → Descended → ℕ
first_cost league descent = costs.objective league (counts_of descent.first)

-- what `solve` writes
abbrev solved_text : Instance → List Game → ℕ → Descended → List ℕ
solved_text league games objective descent =
    solution_text games (Some (0, objective)) ++ descent_text (first_cost league descent) descent

-- the lines before it
abbrev lines_with : ℕ → Instance → ℕ → Descended → List ℕ
lines_with seed league objective descent =
    league_lines league.n seed (length league.constraints)
    ++ found_lines objective (first_cost league descent) (length descent.trail) descent.settled

trial-told : (seed : ℕ) (league : Instance) (moves : ℕ) (may_stop : Type 0) (games : List Game) (objective : ℕ)
    (descent : Descended) (answer : Answer) → IsTeamCount league.n
    → solutions.IsSchedule league moves may_stop games objective descent → answer.status ≡ Yes
    → answer.text ≡ lines_with seed league objective descent ++ solved_text league games objective descent
    → IsTrial league.n seed league moves may_stop answer
trial-told seed league moves may_stop games objective descent answer teams schedule status text =
    let solved : Answer = record { status = Yes; text = solved_text league games objective descent } in
    record {
      solved = solved;
      schedule = schedule-told league moves may_stop games objective descent solved teams schedule refl refl;
      status = status;
      text = text
          ∙ ap (λ (cost : ℕ). lines_with seed league cost descent ++ solved_text league games objective descent)
          schedule.cost;
    }

-- what is written is a trial
written-trial : (seed : ℕ) (league : Instance) (budgets : Budgets) (may_stop : Type 0) (solved : Solved)
    (answer : Answer) → IsTeamCount league.n → solutions.IsSolution league budgets may_stop solved
    → IsTrialWritten seed league solved answer → IsTrial league.n seed league budgets.moves may_stop answer
written-trial seed league budgets may_stop (answers.Schedule games objective descent) answer teams schedule written =
    trial-told seed league budgets.moves may_stop games objective descent answer teams schedule written.0 written.1
written-trial seed league budgets may_stop (answers.Refuted log) answer teams refutes written = absurd written
written-trial seed league budgets may_stop (answers.Spent log patterns) answer teams spent written = absurd written

-- what is written of a reply, unless memory ran out
pub replied-trial : {E : Type 0} (seed : ℕ) (league : Instance) (solved : Solved) (games : List Game) (objective : ℕ)
    (descent : Descended) (result : Result Reply E) → solved ≡ answers.Schedule games objective descent
    → IfOk result (λ reply. (answer_of reply).status ≡ Yes)
    → IfOk result (λ reply. (answer_of reply).text
    ≡ lines_with seed league objective descent ++ solved_text league games objective descent)
    → IfOk result (λ reply. IsTrialWritten seed league solved (answer_of reply))
replied-trial {E} seed league solved games objective descent (Ok reply) is status text =
    subst (λ (s : Solved). IsTrialWritten seed league s (answer_of reply)) (sym is) (status, text)
replied-trial {E} seed league solved games objective descent (Err error) is status text = tt

-- ---- the made league

-- the schedule of the circle method for its teams is the one that it accepts
pub accepts-own : (n seed : ℕ) (league : Instance) → league ≡ made_league n (seeded seed)
    → IsAccepted league (counts_of (double_games n)) → IsAccepted league (counts_of (double_games league.n))
accepts-own n seed league is accepts =
    subst (λ (k : ℕ). IsAccepted league (counts_of (double_games k))) (sym (ap (λ (l : Instance). l.n) is)) accepts

-- what is found of it, said of its numbers
pub replied-tried : (n seed : ℕ) (budgets : Budgets) (may_stop : Type 0) (league : Instance)
    (result : Result Reply NoValue) → league ≡ made_league n (seeded seed)
    → Answers (encodes league (λ rows. IsTrialBy league.n seed league budgets.moves may_stop)) result
    → Answers (tried n seed budgets may_stop) result
replied-tried n seed budgets may_stop league result is found =
    subst (λ (l : Instance). Answers (encodes l (λ rows. IsTrialBy l.n seed l budgets.moves may_stop)) result) is found

-- ---- within the budgets to which the run kept

pub trial-by : (seed : ℕ) (league : Instance) (budgets : Budgets) (may_stop : Type 0) (solved : Solved) (reply : Reply)
    → IsTeamCount league.n → solutions.IsSolutionBy league budgets may_stop solved
    → IsTrialWritten seed league solved (answer_of reply)
    → IsTrialBy league.n seed league budgets.moves may_stop (answer_of reply)
trial-by seed league budgets may_stop solved reply teams by written = record {
  kept = by.kept.moves;
  is_kept = by.are_kept.moves;
  is_trial = written-trial seed league by.kept may_stop solved (answer_of reply) teams by.solution written;
}
