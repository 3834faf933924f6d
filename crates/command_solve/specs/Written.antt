-- What is written of what is found.
use Rattle.std.specs.Prelude.{◌≡◌, ℕ, ◌++◌, length, Some, Ok}
use Rattle.league.specs.Accepted as costs
use Rattle.league.specs.Counts.{counts_of}
use Rattle.league.specs.Instance.{Instance}
use Rattle.robinx.specs.Texts.{solution_text}
use Rattle.answers.specs.Reply.{Answer}
use Rattle.answers.specs.declared.status.Status.TheVariants as status
use Rattle.refutation.specs.Logs.{log_of}
use Rattle.refutation.specs.Texts.{log_text}
use Rattle.solve.specs.declared.solved.Solved.{Solved}
use Rattle.solve.specs.declared.solved.Solved.TheVariants.{Schedule, Refuted, Spent}
use Rattle.command_solve.specs.Solve.{descent_text}
use Rattle.command_solve.specs.Trial.{found_lines, league_lines}

-- a schedule with its objective and its descent, or a log, which reads back
abbrev pub IsWritten : Instance → Solved → Answer → Type 0
IsWritten league (Schedule games objective descent) answer =
    (answer.status ≡ status.Yes)
    × (answer.text
    ≡ solution_text games (Some (0, objective))
    ++ descent_text (costs.objective league (counts_of descent.first)) descent)
IsWritten league (Refuted log) answer =
    (answer.status ≡ status.Refuted) × (answer.text ≡ log_text log) × (log_of answer.text ≡ Ok log)
IsWritten league (Spent log patterns) answer =
    (answer.status ≡ status.Spent) × (answer.text ≡ log_text log) × (log_of answer.text ≡ Ok log)

-- a schedule of a league, behind the lines that call it that of a seed
abbrev pub IsTrialWritten : ℕ → Instance → Solved → Answer → Type 0
IsTrialWritten seed league (Schedule games objective descent) answer =
    (answer.status ≡ status.Yes)
    × (answer.text
    ≡ (league_lines league.n seed (length league.constraints)
    ++ found_lines objective (costs.objective league (counts_of descent.first)) (length descent.trail) descent.settled)
    ++ (solution_text games (Some (0, objective))
    ++ descent_text (costs.objective league (counts_of descent.first)) descent))
IsTrialWritten seed league (Refuted log) answer = ⊥
IsTrialWritten seed league (Spent log patterns) answer = ⊥
