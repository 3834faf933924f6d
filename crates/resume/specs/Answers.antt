-- What is answered of a league whose first slots are played.
use Rattle.std.specs.Prelude.{◌≡◌, ◌≤◌, ℕ, List, Option}
use Rattle.std.specs.List.{All}
use Rattle.league.specs.Accepted as costs
use Rattle.league.specs.Counts.{counts_of}
use Rattle.league.specs.Instance.{Instance, IsGame}
use Rattle.league.specs.Order.{IsInOrder}
use Rattle.league.specs.declared.game.Game.{Game}
use Rattle.encoding.specs.Variables.{var_count}
use Rattle.refutation.specs.Steps.{Step}
use Rattle.clause_search.specs.Answers.{IsSpentAt, Refutes}
use Rattle.resume.specs.Kept.{resume_rows}
use Rattle.resume.specs.Resumable.{IsResumption, NoneResumes}
use Rattle.resume.specs.declared.resumed.Resumed.{Resumed}
use Rattle.resume.specs.declared.resumed.Resumed.TheVariants.{Schedule, Refuted, Spent}

-- games that the league accepts and that keep those played below slot k, in order, and what they cost
pub record IsResumedSeason (league : Instance) (played : List Game) (k : ℕ) (games : List Game) (objective : ℕ)
    : Type 0 where
  pub resumes : IsResumption league (counts_of played) k games
  pub fit : All (IsGame league.n) games
  pub in_order : IsInOrder games
  pub cost : objective ≡ costs.objective league (counts_of games)

-- a log that refutes the resume rows, so that there are no such games
pub record RefutesResuming (league : Instance) (played : List Game) (k : ℕ) (limit : Option ℕ) (steps : List Step)
    : Type 0 where
  pub refutes : Refutes (resume_rows league (counts_of played) k) (var_count league) limit steps
  pub none : NoneResumes league (counts_of played) k

-- what each answer says, where the search learns at most so many clauses
abbrev pub IsResumed : Instance → List Game → ℕ → Option ℕ → Resumed → Type 0
IsResumed league played k limit (Schedule games objective) = IsResumedSeason league played k games objective
IsResumed league played k limit (Refuted log) = RefutesResuming league played k limit log
IsResumed league played k limit (Spent log) =
    IsSpentAt (resume_rows league (counts_of played) k) (var_count league) limit log

-- what each answer says, where the search keeps to one of these limits
abbrev pub IsResumedBy : Instance → List Game → ℕ → (Option ℕ → Type 0) → Resumed → Type 0
IsResumedBy league played k limits resumed =
    (conflicts : Option ℕ) × limits conflicts × IsResumed league played k conflicts resumed

-- the answer is a schedule of just these games
abbrev pub IsPlan : List Game → Resumed → Type 0
IsPlan played (Schedule games objective) = counts_of games ≡ counts_of played
IsPlan played (Refuted log) = ⊥
IsPlan played (Spent log) = ⊥

-- the answer is a schedule that costs at least so much
abbrev pub CostsAtLeast : ℕ → Resumed → Type 0
CostsAtLeast least (Schedule games objective) = least ≤ objective
CostsAtLeast least (Refuted log) = ⊥
CostsAtLeast least (Spent log) = ⊥
