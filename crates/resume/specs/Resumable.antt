-- The resume rows are faithful both ways: what they say of an assignment is that its schedule is accepted and keeps the
-- played games.
use Rattle.std.specs.Prelude.{◌≡◌, ◌↔◌, ℕ, ◌≤◌, Bool, List}
use Rattle.std.specs.List.{All}
use Rattle.league.specs.Accepted.{IsAccepted}
use Rattle.league.specs.Counts.{Counts, counts_of, slot_count}
use Rattle.league.specs.Instance.{Instance, IsGame, IsInstance}
use Rattle.league.specs.declared.game.Game.{Game}
use Rattle.rows.specs.Rows.{Row, SatisfiesAll, size_of}
use Rattle.encoding.specs.Shadow.{IsShadow, decoded}
use Rattle.encoding.specs.Variables.{has_breaks, var_count}
use Rattle.refutation.specs.Steps.{Step}
use Rattle.refutation.specs.Verdict.{verdict_of}
use Rattle.refutation.specs.declared.verdict.Verdict.TheVariants.{Accepted}
use Rattle.resume.specs.Kept.{Keeps, resume_rows, resume_size}

-- games that the league accepts, and that keep what was played below slot k
pub record IsResumption (league : Instance) (played : Counts) (k : ℕ) (games : List Game) : Type 0 where
  pub accepted : IsAccepted league (counts_of games)
  pub keeps : Keeps played k (counts_of games)

-- no games are accepted that keep what was played
abbrev pub NoneResumes : Instance → Counts → ℕ → Type 0
NoneResumes league played k = (games : List Game) → IsResumption league played k games → ⊥

-- some assignment satisfies all rows
abbrev pub IsSatisfiable : List Row → Type 0
IsSatisfiable rows = (values : ℕ → Bool) × SatisfiesAll values rows

-- an assignment that satisfies every resume row decodes to such games
abbrev pub AnswersResume : Type 0
AnswersResume =
    (league : Instance) (played : List Game) (k : ℕ) (values : ℕ → Bool) → IsInstance league
    → All (IsGame league.n) played → k ≤ slot_count league.n
    → SatisfiesAll values (resume_rows league (counts_of played) k)
    → IsResumption league (counts_of played) k (decoded league.n values)

-- the shadow of such games satisfies every resume row
abbrev pub ShadowsResume : Type 0
ShadowsResume =
    (league : Instance) (played games : List Game) (k : ℕ) (values : ℕ → Bool) → IsInstance league
    → k ≤ slot_count league.n → IsResumption league (counts_of played) k games
    → IsShadow league.n (has_breaks league.constraints) (counts_of games) values
    → SatisfiesAll values (resume_rows league (counts_of played) k)

-- the resume rows are satisfiable exactly where accepted games keep what was played
abbrev pub AreFaithful : Type 0
AreFaithful =
    (league : Instance) (played : List Game) (k : ℕ) → IsInstance league → All (IsGame league.n) played
    → k ≤ slot_count league.n
    → IsSatisfiable (resume_rows league (counts_of played) k)
    ↔ ((games : List Game) × IsResumption league (counts_of played) k games)

-- where a log is accepted over the resume rows, there are none
abbrev pub AcceptedLogsExclude : Type 0
AcceptedLogsExclude =
    (league : Instance) (played : List Game) (k : ℕ) (steps : List Step) → IsInstance league
    → k ≤ slot_count league.n
    → verdict_of (resume_rows league (counts_of played) k) (var_count league) steps ≡ Accepted
    → NoneResumes league (counts_of played) k

-- the rows have so many terms
abbrev pub HaveSize : Type 0
HaveSize =
    (league : Instance) (played : List Game) (k : ℕ)
    → size_of (resume_rows league (counts_of played) k) ≡ resume_size league k
