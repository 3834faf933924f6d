-- What `patterns` promises: patterns that the pattern rows allow, a log that refutes these or the league, or a budget that
-- is spent.
use Rattle.std.specs.Prelude.{◌≡◌, ℕ, List, [], ◌∷◌, Option, Some}
use Rattle.league.specs.Instance.{Instance}
use Rattle.command_line.specs.Words.{Command}
use Rattle.answers.specs.declared.status.Status.TheVariants.{Refuted}
use Rattle.decoding.specs.Excluded.{NoneAccepted}
use Rattle.command_solve.specs.Solve.{IsWellFormedInstance}
use Rattle.command_solve.specs.Patterns.{AreFound}
use Rattle.robin_run.specs.Said.{SaysLeague}
use Rattle.robin_run.specs.Run.{NothingFails, Run, Writes}

pub record Promise (run : Run) (instance : List ℕ) (conflicts : Option ℕ) : Type 0 where
  -- What is found of the patterns of a well-formed league whose rows aren't too many is written, where nothing fails.
  pub patterned : (league : Instance)
      → IsWellFormedInstance run.store instance league
      → NothingFails run (instance ∷ [])
      → Writes run (AreFound league conflicts)
  -- Where the run ends with a refutation, the league accepts no list of games.
  pub patternless : (league : Instance)
      → SaysLeague run.store instance league
      → run.ended ≡ Refuted
      → NoneAccepted league

-- each run of `patterns` keeps it
abbrev pub FindsPatterns : Run → Type 0
FindsPatterns run =
    (instance : List ℕ) (conflicts : Option ℕ) → run.command ≡ Some (Command.Patterns instance conflicts)
    → Promise run instance conflicts
