-- What `explain` promises: a season, or hard constraints that contradict each other.
use Rattle.std.specs.Prelude.{◌≡◌, ℕ, ◌<◌, true, List, [], ◌∷◌, ◌++◌, length, codes, Option, Some}
use Rattle.std.specs.Io.KnownBytes.{Appends}
use Rattle.std.specs.List.{All}
use Rattle.std.specs.Ordering.{nat_cmp}
use Rattle.robin_io.specs.Outside.{Output}
use Rattle.league.specs.Instance.{Instance}
use Rattle.league.specs.Sets.{IsAscending}
use Rattle.explain.specs.Parts.{is_hard_number, part_of}
use Rattle.command_line.specs.Words.{Command}
use Rattle.answers.specs.declared.status.Status.TheVariants.{Refuted}
use Rattle.decoding.specs.Excluded.{NoneAccepted}
use Rattle.command_solve.specs.Solve.{IsWellFormedInstance}
use Rattle.explain.specs.Conflicts.{IsIrreducible}
use Rattle.command_explain.specs.Explained.{IsFound}
use Rattle.command_explain.specs.Texts.{members_line}
use Rattle.robin_run.specs.Said.{SaysLeague}
use Rattle.robin_run.specs.Readable.{IsReadable}
use Rattle.robin_run.specs.Run.{NothingFails, Run, Writes}

-- The first line that is written has the numbers of some hard constraints, and the league of these alone accepts no
-- list of games. Where `minimal yes` comes next, the league of all but any one of them accepts one.
pub record IsContradiction (league : Instance) (output : Output) : Type 0 where
  pub members : List ℕ
  pub rest : List ℕ
  pub some : 0 < length members
  pub ascending : IsAscending nat_cmp members
  pub hard : All (λ k. is_hard_number league.constraints k ≡ true) members
  pub written : Appends output.before output.after (members_line members ++ rest)
  pub infeasible : NoneAccepted (part_of league members)
  pub minimal : (later : List ℕ) → rest ≡ codes "minimal yes\n" ++ later → IsIrreducible league members

pub record Promise (run : Run) (instance : List ℕ) (conflicts : Option ℕ) : Type 0 where
  -- What is found of a well-formed league whose rows aren't too many is written, where nothing fails: an accepted
  -- season, constraints with a log and a season or a spent log for each, or a log that is spent at the budget. The budget
  -- is the one that was set, or, where the run may be stopped, a lower one; then a log of no step says that the others of
  -- a constraint weren't tried.
  pub explained : (league : Instance)
      → IsWellFormedInstance run.store instance league
      → NothingFails run (instance ∷ [])
      → Writes run (IsFound league conflicts run.may_stop)
  -- Where constraints are named, the league of these alone accepts no list of games.
  pub contradictory : (league : Instance)
      → SaysLeague run.store instance league
      → run.ended ≡ Refuted
      → IsContradiction league run.output
  -- The log and the seasons that are written with them read back, and `check` accepts that log over the league of these
  -- constraints alone.
  pub readable : (league : Instance)
      → SaysLeague run.store instance league
      → run.ended ≡ Refuted
      → IsReadable league conflicts run.may_stop run.output

-- each run of `explain` keeps it
abbrev pub Explains : Run → Type 0
Explains run =
    (instance : List ℕ) (conflicts : Option ℕ) → run.command ≡ Some (Command.Explain instance conflicts)
    → Promise run instance conflicts
