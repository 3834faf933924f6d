-- Conflicts: hard constraints that no schedule meets together (an infeasible subset of constraints; where each is
-- needed, an irreducible one, or a minimal unsatisfiable one). `part_of league members` is the league of these alone.
use Rattle.std.specs.Prelude.{◌≡◌, ℕ, ◌<◌, ◌≤◌, ◌^◌, ◌⊎◌, true, List, [], length, Option, None, Some}
use Rattle.std.specs.List.{All, AllZip}
use Rattle.std.specs.Ordering.{nat_cmp}
use Rattle.league.specs.Accepted.{IsAccepted}
use Rattle.league.specs.Accepted as costs
use Rattle.league.specs.Counts.{counts_of}
use Rattle.league.specs.Instance.{Instance, IsGame}
use Rattle.league.specs.Order.{IsInOrder}
use Rattle.league.specs.Sets.{IsAscending}
use Rattle.league.specs.declared.game.Game.{Game}
use Rattle.explain.specs.Parts.{is_hard_number, part_of, without}
use Rattle.refutation.specs.Steps.{Step}
use Rattle.robin_watch.specs.Limits.{IsKeptTo}
use Rattle.decoding.specs.Excluded.{NoneAccepted}
use Rattle.solve.specs.Solutions.{IsSpentOn, RefutesLeague}
use Rattle.explain.specs.Cases.{is_decided}
use Rattle.explain.specs.declared.cases.Case.{Case}
use Rattle.explain.specs.declared.cases.Case.TheVariants.{Without, Undecided}
use Rattle.explain.specs.declared.explained.Explained.{Explained}
use Rattle.explain.specs.declared.explained.Explained.TheVariants.{Met, Conflict, Spent}

-- games of the league that it accepts, in order
pub record IsSeason (league : Instance) (games : List Game) : Type 0 where
  pub accepted : IsAccepted league (counts_of games)
  pub fit : All (IsGame league.n) games
  pub in_order : IsInOrder games

-- a log that is spent over the league's rows at the limit to which its search kept: the one that was set, or, where the
-- run may be stopped, a lower one
pub record IsSpentBy (league : Instance) (limit : Option ℕ) (may_stop : Type 0) (steps : List Step) : Type 0 where
  pub kept : Option ℕ
  pub is_kept : IsKeptTo limit may_stop kept
  pub spent : IsSpentOn league kept steps

-- what is written of a league that is neither solved nor refuted: such a log, or, where the run may be stopped, a log of
-- no step, since the league wasn't tried
abbrev pub IsOpenLog : Instance → Option ℕ → Type 0 → List Step → Type 0
IsOpenLog league limit may_stop log = IsSpentBy league limit may_stop log ⊎ (may_stop × (log ≡ []))

-- what a case says of the member k: a season of the league of the other members alone, or a log that leaves that league
-- open
abbrev pub IsCase : Instance → Option ℕ → Type 0 → List ℕ → ℕ → Case → Type 0
IsCase league limit may_stop members k (Without games) = IsSeason (part_of league (without k members)) games
IsCase league limit may_stop members k (Undecided log) =
    IsOpenLog (part_of league (without k members)) limit may_stop log

-- some hard constraints, a log that refutes the league of these alone, and a case for each of them
pub record IsConflict (league : Instance) (limit : Option ℕ) (may_stop : Type 0) (members : List ℕ) (log : List Step)
    (cases : List Case) : Type 0 where
  pub some : 0 < length members
  pub ascending : IsAscending nat_cmp members
  pub hard : All (λ k. is_hard_number league.constraints k ≡ true) members
  pub refuted : RefutesLeague (part_of league members) log
  pub each : AllZip (IsCase league limit may_stop members) members cases

-- no schedule meets these constraints, and without any one of them there is a season
pub record IsIrreducible (league : Instance) (members : List ℕ) : Type 0 where
  pub infeasible : NoneAccepted (part_of league members)
  pub needed : All (λ k. (games : List Game) × IsSeason (part_of league (without k members)) games) members

-- each case is a schedule
abbrev pub AreDecided : List Case → Type 0
AreDecided cases = All (λ case. is_decided case ≡ true) cases

-- what each answer says of the league, where each search learns at most so many clauses, and the run may be stopped or
-- not
abbrev pub IsExplanation : Instance → Option ℕ → Type 0 → Explained → Type 0
IsExplanation league limit may_stop (Met games objective) =
    IsSeason league games × (objective ≡ costs.objective league (counts_of games))
IsExplanation league limit may_stop (Conflict members log cases) = IsConflict league limit may_stop members log cases
IsExplanation league limit may_stop (Spent log) = IsSpentBy league limit may_stop log

-- a conflict of which each case is a schedule is irreducible
abbrev pub IsIrreducibleIfDecided : Instance → Explained → Type 0
IsIrreducibleIfDecided league (Met games objective) = Unit {0}
IsIrreducibleIfDecided league (Conflict members log cases) = AreDecided cases → IsIrreducible league members
IsIrreducibleIfDecided league (Spent log) = Unit {0}

-- ---- which answer it is

-- nothing is left open by a limit
abbrev pub IsDecided : Explained → Type 0
IsDecided (Met games objective) = Unit {0}
IsDecided (Conflict members log cases) = AreDecided cases
IsDecided (Spent log) = ⊥

abbrev pub HasSchedule : Explained → Type 0
HasSchedule (Met games objective) = Unit {0}
HasSchedule (Conflict members log cases) = ⊥
HasSchedule (Spent log) = ⊥

abbrev pub HasConflict : Explained → Type 0
HasConflict (Met games objective) = ⊥
HasConflict (Conflict members log cases) = Unit {0}
HasConflict (Spent log) = ⊥

-- a limit that no search over so many variables spends
abbrev pub IsAmple : ℕ → Option ℕ → Type 0
IsAmple vars None = Unit {0}
IsAmple vars (Some limit) = 3 ^ vars ≤ limit
