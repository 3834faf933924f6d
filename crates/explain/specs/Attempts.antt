-- What a try of a league came to.
use Rattle.std.specs.Prelude.{◌≡◌, ℕ, Option}
use Rattle.league.specs.Accepted as costs
use Rattle.league.specs.Counts.{counts_of}
use Rattle.league.specs.Instance.{Instance}
use Rattle.solve.specs.Solutions.{RefutesLeague}
use Rattle.explain.specs.Conflicts.{IsSeason, IsSpentBy}
use Rattle.explain.specs.declared.attempt.Attempt.{Attempt}
use Rattle.explain.specs.declared.attempt.Attempt.TheVariants.{Met, Refuted, Spent}

-- what a try says is true of the league, where a search learns at most so many clauses, and the run may be stopped or not
abbrev pub IsAttempt : Instance → Option ℕ → Type 0 → Attempt → Type 0
IsAttempt league limit may_stop (Met games objective) =
    IsSeason league games × (objective ≡ costs.objective league (counts_of games))
IsAttempt league limit may_stop (Refuted log) = RefutesLeague league log
IsAttempt league limit may_stop (Spent log) = IsSpentBy league limit may_stop log

-- a try came to a schedule
abbrev pub IsMet : Attempt → Type 0
IsMet (Met games objective) = Unit {0}
IsMet (Refuted log) = ⊥
IsMet (Spent log) = ⊥

-- a try came to a log that refutes
abbrev pub IsRefuted : Attempt → Type 0
IsRefuted (Met games objective) = ⊥
IsRefuted (Refuted log) = Unit {0}
IsRefuted (Spent log) = ⊥
