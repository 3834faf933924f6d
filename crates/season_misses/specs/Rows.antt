-- Reasons that are told in one line: those of windows in a row that hold the same games (CA3).
use Rattle.std.specs.Prelude.{ℕ, zero, suc, ◌+◌, Bool, true, false, ◌&&◌, ◌==◌, if◌then◌else◌, List, [], ◌∷◌}
use Rattle.league.specs.declared.game.Game.{Game}
use Rattle.season_misses.specs.declared.reason.Cause.{Cause}
use Rattle.season_misses.specs.declared.reason.Cause.TheVariants.{Window}
use Rattle.season_misses.specs.declared.reason.Reason.{Reason}

-- whether two games are the same
abbrev pub is_same_game : Game → Game → Bool
is_same_game g h = (g.home.0 == h.home.0) && (g.away.0 == h.away.0) && (g.slot.0 == h.slot.0)

-- whether two lists have the same games
abbrev pub are_same_games : List Game → List Game → Bool
are_same_games [] [] = true
are_same_games (g ∷ games) (h ∷ others) = is_same_game g h && are_same_games games others
are_same_games _ _ = false

-- whether a cause is the next window, with the same games
abbrev pub is_next_window : Cause → Cause → Bool
is_next_window (Window first games) (Window next others) = (first.0 + 1 == next.0) && are_same_games games others
is_next_window _ _ = false

-- whether a reason goes on from the one before it
abbrev pub goes_on : Reason → Reason → Bool
goes_on before reason = (before.key == reason.key) && is_next_window before.cause reason.cause

-- how many of the reasons behind one go on from it
abbrev pub more_windows : Reason → List Reason → ℕ
more_windows before [] = 0
more_windows before (reason ∷ reasons) = if goes_on before reason then 1 + more_windows reason reasons else 0

-- A row of a constraint: a reason, and how many more go on from it.
pub record Row : Type 0 where
  pub reason : Reason
  pub more : ℕ

-- the rows of reasons, of which so many go on from one before them
unfoldable pub rows_from : ℕ → List Reason → List Row
rows_from told [] = []
rows_from (suc told) (reason ∷ reasons) = rows_from told reasons
rows_from zero (reason ∷ reasons) =
    record { reason = reason; more = more_windows reason reasons } ∷ rows_from (more_windows reason reasons) reasons

-- the rows of reasons
abbrev pub rows_of : List Reason → List Row
rows_of reasons = rows_from 0 reasons
