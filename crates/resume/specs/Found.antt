-- What a search over resume rows found, said of the league alone.
use Rattle.std.specs.Prelude.{◌≡◌, ℕ, Bool, if◌then◌else◌, List, [], ◌∷◌, length}
use Rattle.league.specs.Accepted as costs
use Rattle.league.specs.Counts.{counts_of}
use Rattle.league.specs.Instance.{Instance}
use Rattle.league.specs.declared.game.Game.{Game}
use Rattle.rows.specs.Rows.{SatisfiesAll}
use Rattle.rows.specs.Values.{assigned}
use Rattle.encoding.specs.Encoding.{rows_of}
use Rattle.encoding.specs.Shadow.{decoded, game_of}
use Rattle.encoding.specs.Variables.{var_count, x_var}
use Rattle.clause_search.specs.declared.found.Found.{Found}
use Rattle.clause_search.specs.declared.found.Found.TheVariants as found
use Rattle.resume.specs.declared.resumed.Resumed.{Resumed}
use Rattle.resume.specs.declared.resumed.Resumed.TheVariants.{Schedule, Refuted, Spent}

-- the game of a meeting in a slot, where its variable is true
abbrev pub game_if_true : ℕ → (ℕ → Bool) → ℕ → ℕ × ℕ → List Game
game_if_true n values s p = if values (x_var n p.0 p.1 s) then game_of p s ∷ [] else []

-- the values that were found, if any, are those of the league's variables and satisfy its rows
abbrev pub MeetsLeague : Instance → Found → Type 0
MeetsLeague league (found.Sat values) =
    (length values ≡ var_count league) × SatisfiesAll (assigned values) (rows_of league)
MeetsLeague league (found.Refuted log) = Unit {0}
MeetsLeague league (found.Spent log) = Unit {0}

-- the answer is the schedule that was found, with what it costs, or the log
abbrev pub Tells : Instance → Found → Resumed → Type 0
Tells league (found.Sat values) (Schedule games objective) =
    (games ≡ decoded league.n (assigned values)) × (objective ≡ costs.objective league (counts_of games))
Tells league (found.Sat values) (Refuted log) = ⊥
Tells league (found.Sat values) (Spent log) = ⊥
Tells league (found.Refuted log) (Schedule games objective) = ⊥
Tells league (found.Refuted log) (Refuted told) = told ≡ log
Tells league (found.Refuted log) (Spent told) = ⊥
Tells league (found.Spent log) (Schedule games objective) = ⊥
Tells league (found.Spent log) (Refuted told) = ⊥
Tells league (found.Spent log) (Spent told) = told ≡ log
