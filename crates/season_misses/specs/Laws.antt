-- What the reasons of a constraint add up to, and which games they list.
use Rattle.std.specs.Prelude.{◌≡◌, ℕ, ◌<◌, Bool, true, false, List, [], ◌∷◌, ◌++◌, Contains, IsTrue}
use Rattle.std.specs.List.{All, filter, flat_map, sum_by}
use Rattle.league.specs.Counts.{counts_of}
use Rattle.league.specs.Deviation.{entry_of}
use Rattle.league.specs.Sets.{is_in}
use Rattle.league.specs.declared.class.Class.{Class}
use Rattle.league.specs.declared.class.Class.TheVariants.{Ca1, Ca2, Ca4, Ga1}
use Rattle.league.specs.declared.game.Game.{Game}
use Rattle.rule_core.specs.Ready.{entry_count}
use Rattle.rule_core.specs.Touched.{touched_keys}
use Rattle.season_misses.specs.Reasons.{reasons_at}
use Rattle.season_misses.specs.declared.reason.Cause.{Cause}
use Rattle.season_misses.specs.declared.reason.Cause.TheVariants.{Games, Window, Breaks, Lead, Gap}

-- at each key the amounts of the reasons add up to the entry
abbrev pub AddUp : ℕ → List Game → Class → Type 0
AddUp n games class =
    (key : ℕ) → key < entry_count class
    → sum_by (λ reason. reason.amount) (reasons_at n games class key) ≡ entry_of n (counts_of games) class key

-- the games that a cause lists
abbrev pub games_in : Cause → List Game
games_in (Games games) = games
games_in (Window first games) = games
games_in (Breaks breaks) = flat_map (λ found. found.games) breaks
games_in (Lead slot first second) = first ++ second
games_in (Gap earlier later) = earlier ∷ later ∷ []

-- each game that a reason lists is one that can change the entry
abbrev pub ListTouching : ℕ → List Game → Class → Type 0
ListTouching n games class =
    (key : ℕ) → key < entry_count class
    → All (λ reason. All (λ g. Contains (touched_keys class g) key) (games_in reason.cause))
    (reasons_at n games class key)

-- whether each entry of a class is one number of games, outside of two bounds
abbrev pub is_one_number : Class → Bool
is_one_number (Ca1 teams min max side slots) = true
is_one_number (Ca2 teams1 teams2 min max side slots) = true
is_one_number (Ca4 teams1 teams2 min max side span slots) = true
is_one_number (Ga1 meetings min max slots) = true
is_one_number _ = false

-- a reason of a class whose entries are so lists all games of the schedule that can change the entry, and no others
abbrev pub ListAllTouching : ℕ → List Game → Class → Type 0
ListAllTouching n games class =
    IsTrue (is_one_number class) → (key : ℕ) → key < entry_count class
    → All (λ reason. games_in reason.cause ≡ filter (λ g. is_in key (touched_keys class g)) games)
    (reasons_at n games class key)
