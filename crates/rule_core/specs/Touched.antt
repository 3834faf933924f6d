-- Which entries of a constraint one game can change, by class, how many at most, and which teams' games can (own).
use Rattle.std.specs.Prelude.{ℕ, ◌+◌, ◌-◌, Bool, ◌&&◌, ◌||◌, ◌==◌, nat_le, if◌then◌else◌, List, [], ◌∷◌, length}
use Rattle.std.specs.List.{list_any}
use Rattle.league.specs.Capacity.{is_between}
use Rattle.league.specs.Sets.{is_in}
use Rattle.league.specs.Deviation.{spans}
use Rattle.league.specs.declared.class.Class.{Class}
use Rattle.league.specs.declared.class.Class.TheVariants.{Ca1, Ca2, Ca3, Ca4, Ga1, Br1, Br2, Fa2, Se1}
use Rattle.league.specs.declared.class.Side.{Side}
use Rattle.league.specs.declared.class.Side.TheVariants.{H, A, Both}
use Rattle.league.specs.declared.game.Game.{Game}
use Rattle.rule_core.specs.Keys.{keys_where}
use Rattle.rule_core.specs.Meetings.{is_listed}
use Rattle.rule_core.specs.Pairs.{key_between, keys_with}

-- whether team i plays a game, at home, away, or at either's home
abbrev pub plays_on : Side → Game → ℕ → Bool
plays_on H g i = i == g.home.0
plays_on A g i = i == g.away.0
plays_on Both g i = (i == g.home.0) || (i == g.away.0)

-- whether team i plays a game on a side against one of these teams
abbrev pub plays_against : Side → List ℕ → Game → ℕ → Bool
plays_against H teams g i = (i == g.home.0) && is_in g.away.0 teams
plays_against A teams g i = (i == g.away.0) && is_in g.home.0 teams
plays_against Both teams g i = ((i == g.home.0) && is_in g.away.0 teams) || ((i == g.away.0) && is_in g.home.0 teams)

-- whether a game in slot s can change a break at one of these slots: a break is of two slots in a row, and counts at
-- the second
abbrev pub can_break : List ℕ → ℕ → Bool
can_break slots s = is_in s slots || is_in (s + 1) slots

-- the keys of the entries that a game can change: those of its teams, of their pairs, of its slot, or the one key
abbrev pub touched_keys : Class → Game → List ℕ
touched_keys (Ca1 teams min max side slots) g = if is_in g.slot.0 slots then keys_where (plays_on side g) teams else []
touched_keys (Ca2 teams1 teams2 min max side slots) g =
    if is_in g.slot.0 slots then keys_where (plays_against side teams2 g) teams1 else []
touched_keys (Ca3 teams1 teams2 min max intp side) g = keys_where (plays_against side teams2 g) teams1
touched_keys (Ca4 teams1 teams2 min max side span slots) g =
    if is_between side teams1 teams2 (g.home.0, g.away.0) then keys_where (is_in g.slot.0) (spans span slots) else []
touched_keys (Ga1 meetings min max slots) g =
    if is_listed meetings g.home.0 g.away.0 && is_in g.slot.0 slots then 0 ∷ [] else []
touched_keys (Br1 teams intp side slots) g =
    if can_break slots g.slot.0 then keys_where (plays_on side g) teams else []
touched_keys (Br2 teams intp slots) g =
    if can_break slots g.slot.0 && (is_in g.home.0 teams || is_in g.away.0 teams) then 0 ∷ [] else []
touched_keys (Fa2 teams intp slots) g =
    if list_any (λ s. nat_le g.slot.0 s) slots then keys_with teams g.home.0 else []
touched_keys (Se1 teams min) g = key_between teams g.home.0 g.away.0

-- the most keys that one game touches: that of one team, those of its two teams, or those of its home team's pairs
abbrev pub most_touched : Class → ℕ
most_touched (Ca1 teams min max side slots) = 1
most_touched (Ca2 teams1 teams2 min max side slots) = 2
most_touched (Ca3 teams1 teams2 min max intp side) = 2
most_touched (Ca4 teams1 teams2 min max side span slots) = 1
most_touched (Ga1 meetings min max slots) = 1
most_touched (Br1 teams intp side slots) = 2
most_touched (Br2 teams intp slots) = 1
most_touched (Fa2 teams intp slots) = length teams - 1
most_touched (Se1 teams min) = 1

-- whether team t is at home in one of these meetings
abbrev pub is_host : List (ℕ × ℕ) → ℕ → Bool
is_host meetings t = list_any (λ p. p.0 == t) meetings

-- whether team t is one of those in whose games alone an entry can change: the teams of the constraint, those of them
-- whose games it counts against others, or the home teams of its meetings
abbrev pub is_watched : Class → ℕ → Bool
is_watched (Ca1 teams min max side slots) t = is_in t teams
is_watched (Ca2 teams1 teams2 min max side slots) t = is_in t teams1
is_watched (Ca3 teams1 teams2 min max intp side) t = is_in t teams1
is_watched (Ca4 teams1 teams2 min max side span slots) t = is_in t teams1
is_watched (Ga1 meetings min max slots) t = is_host meetings t
is_watched (Br1 teams intp side slots) t = is_in t teams
is_watched (Br2 teams intp slots) t = is_in t teams
is_watched (Fa2 teams intp slots) t = is_in t teams
is_watched (Se1 teams min) t = is_in t teams
