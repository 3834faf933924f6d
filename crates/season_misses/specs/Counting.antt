-- Which games of a schedule count for an entry of a constraint, by class.
use Rattle.std.specs.Prelude.{ℕ, ◌+◌, Bool, ◌&&◌, ◌||◌, ◌==◌, nat_le, nat_lt, List}
use Rattle.league.specs.Capacity.{is_between}
use Rattle.league.specs.Sets.{is_in}
use Rattle.league.specs.declared.class.Side.{Side}
use Rattle.league.specs.declared.game.Game.{Game}
use Rattle.rule_core.specs.Meetings.{is_listed}
use Rattle.rule_core.specs.Touched.{plays_against, plays_on}

-- CA1, team i: its games on the side in the slots
abbrev pub counts_in_ca1 : Side → List ℕ → ℕ → Game → Bool
counts_in_ca1 side slots i g = plays_on side g i && is_in g.slot.0 slots

-- CA2, team i: its games on the side against teams2 in the slots
abbrev pub counts_in_ca2 : List ℕ → Side → List ℕ → ℕ → Game → Bool
counts_in_ca2 teams2 side slots i g = plays_against side teams2 g i && is_in g.slot.0 slots

-- whether a game is in the window of intp slots from a slot on
abbrev pub is_in_window : ℕ → ℕ → Game → Bool
is_in_window intp first g = nat_le first g.slot.0 && nat_lt g.slot.0 (first + intp)

-- CA3, team i, the window from a slot on: its games on the side against teams2 in the window
abbrev pub counts_in_ca3 : List ℕ → ℕ → Side → ℕ → ℕ → Game → Bool
counts_in_ca3 teams2 intp side i first g = plays_against side teams2 g i && is_in_window intp first g

-- CA4, some slots: the games of teams1 with teams2 on the side in these slots
abbrev pub counts_in_ca4 : List ℕ → List ℕ → Side → List ℕ → Game → Bool
counts_in_ca4 teams1 teams2 side slots g =
    is_between side teams1 teams2 (g.home.0, g.away.0) && is_in g.slot.0 slots

-- GA1: the games of the meetings in the slots
abbrev pub counts_in_ga1 : List (ℕ × ℕ) → List ℕ → Game → Bool
counts_in_ga1 meetings slots g = is_listed meetings g.home.0 g.away.0 && is_in g.slot.0 slots

-- BR1 and BR2, a break of team i on a side at slot s: its games on this side in slot s and in the slot before
abbrev pub counts_in_break : Side → ℕ → ℕ → Game → Bool
counts_in_break side i s g = plays_on side g i && ((g.slot.0 + 1 == s) || (g.slot.0 == s))

-- FA2, team i, slot s: its home games in slots 0 to s
abbrev pub counts_in_fa2 : ℕ → ℕ → Game → Bool
counts_in_fa2 i s g = (i == g.home.0) && nat_le g.slot.0 s

-- SE1, two teams: their mutual games, at either's home
abbrev pub counts_in_se1 : ℕ × ℕ → Game → Bool
counts_in_se1 p g = ((p.0 == g.home.0) && (p.1 == g.away.0)) || ((p.1 == g.home.0) && (p.0 == g.away.0))
