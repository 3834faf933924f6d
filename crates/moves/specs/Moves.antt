-- Five kinds of moves on a double round robin: each relabels some of its games.
use Rattle.std.specs.Prelude.{◌≡◌, ℕ, ◌+◌, ◌<◌, Bool, false, ◌&&◌, ◌||◌, ◌==◌, nat_lt, if◌then◌else◌, List}
use Rattle.std.specs.List.{list_any}
use Rattle.league.specs.Counts.{Counts, slot_count, teams_of}
use Rattle.league.specs.Sets.{is_in}
use Rattle.league.specs.Structure.{IsRoundRobin}
use Rattle.league.specs.declared.game.Game.{Game}
use Rattle.moves.specs.Closure.{closure}
use Rattle.moves.specs.declared.swap.Swap.{Swap}
use Rattle.moves.specs.declared.swap.Swap.TheVariants.{HomeSwap, RoundSwap, TeamSwap, PartRoundSwap, PartTeamSwap}

-- the game of home team i and away team j in slot s
abbrev pub game : ℕ → ℕ → ℕ → Game
game i j s = record { home = record { 0 = i }; away = record { 0 = j }; slot = record { 0 = s } }

-- how often a game is played
abbrev pub times : Counts → Game → ℕ
times m g = m g.home.0 g.away.0 g.slot.0

-- whether two teams meet in a slot, at either venue
abbrev pub do_meet : Counts → ℕ → ℕ → ℕ → Bool
do_meet m i j s = nat_lt 0 (m i j s + m j i s)

-- a number, where a and b are exchanged
abbrev pub exchange : ℕ → ℕ → ℕ → ℕ
exchange a b x = if x == a then b else (if x == b then a else x)

-- a game with its venues exchanged
abbrev pub turned : Game → Game
turned g = record g { home = g.away; away = g.home }

-- a game where two slots are exchanged
abbrev pub with_slots : ℕ → ℕ → Game → Game
with_slots s t g = game g.home.0 g.away.0 (exchange s t g.slot.0)

-- a game where two teams are exchanged
abbrev pub with_teams : ℕ → ℕ → Game → Game
with_teams i j g = game (exchange i j g.home.0) (exchange i j g.away.0) g.slot.0

-- whether a game is between these two teams
abbrev pub is_between : ℕ → ℕ → Game → Bool
is_between i j g = ((g.home.0 == i) && (g.away.0 == j)) || ((g.home.0 == j) && (g.away.0 == i))

-- the least set of teams that holds i and, with each team, its opponents in slots s and t
abbrev pub teams_linked : ℕ → Counts → ℕ → ℕ → ℕ → List ℕ
teams_linked n m i s t = closure (λ a b. do_meet m a b s || do_meet m a b t) n i

-- whether j meets in slot q, at the same venue, whom i meets in slot r
abbrev pub follows : ℕ → Counts → ℕ → ℕ → ℕ → ℕ → Bool
follows n m i j r q =
    list_any
    (λ k. (nat_lt 0 (m i k r) && nat_lt 0 (m j k q)) || (nat_lt 0 (m k i r) && nat_lt 0 (m k j q)))
    (teams_of n)

-- the least set of slots that holds s and, with each slot, the one that follows it
abbrev pub slots_linked : ℕ → Counts → ℕ → ℕ → ℕ → List ℕ
slots_linked n m i j s = closure (follows n m i j) (slot_count n) s

-- what a move makes of a game
abbrev pub relabel : ℕ → Counts → Swap → Game → Game
relabel n m (HomeSwap i j) g = if is_between i.0 j.0 g then turned g else g
relabel n m (RoundSwap s t) g = with_slots s.0 t.0 g
relabel n m (TeamSwap i j) g = if do_meet m i.0 j.0 g.slot.0 then g else with_teams i.0 j.0 g
relabel n m (PartRoundSwap i s t) g =
    if is_in g.home.0 (teams_linked n m i.0 s.0 t.0) then with_slots s.0 t.0 g else g
relabel n m (PartTeamSwap i j s) g =
    if is_in g.slot.0 (slots_linked n m i.0 j.0 s.0) then with_teams i.0 j.0 g else g

-- the counts after a move: what it makes of a game it makes again into that game, so each is played as often as its
-- other was
abbrev pub moved : ℕ → Counts → Swap → Counts
moved n m step i j s = times m (relabel n m step (game i j s))

-- a move's own condition
abbrev pub IsInOwnRange : Counts → Swap → Type 0
IsInOwnRange m (HomeSwap i j) = i.0 < j.0
IsInOwnRange m (RoundSwap s t) = s.0 < t.0
IsInOwnRange m (TeamSwap i j) = i.0 < j.0
IsInOwnRange m (PartRoundSwap i s t) = s.0 < t.0
IsInOwnRange m (PartTeamSwap i j s) = (i.0 < j.0) × (do_meet m i.0 j.0 s.0 ≡ false)

-- a move is legal where its own condition holds and the result is a round robin of the same league
pub record IsLegal (n : ℕ) (phased : Bool) (m : Counts) (step : Swap) : Type 0 where
  pub own : IsInOwnRange m step
  pub round_robin : IsRoundRobin n phased (moved n m step)

-- a move of teams and slots of the league
abbrev pub IsOfLeague : ℕ → Swap → Type 0
IsOfLeague n (HomeSwap i j) = (i.0 < n) × (j.0 < n)
IsOfLeague n (RoundSwap s t) = (s.0 < slot_count n) × (t.0 < slot_count n)
IsOfLeague n (TeamSwap i j) = (i.0 < n) × (j.0 < n)
IsOfLeague n (PartRoundSwap i s t) = (i.0 < n) × (s.0 < slot_count n) × (t.0 < slot_count n)
IsOfLeague n (PartTeamSwap i j s) = (i.0 < n) × (j.0 < n) × (s.0 < slot_count n)
