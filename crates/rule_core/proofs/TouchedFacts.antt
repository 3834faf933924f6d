-- Worked examples of the keys that a game touches, so that a wrong definition does not check: each was made by hand.
use Rattle.std.proofs.Common.{◌≡◌, ℕ, Bool, true, false, List, [], ◌∷◌, map, refl}
use Rattle.league.specs.declared.class.Class.{Class}
use Rattle.league.specs.declared.class.Class.TheVariants.{Ca1, Ca2, Ca3, Ca4, Ga1, Br1, Br2, Fa2, Se1}
use Rattle.league.specs.declared.class.Side.{Side}
use Rattle.league.specs.declared.class.Side.TheVariants.{H, A, Both}
use Rattle.league.specs.declared.class.Span.TheVariants.{Global, Every}
use Rattle.league.specs.declared.game.Game.{Game}
use Rattle.league.proofs.DoubleFour.{game}
use Rattle.rule_core.specs.Touched.{can_break, is_watched, most_touched, touched_keys}

-- ---- capacity: where teams count

-- two teams, the others of CA2 to CA4, and two slots
abbrev teams : List ℕ
teams = 1 ∷ 3 ∷ []

abbrev others : List ℕ
others = 1 ∷ 2 ∷ []

abbrev slots : List ℕ
slots = 2 ∷ 5 ∷ []

-- 1 at 3 twice in one of the slots and once in another; then 2 at 1, 1 at 2, 0 at 3 and 3 at 0
abbrev games : List Game
games = game 3 1 2 ∷ game 3 1 5 ∷ game 3 1 4 ∷ game 1 2 2 ∷ game 2 1 5 ∷ game 3 0 5 ∷ game 0 3 5 ∷ []

-- the home team is the second, the second, in no such slot, the first, none, the second, none
pub ca1-home : map (touched_keys (Ca1 teams 0 0 H slots)) games ≡ (1 ∷ []) ∷ (1 ∷ []) ∷ [] ∷ (0 ∷ []) ∷ [] ∷ (1 ∷ []) ∷ [] ∷ []
ca1-home = refl

-- the away team is the first, the first, in no such slot, none, the first, none, the second
pub ca1-away : map (touched_keys (Ca1 teams 0 0 A slots)) games ≡ (0 ∷ []) ∷ (0 ∷ []) ∷ [] ∷ [] ∷ (0 ∷ []) ∷ [] ∷ (1 ∷ []) ∷ []
ca1-away = refl

-- Team 3 plays 1, who is one of the others, while team 1 plays 3, who isn't. Both of 1 and 2 are others: only 1 has a
-- key. 0 is neither.
pub ca2-either_side : map (touched_keys (Ca2 teams others 0 0 Both slots)) games ≡ (1 ∷ []) ∷ (1 ∷ []) ∷ [] ∷ (0 ∷ []) ∷ (0 ∷ []) ∷ [] ∷ [] ∷ []
ca2-either_side = refl

-- a home game alone: not that of 1 at 2
pub ca2-home : map (touched_keys (Ca2 teams others 0 0 H slots)) games ≡ (1 ∷ []) ∷ (1 ∷ []) ∷ [] ∷ (0 ∷ []) ∷ [] ∷ [] ∷ [] ∷ []
ca2-home = refl

-- an away game alone: that of 1 at 2, and not those of 1 at 3, who isn't one of the others
pub ca2-away : map (touched_keys (Ca2 teams others 0 0 A slots)) games ≡ [] ∷ [] ∷ [] ∷ [] ∷ (0 ∷ []) ∷ [] ∷ [] ∷ []
ca2-away = refl

-- of teams against each other both are touched, in order of their keys, whoever is at home
pub ca2-both_teams : map (touched_keys (Ca2 teams teams 0 0 Both slots)) (game 3 1 2 ∷ game 1 3 2 ∷ game 1 2 2 ∷ []) ≡ (0 ∷ 1 ∷ []) ∷ (0 ∷ 1 ∷ []) ∷ [] ∷ []
ca2-both_teams = refl

-- a CA3 has no slots of its own, and the length of its windows says nothing of a game
pub ca3-any_slot : map (touched_keys (Ca3 teams others 0 0 90 Both)) games ≡ (1 ∷ []) ∷ (1 ∷ []) ∷ (1 ∷ []) ∷ (0 ∷ []) ∷ (0 ∷ []) ∷ [] ∷ [] ∷ []
ca3-any_slot = refl

pub ca3-away : map (touched_keys (Ca3 teams others 0 0 3 A)) games ≡ [] ∷ [] ∷ [] ∷ [] ∷ (0 ∷ []) ∷ [] ∷ [] ∷ []
ca3-away = refl

-- 3 with 1, and 1 with 2: each by the key of its slot, and none in slot 4
pub ca4-every : map (touched_keys (Ca4 teams others 0 0 Both Every slots)) games ≡ (0 ∷ []) ∷ (1 ∷ []) ∷ [] ∷ (0 ∷ []) ∷ (1 ∷ []) ∷ [] ∷ [] ∷ []
ca4-every = refl

-- all slots together have one key
pub ca4-global : map (touched_keys (Ca4 teams others 0 0 Both Global slots)) games ≡ (0 ∷ []) ∷ (0 ∷ []) ∷ [] ∷ (0 ∷ []) ∷ (0 ∷ []) ∷ [] ∷ [] ∷ []
ca4-global = refl

-- at home the first of the teams: 3 and 1, and not 2
pub ca4-home : map (touched_keys (Ca4 teams others 0 0 H Every slots)) games ≡ (0 ∷ []) ∷ (1 ∷ []) ∷ [] ∷ (0 ∷ []) ∷ [] ∷ [] ∷ [] ∷ []
ca4-home = refl

-- away the first of the teams: 1 at 2 alone, since 3, at whom 1 plays, isn't one of the others
pub ca4-away : map (touched_keys (Ca4 teams others 0 0 A Every slots)) games ≡ [] ∷ [] ∷ [] ∷ [] ∷ (1 ∷ []) ∷ [] ∷ [] ∷ []
ca4-away = refl

-- ---- the game constraint

-- the one key is touched by a listed meeting in one of the slots, and neither by it turned, nor in another slot, nor by
-- another meeting
pub ga1-each : map (touched_keys (Ga1 ((0, 1) ∷ (2, 0) ∷ []) 1 1 (1 ∷ 4 ∷ []))) (game 0 1 1 ∷ game 2 0 4 ∷ game 2 0 1 ∷ game 1 0 1 ∷ game 0 1 2 ∷ game 2 1 4 ∷ []) ≡ (0 ∷ []) ∷ (0 ∷ []) ∷ (0 ∷ []) ∷ [] ∷ [] ∷ [] ∷ []
ga1-each = refl

-- ---- breaks

-- of the slots 0 and 3: a break at 3 is of the slots 2 and 3
pub can_break-each_slot : map (can_break (0 ∷ 3 ∷ [])) (0 ∷ 1 ∷ 2 ∷ 3 ∷ 4 ∷ []) ≡ true ∷ false ∷ true ∷ true ∷ false ∷ []
can_break-each_slot = refl

abbrev br1_keys : Side → Game → List ℕ
br1_keys side g = touched_keys (Br1 (1 ∷ 3 ∷ []) 2 side (0 ∷ 3 ∷ [])) g

-- a home game of 3, the second team, in each slot from 0 to 4: a break at 3 is of the slots 2 and 3, and slot 0 is one
-- of the slots itself
pub br1-each_slot : map (λ s. br1_keys H (game 3 1 s)) (0 ∷ 1 ∷ 2 ∷ 3 ∷ 4 ∷ []) ≡ (1 ∷ []) ∷ [] ∷ (1 ∷ []) ∷ (1 ∷ []) ∷ [] ∷ []
br1-each_slot = refl

-- 1 at 3, for each side, and 3 at 1: the away team is the other one, and both are in the order of the teams
pub br1-each_side : map (λ side. br1_keys side (game 1 3 2)) (H ∷ A ∷ Both ∷ []) ≡ (0 ∷ []) ∷ (1 ∷ []) ∷ (0 ∷ 1 ∷ []) ∷ []
br1-each_side = refl

pub br1-turned : map (λ side. br1_keys side (game 3 1 2)) (H ∷ A ∷ Both ∷ []) ≡ (1 ∷ []) ∷ (0 ∷ []) ∷ (0 ∷ 1 ∷ []) ∷ []
br1-turned = refl

-- 3 at 0: only one of them is listed, and it plays at home; 2 at 0: none is
pub br1-one_listed : map (λ side. br1_keys side (game 3 0 2)) (H ∷ A ∷ Both ∷ []) ≡ (1 ∷ []) ∷ [] ∷ (1 ∷ []) ∷ []
br1-one_listed = refl

pub br1-none_listed : map (λ side. br1_keys side (game 2 0 2)) (H ∷ A ∷ Both ∷ []) ≡ [] ∷ [] ∷ [] ∷ []
br1-none_listed = refl

abbrev br2_keys : Game → List ℕ
br2_keys g = touched_keys (Br2 (1 ∷ 3 ∷ []) 2 (0 ∷ 3 ∷ [])) g

-- 0 at 3 in each slot from 0 to 4; then 1 at 0, 1 at 3, which touch the one key once, and 2 at 0
pub br2-each_slot : map (λ s. br2_keys (game 0 3 s)) (0 ∷ 1 ∷ 2 ∷ 3 ∷ 4 ∷ []) ≡ (0 ∷ []) ∷ [] ∷ (0 ∷ []) ∷ (0 ∷ []) ∷ [] ∷ []
br2-each_slot = refl

pub br2-each_game : map br2_keys (game 1 0 2 ∷ game 1 3 2 ∷ game 2 0 2 ∷ []) ≡ (0 ∷ []) ∷ (0 ∷ []) ∷ [] ∷ []
br2-each_game = refl

-- ---- fairness

-- the pairs of the teams 0, 1 and 3 are 0 1, 0 3 and 1 3
abbrev fa2_keys : List ℕ → Game → List ℕ
fa2_keys slots g = touched_keys (Fa2 (0 ∷ 1 ∷ 3 ∷ []) 1 slots) g

-- A home game of team 1 between the two slots, one of 1 at 3 in the last of them, and one before both against a team
-- that isn't listed: the keys of the home team's pairs. After both slots, or of another home team, none.
pub fa2-each : map (fa2_keys (1 ∷ 4 ∷ [])) (game 1 0 2 ∷ game 3 1 4 ∷ game 0 2 0 ∷ game 1 0 5 ∷ game 2 0 0 ∷ []) ≡ (0 ∷ 2 ∷ []) ∷ (1 ∷ 2 ∷ []) ∷ (0 ∷ 1 ∷ []) ∷ [] ∷ [] ∷ []
fa2-each = refl

pub fa2-no_slots : fa2_keys [] (game 1 0 0) ≡ []
fa2-no_slots = refl

-- ---- separation

-- a game of two of the teams touches its pair's key at either's home and in any slot, and a game of another team none
pub se1-each : map (touched_keys (Se1 (1 ∷ 3 ∷ 5 ∷ []) 2)) (game 1 3 0 ∷ game 5 1 9 ∷ game 3 5 4 ∷ game 5 3 4 ∷ game 0 3 4 ∷ game 0 2 4 ∷ []) ≡ (0 ∷ []) ∷ (1 ∷ []) ∷ (2 ∷ []) ∷ (2 ∷ []) ∷ [] ∷ [] ∷ []
se1-each = refl

-- ---- how many

-- one team on a side, two teams on both, one key, and the pairs of one of three teams, or of none
pub most_touched-each : map most_touched
    (Ca1 teams 0 1 H slots
    ∷ Ca2 teams others 0 1 H slots
    ∷ Ca3 teams others 0 1 3 Both
    ∷ Ca4 teams others 0 1 H Every slots
    ∷ Ga1 ((0, 1) ∷ []) 1 1 slots
    ∷ Br1 teams 1 Both slots
    ∷ Br2 teams 1 slots
    ∷ Fa2 (0 ∷ 1 ∷ 3 ∷ []) 1 slots
    ∷ Fa2 [] 1 slots
    ∷ Se1 teams 1
    ∷ []) ≡ 1 ∷ 2 ∷ 2 ∷ 1 ∷ 1 ∷ 2 ∷ 1 ∷ 2 ∷ 0 ∷ 1 ∷ []
most_touched-each = refl

-- ---- whose games

-- of the teams 0 to 3
abbrev watched_of : Class → List Bool
watched_of class = map (is_watched class) (0 ∷ 1 ∷ 2 ∷ 3 ∷ [])

abbrev one_and_three : List Bool
one_and_three = false ∷ true ∷ false ∷ true ∷ []

-- the teams are 1 and 3: on no side is 2 watched, who is one of the others alone
pub is_watched-against : map watched_of
    (Ca2 teams others 0 1 H slots ∷ Ca2 teams others 0 1 A slots ∷ Ca3 teams others 0 1 3 Both ∷ Ca4 teams others 0 1 A Every slots ∷ [])
    ≡ one_and_three ∷ one_and_three ∷ one_and_three ∷ one_and_three ∷ []
is_watched-against = refl

pub is_watched-of_teams : map watched_of
    (Ca1 teams 0 1 A slots ∷ Br1 teams 1 H slots ∷ Br2 teams 1 slots ∷ Fa2 teams 1 slots ∷ Se1 teams 1 ∷ [])
    ≡ one_and_three ∷ one_and_three ∷ one_and_three ∷ one_and_three ∷ one_and_three ∷ []
is_watched-of_teams = refl

-- 1 at home to 0 and to 3: 1 alone, since each game of these meetings is one of its own
pub is_watched-of_meetings : watched_of (Ga1 ((1, 0) ∷ (1, 3) ∷ []) 1 1 slots) ≡ false ∷ true ∷ false ∷ false ∷ []
is_watched-of_meetings = refl

-- of no teams and of no meetings none
pub is_watched-none : (watched_of (Ca1 [] 0 1 A slots) ≡ watched_of (Ga1 [] 1 1 slots)) × (watched_of (Ga1 [] 1 1 slots) ≡ false ∷ false ∷ false ∷ false ∷ [])
is_watched-none = (refl, refl)
