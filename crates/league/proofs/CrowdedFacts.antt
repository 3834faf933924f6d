-- Each class and the structure on the crowded schedule, computed by hand. Slots are 0 to 5, and the first half has 0, 1
-- and 2. Games by slot: 0-1 and 0-1; 0-2 and 3-0; 1-0; none; 0-3 and 2-0; 1-0 and 0-2 (home team first).
use Rattle.std.proofs.Common.{◌≡◌, ℕ, List, [], ◌∷◌, map, true, false, refl}
use Rattle.league.specs.Bounds.{difference}
use Rattle.league.specs.Breaks.{breaks_at, is_away_break, is_home_break}
use Rattle.league.specs.Capacity.{windows_of}
use Rattle.league.specs.Counts.{one_more}
use Rattle.league.specs.Deviation.{deviation_of, entry_of, vector_of}
use Rattle.league.specs.Fairness.{home_played}
use Rattle.league.specs.Separation.{mutual_games}
use Rattle.league.specs.Structure.{pairs_wrong, cells_wrong, phases_wrong}
use Rattle.league.specs.Venues.{away_games, games_on, home_games}
use Rattle.league.specs.declared.class.Class.{Class}
use Rattle.league.specs.declared.class.Class.TheVariants.{Ca1, Ca2, Ca3, Ca4, Ga1, Br1, Br2, Fa2, Se1}
use Rattle.league.specs.declared.class.Side.TheVariants.{H, A, Both}
use Rattle.league.specs.declared.class.Span.TheVariants.{Global, Every}
use Rattle.league.proofs.DoubleFour.{game, all_teams, all_slots}
use Rattle.league.proofs.Crowded.{crowded}

abbrev entries : Class → List ℕ
entries class = vector_of 4 crowded class

-- the first game stands twice, the same teams the other way round in that slot never
pub count-twice : crowded 0 1 0 ≡ 2
count-twice = refl

pub count-other_way_round : crowded 1 0 0 ≡ 0
count-other_way_round = refl

pub venues-home : map (home_games 4 crowded 0) all_slots ≡ 2 ∷ 1 ∷ 0 ∷ 0 ∷ 1 ∷ 1 ∷ []
venues-home = refl

pub venues-away : map (away_games 4 crowded 0) all_slots ≡ 0 ∷ 1 ∷ 1 ∷ 0 ∷ 1 ∷ 1 ∷ []
venues-away = refl

pub venues-both : map (games_on 4 crowded Both 0) all_slots ≡ 2 ∷ 2 ∷ 1 ∷ 0 ∷ 2 ∷ 2 ∷ []
venues-both = refl

-- of twelve meetings 0-3, 2-0 and 3-0 take place once; 0-1, 0-2 and 1-0 twice, and the six without team 0 never
pub structure-pairs : pairs_wrong 4 crowded ≡ 9
structure-pairs = refl

-- of 24 cells eight have one game: team 0 in slot 2; team 1 in 2 and 5; team 2 in 1, 4 and 5; team 3 in 1 and 4
pub structure-cells : cells_wrong 4 crowded ≡ 16
structure-cells = refl

-- in slots 0 to 2 teams 0 and 1 meet three times, 0 and 2 once, 0 and 3 once, and the other three pairs never
pub structure-phases : phases_wrong 4 true crowded ≡ 4
structure-phases = refl

pub structure-no_phases : phases_wrong 4 false crowded ≡ 0
structure-no_phases = refl

-- team 0 has two home games in slot 0 and one in slot 4, two beyond 1; team 1 has none there, and team 2 one
pub ca1-home : entries (Ca1 (0 ∷ 1 ∷ 2 ∷ []) 0 1 H (0 ∷ 4 ∷ [])) ≡ 2 ∷ 0 ∷ 0 ∷ []
ca1-home = refl

-- away games in slots 1 and 5: team 0 has two, team 1 none, team 2 two
pub ca1-away : entries (Ca1 (0 ∷ 1 ∷ 2 ∷ []) 0 1 A (1 ∷ 5 ∷ [])) ≡ 1 ∷ 0 ∷ 1 ∷ []
ca1-away = refl

pub ca1-no_team : entries (Ca1 [] 0 0 H all_slots) ≡ []
ca1-no_team = refl

pub ca1-no_slot : entries (Ca1 (0 ∷ 3 ∷ []) 0 0 H []) ≡ 0 ∷ 0 ∷ []
ca1-no_slot = refl

-- slots 0 to 2: team 0 meets team 1 three times, two beyond 1; team 3 meets team 0 once
pub ca2-both : entries (Ca2 (0 ∷ 3 ∷ []) (0 ∷ 1 ∷ []) 0 1 Both (0 ∷ 1 ∷ 2 ∷ [])) ≡ 2 ∷ 0 ∷ []
ca2-both = refl

-- team 0 is at home to 1 twice, and team 3 to 0 once
pub ca2-home : entries (Ca2 (0 ∷ 3 ∷ []) (0 ∷ 1 ∷ []) 0 0 H (0 ∷ 1 ∷ 2 ∷ [])) ≡ 2 ∷ 1 ∷ []
ca2-home = refl

-- team 0 is away to 1 once, and team 3 to nobody
pub ca2-away : entries (Ca2 (0 ∷ 3 ∷ []) (0 ∷ 1 ∷ []) 0 0 A (0 ∷ 1 ∷ 2 ∷ [])) ≡ 1 ∷ 0 ∷ []
ca2-away = refl

pub ca2-no_opponent : entries (Ca2 (0 ∷ 3 ∷ []) [] 0 0 Both all_slots) ≡ 0 ∷ 0 ∷ []
ca2-no_opponent = refl

-- home games of team 0 by slot are 2 1 0 0 1 1. In the five windows of two slots they are 3 1 0 1 2: two and one beyond
-- 1
pub ca3-two_slots : entries (Ca3 (0 ∷ []) (1 ∷ 2 ∷ 3 ∷ []) 0 1 2 H) ≡ 3 ∷ []
ca3-two_slots = refl

-- in the six windows of one slot only slot 0 has more than 1
pub ca3-one_slot : entries (Ca3 (0 ∷ []) (1 ∷ 2 ∷ 3 ∷ []) 0 1 1 H) ≡ 1 ∷ []
ca3-one_slot = refl

-- in the two windows of five slots they are 4 and 3: three and two beyond 1
pub ca3-five_slots : entries (Ca3 (0 ∷ []) (1 ∷ 2 ∷ 3 ∷ []) 0 1 5 H) ≡ 5 ∷ []
ca3-five_slots = refl

-- in the one window of six slots they are 5
pub ca3-six_slots : entries (Ca3 (0 ∷ []) (1 ∷ 2 ∷ 3 ∷ []) 0 1 6 H) ≡ 4 ∷ []
ca3-six_slots = refl

-- the greatest number that a file can hold
pub ca3-longest_window : entries (Ca3 (0 ∷ []) (1 ∷ 2 ∷ 3 ∷ []) 0 0 4294967295 H) ≡ 0 ∷ []
ca3-longest_window = refl

-- teams 0 and 1 meet twice in slot 0, once in 2 and once in 5. In the four windows of three slots: 3 1 1 1
pub ca3-both : entries (Ca3 (0 ∷ []) (1 ∷ []) 0 0 3 Both) ≡ 6 ∷ []
ca3-both = refl

pub windows-last_one : windows_of 4 5 ≡ (0 ∷ 1 ∷ 2 ∷ 3 ∷ 4 ∷ []) ∷ (1 ∷ 2 ∷ 3 ∷ 4 ∷ 5 ∷ []) ∷ []
windows-last_one = refl

-- teams1 and teams2 share 0 and 1. With the home team in teams1 and the away team in teams2: 0-1, 0-1, 0-2, 1-0, 1-0,
-- 0-2
pub ca4-home : entries (Ca4 (0 ∷ 1 ∷ []) (0 ∷ 1 ∷ 2 ∷ []) 0 0 H Global all_slots) ≡ 6 ∷ []
ca4-home = refl

-- with the away team in teams1 and the home team in teams2: 0-1, 0-1, 1-0, 2-0, 1-0
pub ca4-away : entries (Ca4 (0 ∷ 1 ∷ []) (0 ∷ 1 ∷ 2 ∷ []) 0 0 A Global all_slots) ≡ 5 ∷ []
ca4-away = refl

-- a game that is both counts once: all but the two of team 3
pub ca4-both : entries (Ca4 (0 ∷ 1 ∷ []) (0 ∷ 1 ∷ 2 ∷ []) 0 0 Both Global all_slots) ≡ 7 ∷ []
ca4-both = refl

-- one of these in each of the slots 0 (0-1 twice), 3 (none) and 5 (1-0 and 0-2), beyond 1
pub ca4-every : entries (Ca4 (0 ∷ 1 ∷ []) (0 ∷ 1 ∷ 2 ∷ []) 0 1 Both Every (0 ∷ 3 ∷ 5 ∷ [])) ≡ 1 ∷ 0 ∷ 1 ∷ []
ca4-every = refl

-- without slots there is one bound on all of them together, and none on each
pub ca4-global_no_slot : entries (Ca4 (0 ∷ 1 ∷ []) (0 ∷ 1 ∷ 2 ∷ []) 0 1 Both Global []) ≡ 0 ∷ []
ca4-global_no_slot = refl

pub ca4-every_no_slot : entries (Ca4 (0 ∷ 1 ∷ []) (0 ∷ 1 ∷ 2 ∷ []) 0 1 Both Every []) ≡ []
ca4-every_no_slot = refl

-- in slots 0, 1 and 5 the meetings 0-1 and 0-2 have two games each: four lack one of 5, and are one beyond 3
pub ga1-too_few : entries (Ga1 ((0, 1) ∷ (0, 2) ∷ []) 5 9 (0 ∷ 1 ∷ 5 ∷ [])) ≡ 1 ∷ []
ga1-too_few = refl

pub ga1-too_many : entries (Ga1 ((0, 1) ∷ (0, 2) ∷ []) 1 3 (0 ∷ 1 ∷ 5 ∷ [])) ≡ 1 ∷ []
ga1-too_many = refl

-- min above max: the larger of what four lack of 6 and have beyond 1, and of what they lack of 9 and have beyond 3
pub ga1-mostly_too_many : entries (Ga1 ((0, 1) ∷ (0, 2) ∷ []) 6 1 (0 ∷ 1 ∷ 5 ∷ [])) ≡ 3 ∷ []
ga1-mostly_too_many = refl

pub ga1-mostly_too_few : entries (Ga1 ((0, 1) ∷ (0, 2) ∷ []) 9 3 (0 ∷ 1 ∷ 5 ∷ [])) ≡ 5 ∷ []
ga1-mostly_too_few = refl

-- 1-0 is another meeting than 0-1: of its two games slot 5 has one
pub ga1-other_way_round : entries (Ga1 ((1, 0) ∷ []) 0 0 (0 ∷ 1 ∷ 5 ∷ [])) ≡ 1 ∷ []
ga1-other_way_round = refl

pub ga1-no_meeting : entries (Ga1 [] 2 5 all_slots) ≡ 2 ∷ []
ga1-no_meeting = refl

pub ga1-no_slot : entries (Ga1 ((0, 1) ∷ []) 2 5 []) ≡ 2 ∷ []
ga1-no_slot = refl

-- team 0 is at home in slots 0, 1, 4 and 5, and away in 1, 2, 4 and 5: slot 0 has none before it, and slot 5 has a
-- break on each side
pub breaks-home : map (is_home_break 4 crowded 0) all_slots ≡ false ∷ true ∷ false ∷ false ∷ false ∷ true ∷ []
breaks-home = refl

pub breaks-away : map (is_away_break 4 crowded 0) all_slots ≡ false ∷ false ∷ true ∷ false ∷ false ∷ true ∷ []
breaks-away = refl

pub breaks-both : map (breaks_at 4 crowded Both 0) all_slots ≡ 0 ∷ 1 ∷ 1 ∷ 0 ∷ 0 ∷ 2 ∷ []
breaks-both = refl

-- four of team 0, three beyond 1; team 1 is at home in slots 2 and 5 and away in 0, and has none
pub br1-both : entries (Br1 (0 ∷ 1 ∷ []) 1 Both all_slots) ≡ 3 ∷ 0 ∷ []
br1-both = refl

-- two home games in slot 0 are no break
pub br1-slot_0 : entries (Br1 (0 ∷ 1 ∷ []) 0 Both (0 ∷ [])) ≡ 0 ∷ 0 ∷ []
br1-slot_0 = refl

-- the first slot of the set has its break though the slot before it isn't in the set
pub br1-first_of_the_set : entries (Br1 (0 ∷ []) 0 H (1 ∷ 5 ∷ [])) ≡ 2 ∷ []
br1-first_of_the_set = refl

pub br1-away : entries (Br1 (0 ∷ []) 0 A (5 ∷ [])) ≡ 1 ∷ []
br1-away = refl

pub br1-no_slot : entries (Br1 (0 ∷ []) 0 Both []) ≡ 0 ∷ []
br1-no_slot = refl

-- a home break of team 0 at 1 and an away break at 2; the others have none
pub br2-two_slots : entries (Br2 all_teams 0 (1 ∷ 2 ∷ [])) ≡ 2 ∷ []
br2-two_slots = refl

pub br2-allowed : entries (Br2 all_teams 4 all_slots) ≡ 0 ∷ []
br2-allowed = refl

pub br2-no_team : entries (Br2 [] 0 all_slots) ≡ 0 ∷ []
br2-no_team = refl

pub played-0 : map (home_played 4 crowded 0) all_slots ≡ 2 ∷ 3 ∷ 3 ∷ 3 ∷ 4 ∷ 5 ∷ []
played-0 = refl

pub played-1 : map (home_played 4 crowded 1) all_slots ≡ 0 ∷ 0 ∷ 1 ∷ 1 ∷ 1 ∷ 2 ∷ []
played-1 = refl

pub played-3 : map (home_played 4 crowded 3) all_slots ≡ 0 ∷ 1 ∷ 1 ∷ 1 ∷ 1 ∷ 1 ∷ []
played-3 = refl

-- After slots 0 and 2 teams 0 and 1 differ by 2, 0 and 3 by 2, 1 and 3 by 0. That 0 and 1 differ by 3 after slot 1
-- isn't looked at, but the games in slot 1 have been played by slot 2
pub fa2-slot_1_skipped : entries (Fa2 (0 ∷ 1 ∷ 3 ∷ []) 1 (0 ∷ 2 ∷ [])) ≡ 1 ∷ 1 ∷ 0 ∷ []
fa2-slot_1_skipped = refl

-- after slots 1 and 3: 3 and 2; 2 and 2; 1 and 0
pub fa2-largest : entries (Fa2 (0 ∷ 1 ∷ 3 ∷ []) 0 (1 ∷ 3 ∷ [])) ≡ 3 ∷ 2 ∷ 1 ∷ []
fa2-largest = refl

pub fa2-one_team : entries (Fa2 (2 ∷ []) 0 all_slots) ≡ []
fa2-one_team = refl

pub mutual_games-0_1 : mutual_games 4 crowded (0, 1) ≡ 0 ∷ 0 ∷ 2 ∷ 5 ∷ []
mutual_games-0_1 = refl

-- Between neighbours lie, for 0 and 1: none, slot 1, slots 3 and 4; so they lack 2, 1 and 0 of 2. For 0 and 2, which
-- meet in 1, 4 and 5: two slots and none, which lack 0 and 2. 0 and 3 meet in 1 and 4, with two between, and the others
-- never
pub se1-all : entries (Se1 all_teams 2) ≡ 3 ∷ 2 ∷ 0 ∷ 0 ∷ 0 ∷ 0 ∷ []
se1-all = refl

pub se1-three : entries (Se1 (0 ∷ 1 ∷ []) 3) ≡ 6 ∷ []
se1-three = refl

pub se1-no_min : entries (Se1 all_teams 0) ≡ 0 ∷ 0 ∷ 0 ∷ 0 ∷ 0 ∷ 0 ∷ []
se1-no_min = refl

pub se1-one_team : entries (Se1 (3 ∷ []) 9) ≡ []
se1-one_team = refl

-- with 1-0 in slot 0 once more they meet there three times: two neighbours more without a slot between them than with
-- one game
pub se1-three_in_one_slot : vector_of 4 (one_more crowded (game 1 0 0)) (Se1 (0 ∷ 1 ∷ []) 2) ≡ 5 ∷ []
se1-three_in_one_slot = refl

-- the second entry is that of teams 0 and 2, behind the last one there is none, and the sum is the deviation
pub se1-second : entry_of 4 crowded (Se1 all_teams 2) 1 ≡ 2
se1-second = refl

pub se1-sum : deviation_of 4 crowded (Se1 all_teams 2) ≡ 5
se1-sum = refl

-- a difference is the same from both sides
pub difference-up : difference 2 5 ≡ 3
difference-up = refl

pub difference-down : difference 5 2 ≡ 3
difference-down = refl
