-- What fits into a league of four teams, whose slots are 0 to 5, and what doesn't: each condition at its edge.
use Rattle.std.proofs.Common.{◌≡◌, ℕ, ◌<◌, ◌≤◌, [], ◌∷◌, true, false, arith, refl}
use Rattle.league.specs.Instance.{IsGame, IsInstance, class_fits, is_team_count}
use Rattle.league.specs.declared.class.Class.TheVariants.{Ca1, Ca2, Ca3, Ca4, Ga1, Br1, Br2, Fa2, Se1}
use Rattle.league.specs.declared.class.Side.TheVariants.{A, Both, H}
use Rattle.league.specs.declared.class.Span.TheVariants.{Every, Global}
use Rattle.league.proofs.DoubleFour.{game}

-- the last team and the last slot
pub ca1-last : class_fits 4 (Ca1 (0 ∷ 3 ∷ []) 0 0 A (0 ∷ 5 ∷ [])) ≡ true
ca1-last = refl

pub ca1-team_4 : class_fits 4 (Ca1 (0 ∷ 4 ∷ []) 0 0 A (0 ∷ 5 ∷ [])) ≡ false
ca1-team_4 = refl

pub ca1-slot_6 : class_fits 4 (Ca1 (0 ∷ 3 ∷ []) 0 0 A (0 ∷ 6 ∷ [])) ≡ false
ca1-slot_6 = refl

pub ca1-both_sides : class_fits 4 (Ca1 [] 0 0 Both []) ≡ false
ca1-both_sides = refl

-- sets may be empty, and two sets of teams may share teams
pub ca1-empty : class_fits 2 (Ca1 [] 0 0 H []) ≡ true
ca1-empty = refl

pub ca2-shared : class_fits 4 (Ca2 (0 ∷ 3 ∷ []) (3 ∷ []) 0 0 Both (5 ∷ [])) ≡ true
ca2-shared = refl

pub ca2-first_team_4 : class_fits 4 (Ca2 (4 ∷ []) (3 ∷ []) 0 0 Both (5 ∷ [])) ≡ false
ca2-first_team_4 = refl

pub ca2-second_team_4 : class_fits 4 (Ca2 (3 ∷ []) (4 ∷ []) 0 0 Both (5 ∷ [])) ≡ false
ca2-second_team_4 = refl

pub ca2-slot_6 : class_fits 4 (Ca2 (3 ∷ []) (3 ∷ []) 0 0 Both (6 ∷ [])) ≡ false
ca2-slot_6 = refl

-- a window has a slot, and may be longer than the season
pub ca3-no_slot : class_fits 4 (Ca3 (3 ∷ []) (3 ∷ []) 0 0 0 Both) ≡ false
ca3-no_slot = refl

pub ca3-one_slot : class_fits 4 (Ca3 (3 ∷ []) (3 ∷ []) 0 0 1 Both) ≡ true
ca3-one_slot = refl

pub ca3-long : class_fits 4 (Ca3 (3 ∷ []) (3 ∷ []) 0 0 4294967295 Both) ≡ true
ca3-long = refl

pub ca3-first_team_4 : class_fits 4 (Ca3 (4 ∷ []) (3 ∷ []) 0 0 1 Both) ≡ false
ca3-first_team_4 = refl

pub ca3-second_team_4 : class_fits 4 (Ca3 (3 ∷ []) (4 ∷ []) 0 0 1 Both) ≡ false
ca3-second_team_4 = refl

pub ca4-last : class_fits 4 (Ca4 (3 ∷ []) (3 ∷ []) 0 0 Both Every (5 ∷ [])) ≡ true
ca4-last = refl

pub ca4-first_team_4 : class_fits 4 (Ca4 (4 ∷ []) (3 ∷ []) 0 0 Both Every (5 ∷ [])) ≡ false
ca4-first_team_4 = refl

pub ca4-second_team_4 : class_fits 4 (Ca4 (3 ∷ []) (4 ∷ []) 0 0 Both Global (5 ∷ [])) ≡ false
ca4-second_team_4 = refl

pub ca4-slot_6 : class_fits 4 (Ca4 (3 ∷ []) (3 ∷ []) 0 0 Both Global (6 ∷ [])) ≡ false
ca4-slot_6 = refl

-- min may be above max
pub ga1-min_above_max : class_fits 4 (Ga1 ((3, 0) ∷ (3, 2) ∷ []) 9 1 (5 ∷ [])) ≡ true
ga1-min_above_max = refl

pub ga1-one_team : class_fits 4 (Ga1 ((2, 2) ∷ []) 0 1 (5 ∷ [])) ≡ false
ga1-one_team = refl

pub ga1-home_4 : class_fits 4 (Ga1 ((4, 0) ∷ []) 0 1 (5 ∷ [])) ≡ false
ga1-home_4 = refl

pub ga1-away_4 : class_fits 4 (Ga1 ((0, 4) ∷ []) 0 1 (5 ∷ [])) ≡ false
ga1-away_4 = refl

pub ga1-slot_6 : class_fits 4 (Ga1 ((3, 0) ∷ []) 0 1 (6 ∷ [])) ≡ false
ga1-slot_6 = refl

pub br1-last : class_fits 4 (Br1 (3 ∷ []) 0 Both (5 ∷ [])) ≡ true
br1-last = refl

pub br1-team_4 : class_fits 4 (Br1 (4 ∷ []) 0 Both (5 ∷ [])) ≡ false
br1-team_4 = refl

pub br1-slot_6 : class_fits 4 (Br1 (3 ∷ []) 0 Both (6 ∷ [])) ≡ false
br1-slot_6 = refl

pub br2-last : class_fits 4 (Br2 (3 ∷ []) 0 (5 ∷ [])) ≡ true
br2-last = refl

pub br2-team_4 : class_fits 4 (Br2 (4 ∷ []) 0 (5 ∷ [])) ≡ false
br2-team_4 = refl

pub br2-slot_6 : class_fits 4 (Br2 (3 ∷ []) 0 (6 ∷ [])) ≡ false
br2-slot_6 = refl

pub fa2-last : class_fits 4 (Fa2 (3 ∷ []) 0 (5 ∷ [])) ≡ true
fa2-last = refl

pub fa2-team_4 : class_fits 4 (Fa2 (4 ∷ []) 0 (5 ∷ [])) ≡ false
fa2-team_4 = refl

pub fa2-slot_6 : class_fits 4 (Fa2 (3 ∷ []) 0 (6 ∷ [])) ≡ false
fa2-slot_6 = refl

pub se1-last : class_fits 4 (Se1 (3 ∷ []) 99) ≡ true
se1-last = refl

pub se1-team_4 : class_fits 4 (Se1 (4 ∷ []) 99) ≡ false
se1-team_4 = refl

-- two teams have the slots 0 and 1
pub two-slot_1 : class_fits 2 (Br2 (0 ∷ 1 ∷ []) 0 (1 ∷ [])) ≡ true
two-slot_1 = refl

pub two-slot_2 : class_fits 2 (Br2 (0 ∷ 1 ∷ []) 0 (2 ∷ [])) ≡ false
two-slot_2 = refl

pub game-last : IsGame 4 (game 3 2 5)
game-last = record { home = omega arith; away = omega arith; differ = λ e. omega arith; slot = omega arith }

pub game-slot_6 : IsGame 4 (game 3 2 6) → ⊥
game-slot_6 h = let e : 6 < 6 = h.slot in omega arith

pub game-team_4 : IsGame 4 (game 3 4 0) → ⊥
game-team_4 h = let e : 4 < 4 = h.away in omega arith

pub game-one_team : IsGame 4 (game 2 2 0) → ⊥
game-one_team h = h.differ refl

-- the smallest league, and a number of teams that isn't even
pub instance-two : IsInstance (record { n = 2; phased = true; constraints = [] })
instance-two = record { teams = record { even = refl; at_least = omega arith; at_most = omega arith }; few = omega arith; fit = λ k d h. absurd (omega arith) }

pub instance-odd : IsInstance (record { n = 3; phased = true; constraints = [] }) → ⊥
instance-odd h = let rest : ℕ = 1 in let e : rest ≡ 0 = h.teams.even in omega arith

pub instance-none : IsInstance (record { n = 0; phased = true; constraints = [] }) → ⊥
instance-none h = let e : 2 ≤ 0 = h.teams.at_least in omega arith

pub instance-large : IsInstance (record { n = 42; phased = true; constraints = [] }) → ⊥
instance-large h = let e : 42 ≤ 40 = h.teams.at_most in omega arith

-- teams, slots and meetings ascend, and none stands twice
pub ca1-teams_descend : class_fits 4 (Ca1 (3 ∷ 0 ∷ []) 0 0 A (0 ∷ 5 ∷ [])) ≡ false
ca1-teams_descend = refl

pub ca2-second_team_twice : class_fits 4 (Ca2 (0 ∷ 3 ∷ []) (1 ∷ 1 ∷ []) 0 0 Both (5 ∷ [])) ≡ false
ca2-second_team_twice = refl

pub br1-slots_descend : class_fits 4 (Br1 (3 ∷ []) 0 Both (0 ∷ 5 ∷ 4 ∷ [])) ≡ false
br1-slots_descend = refl

pub ga1-meetings_by_away_team : class_fits 4 (Ga1 ((3, 0) ∷ (2, 1) ∷ []) 0 1 (5 ∷ [])) ≡ false
ga1-meetings_by_away_team = refl

pub ga1-meeting_twice : class_fits 4 (Ga1 ((2, 1) ∷ (2, 1) ∷ []) 0 1 (5 ∷ [])) ≡ false
ga1-meeting_twice = refl

-- 2 and 40 are the fewest and the most teams
pub team_count-edges : (is_team_count 0 ≡ false) × (is_team_count 2 ≡ true) × (is_team_count 3 ≡ false)
    × (is_team_count 40 ≡ true) × (is_team_count 41 ≡ false) × (is_team_count 42 ≡ false)
team_count-edges = (refl, refl, refl, refl, refl, refl)
