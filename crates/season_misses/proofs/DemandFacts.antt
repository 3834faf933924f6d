-- The sentences of each class in a league of four teams.
use Rattle.std.proofs.Common.{◌≡◌, ℕ, List, [], ◌∷◌, codes, refl, true}
use Rattle.std.specs.Fmt.{digits}
use Rattle.league.specs.declared.class.Class.{Class}
use Rattle.league.specs.declared.class.Class.TheVariants.{Ca1, Ca2, Ca3, Ca4, Ga1, Br1, Br2, Fa2, Se1}
use Rattle.league.specs.declared.class.Side.TheVariants.{H, A, Both}
use Rattle.league.specs.declared.class.Span.TheVariants.{Global, Every}
use Rattle.league.proofs.DoubleFour.{all_slots, all_teams}
use Rattle.season_misses.specs.Demands.{constraint_text, demand_text}
use Rattle.season_misses.specs.Phrases.{slots_list}

abbrev names : List (List ℕ)
names = codes "Ajax" ∷ codes "Brug" ∷ codes "Club" ∷ codes "Dam" ∷ []

abbrev says : Class → List ℕ
says class = demand_text 4 names class

pub ca1-none : says (Ca1 (0 ∷ []) 0 0 A (2 ∷ 3 ∷ [])) ≡ codes "Ajax: no away game in slots 2 and 3"
unfolding digits
ca1-none = refl

pub ca1-from_to : says (Ca1 (0 ∷ 1 ∷ []) 2 3 H (0 ∷ 1 ∷ 2 ∷ [])) ≡ codes "each of Ajax and Brug: from 2 to 3 home games in slots 0 to 2"
unfolding digits
ca1-from_to = refl

pub ca1-no_team : says (Ca1 [] 0 1 H []) ≡ codes "no team: at most 1 home game in no slot"
unfolding digits
ca1-no_team = refl

pub ca2-against : says (Ca2 (0 ∷ []) (1 ∷ 2 ∷ []) 0 1 Both (0 ∷ 1 ∷ 2 ∷ [])) ≡ codes "Ajax: at most 1 game against Brug or Club in slots 0 to 2"
unfolding digits
ca2-against = refl

pub ca2-cant_be : says (Ca2 (3 ∷ []) all_teams 3 1 H (5 ∷ [])) ≡ codes "Dam: at least 3 and at most 1 home game, which can't both be, in slot 5"
unfolding digits
ca2-cant_be = refl

pub ca3-windows : says (Ca3 all_teams all_teams 0 2 3 H) ≡ codes "each team: at most 2 home games in any 3 slots in a row"
unfolding digits
ca3-windows = refl

pub ca3-each_slot : says (Ca3 (0 ∷ 1 ∷ 2 ∷ []) (3 ∷ []) 1 1 1 A) ≡ codes "each of Ajax, Brug and Club: exactly 1 away game against Dam in each slot"
unfolding digits
ca3-each_slot = refl

pub ca3-too_long : says (Ca3 (0 ∷ []) all_teams 0 2 7 H) ≡ codes "Ajax: at most 2 home games in 7 slots in a row, more than the season has"
unfolding digits
ca3-too_long = refl

pub ca4-every : says (Ca4 (0 ∷ 1 ∷ []) (2 ∷ 3 ∷ []) 0 1 Both Every (0 ∷ 5 ∷ [])) ≡ codes "Ajax and Brug together: at most 1 game against Club or Dam in each of the slots 0 and 5"
unfolding digits
ca4-every = refl

pub ca4-global : says (Ca4 all_teams (2 ∷ 3 ∷ []) 0 1 H Global all_slots) ≡ codes "all teams together: at most 1 home game against Club or Dam in the whole season"
unfolding digits
ca4-global = refl

pub ga1-one_game : says (Ga1 ((0, 1) ∷ []) 1 1 (1 ∷ [])) ≡ codes "the game Ajax - Brug: in slot 1"
unfolding digits
ga1-one_game = refl

pub ga1-not_there : says (Ga1 ((0, 1) ∷ []) 0 0 (1 ∷ 2 ∷ 3 ∷ 5 ∷ [])) ≡ codes "the game Ajax - Brug: not in slots 1 to 3 and 5"
unfolding digits
ga1-not_there = refl

pub ga1-two_games : says (Ga1 ((0, 1) ∷ (3, 2) ∷ []) 1 2 (2 ∷ [])) ≡ codes "of the games Ajax - Brug and Dam - Club: from 1 to 2 in slot 2"
unfolding digits
ga1-two_games = refl

pub ga1-no_game : says (Ga1 [] 0 3 (2 ∷ [])) ≡ codes "of no game: at most 3 in slot 2"
unfolding digits
ga1-no_game = refl

pub br1-home : says (Br1 (3 ∷ []) 1 H all_slots) ≡ codes "Dam: at most 1 home break in the whole season"
unfolding digits
br1-home = refl

pub br2-all : says (Br2 all_teams 6 all_slots) ≡ codes "all teams together: at most 6 breaks in the whole season"
unfolding digits
br2-all = refl

pub fa2-each_slot : says (Fa2 all_teams 1 all_slots) ≡ codes "each two teams: at most 1 home game apart after each slot"
unfolding digits
fa2-each_slot = refl

pub fa2-some : says (Fa2 (0 ∷ 1 ∷ 3 ∷ []) 0 (1 ∷ 2 ∷ [])) ≡ codes "each two of Ajax, Brug and Dam: no home game apart after each of the slots 1 and 2"
unfolding digits
fa2-some = refl

pub se1-all : says (Se1 all_teams 2) ≡ codes "each two teams: at least 2 slots between their games"
unfolding digits
se1-all = refl

pub se1-two : says (Se1 (0 ∷ 2 ∷ []) 0) ≡ codes "Ajax and Club: any number of slots between their games"
unfolding digits
se1-two = refl

pub line-hard : constraint_text 4 names 23 (record { hard = true; penalty = 6; class = Se1 all_teams 2 }) ≡ codes "hard 23 SE1: each two teams: at least 2 slots between their games"
unfolding digits
line-hard = refl

pub runs-of_two : slots_list (0 ∷ 1 ∷ 3 ∷ 4 ∷ 5 ∷ []) ≡ codes "0, 1 and 3 to 5"
unfolding digits
runs-of_two = refl
