-- A worked example of SE1 in a league of six teams, which has ten slots, worked out by hand.
use Rattle.std.proofs.Common.{◌≡◌, ℕ, List, [], ◌∷◌, map, refl}
use Rattle.league.specs.Counts.{Counts, counts_of}
use Rattle.league.specs.Deviation.{vector_of}
use Rattle.league.specs.Separation.{lacking, mutual_games}
use Rattle.league.specs.declared.class.Class.TheVariants.{Se1}
use Rattle.league.proofs.DoubleFour.{game}

-- 1 and 3 meet in slot 1, twice in slot 4 and in the last slot, 9, at either's home; 3 and 5 meet in the slots 0 and 1;
-- 1 and 5 once; 0 and 2 in slot 4
abbrev counts : Counts
counts = counts_of (game 1 3 1 ∷ game 3 1 4 ∷ game 1 3 4 ∷ game 3 1 9 ∷ game 5 3 1 ∷ game 3 5 0 ∷ game 5 1 7 ∷ game 0 2 4 ∷ [])

pub mutual_games-each : map (mutual_games 6 counts) ((1, 3) ∷ (1, 5) ∷ (3, 5) ∷ []) ≡ (1 ∷ 4 ∷ 4 ∷ 9 ∷ []) ∷ (7 ∷ []) ∷ (0 ∷ 1 ∷ []) ∷ []
mutual_games-each = refl

abbrev entries : ℕ → List ℕ
entries min = vector_of 6 counts (Se1 (1 ∷ 3 ∷ 5 ∷ []) min)

-- Between the neighbours of 1 and 3 lie the slots 2 and 3, none, and 5 to 8: two, none and four. With min 3 they lack
-- 1, 3 and 0; 1 and 5 have no neighbours; between 3 and 5's games lies no slot.
pub se1-min_3 : entries 3 ≡ 4 ∷ 0 ∷ 3 ∷ []
se1-min_3 = refl

-- with min 8 they lack 6, 8 and 4: the first and the last game, seven slots apart, aren't neighbours, and add nothing
pub se1-min_8 : entries 8 ≡ 18 ∷ 0 ∷ 8 ∷ []
se1-min_8 = refl

-- with min 1 what is lacking is between games with no slot between them alone
pub se1-min_1 : (entries 1 ≡ 1 ∷ 0 ∷ 1 ∷ []) × (entries 0 ≡ 0 ∷ 0 ∷ 0 ∷ [])
se1-min_1 = (refl, refl)

-- three games in one slot have two neighbours
pub lacking-three_in_one_slot : lacking 2 (4 ∷ 4 ∷ 4 ∷ []) ≡ 4
lacking-three_in_one_slot = refl

-- no pair, no entry
pub se1-one_team : vector_of 6 counts (Se1 (3 ∷ []) 9) ≡ []
se1-one_team = refl
