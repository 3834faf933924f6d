-- Made leagues of six teams, whose circle was worked out by hand: slot 0 has (5,0), (1,4), (3,2), slot 1 (1,5), (2,0),
-- (4,3); team 0's letters are AAHAH, and then HHAHA.
use Rattle.std.proofs.Common.{◌≡◌, [], ◌∷◌, refl}
use Rattle.rand_pcg.specs.Lcg.{Lcg}
use Rattle.league.specs.declared.class.Class.TheVariants.{Ca1, Ca2, Ga1}
use Rattle.league.specs.declared.class.Side.TheVariants.{H, A, Both}
use Rattle.league.proofs.DoubleFour.{game}
use Rattle.instance_gen.specs.Draws.{after, set_of}
use Rattle.instance_gen.specs.Made.{ca1_with, ca2_with, circle_games, from_br1, from_ca2, from_ca4, from_ga1}
use Rattle.instance_gen.specs.Made.{ga1_with, game_at, hard, soft_drawn, soft}

-- slots 4 and 5 at home; 0, 1 and 7 away; both sides
pub circle_games-six : (circle_games 6 0 H (0 ∷ 4 ∷ 5 ∷ []) ≡ 2) × (circle_games 6 0 A (0 ∷ 1 ∷ 7 ∷ []) ≡ 3)
    × (circle_games 6 0 H [] ≡ 0)
circle_games-six = (refl, refl, refl)

-- the third game, and the first of the second half
pub game_at-six : (game_at 6 2 ≡ game 3 2 0) × (game_at 6 15 ≡ game 0 5 5)
game_at-six = (refl, refl)

-- three slots of which two are one: its bound is what there is in two
pub ca1-repeated : ca1_with 6 0 H (set_of (5 ∷ 4 ∷ 5 ∷ [])) ≡ hard (Ca1 (0 ∷ []) 0 2 H (4 ∷ 5 ∷ []))
ca1-repeated = refl

-- a game is played in its own slot where that slot is drawn
pub ga1-own_slot : ga1_with (game 3 2 0) 0 ≡ hard (Ga1 ((3, 2) ∷ []) 1 1 (0 ∷ []))
ga1-own_slot = refl

-- three slots from the last that can be drawn, and a penalty of 1 to 10
pub ca2-last : soft_drawn 9 (ca2_with 6 1 (1 ∷ []) 4) ≡ soft 10 (Ca2 (1 ∷ []) (1 ∷ []) 0 1 Both (4 ∷ 5 ∷ 6 ∷ []))
ca2-last = refl

-- 3 times 5 words, 4 times 5, 2 times 6, 4 times 2
pub words-six : (g : Lcg) → (from_ca2 6 g ≡ after 15 g) × (from_ca4 6 g ≡ after 35 g) × (from_ga1 6 g ≡ after 47 g)
    × (from_br1 6 g ≡ after 55 g)
words-six g = (refl, refl, refl, refl)
