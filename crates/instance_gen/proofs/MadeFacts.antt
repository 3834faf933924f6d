-- Worked examples of draws and of made leagues. The words of the seeds 1 and 7 and what is made of them were worked out
-- apart from this workspace.
use Rattle.std.proofs.Common.{◌≡◌, ℕ, List, [], ◌∷◌, length, refl}
use Rattle.rand_core.specs.Pcg32Seed.{pcg32_seed}
use Rattle.rand_core.specs.Steps.{u32_at, word_bytes}
use Rattle.league.specs.declared.class.Class.TheVariants.{Ca1, Ca2, Ca3, Ca4, Ga1, Br1, Br2, Fa2, Se1}
use Rattle.league.specs.declared.class.Side.TheVariants.{H, A, Both}
use Rattle.league.specs.declared.class.Span.TheVariants.{Global}
use Rattle.instance_gen.specs.Draws.{after, next, seeded, set_of, word}
use Rattle.instance_gen.specs.Made.{circle_breaks, circle_games, fixed_first, fixed_last, from_br1, from_ca2, from_ca4}
use Rattle.instance_gen.specs.Made.{from_ga1, game_at, hard, made_ca1, made_ca2, made_ca4, made_ga1, made_br1}
use Rattle.instance_gen.specs.Made.{made_constraints, side_of, soft}
use Rattle.league.proofs.DoubleFour.{game}

-- repeats are dropped, and numbers are put in order
pub set_of-some : (set_of (4 ∷ 2 ∷ 4 ∷ []) ≡ 2 ∷ 4 ∷ []) × (set_of (5 ∷ 5 ∷ []) ≡ 5 ∷ []) × (set_of [] ≡ [])
set_of-some = (refl, refl, refl)

pub side_of-both : (side_of 0 ≡ H) × (side_of 1 ≡ A)
side_of-both = (refl, refl)

-- the breaks of both halves, and those at the first slot of the second
pub circle_breaks-few : (circle_breaks 2 ≡ 0) × (circle_breaks 4 ≡ 6) × (circle_breaks 6 ≡ 12)
circle_breaks-few = (refl, refl, refl)

-- team 0 of four is away, away, home, home, home, away
pub circle_games-four : (circle_games 4 0 H (2 ∷ 3 ∷ []) ≡ 2) × (circle_games 4 0 A (2 ∷ 3 ∷ []) ≡ 0)
    × (circle_games 4 0 A (0 ∷ 1 ∷ 4 ∷ []) ≡ 2)
circle_games-four = (refl, refl, refl)

-- the games stand slot by slot, the last team's first
pub game_at-four : (game_at 4 0 ≡ game 3 0 0) × (game_at 4 1 ≡ game 1 2 0) × (game_at 4 11 ≡ game 1 0 5)
game_at-four = (refl, refl, refl)

-- the first and the fifth word of seed 7, and the first of seed 1
pub word-some : (word (seeded 7) ≡ 2442223337) × (word (after 4 (seeded 7)) ≡ 2371632060)
    × (word (seeded 1) ≡ 866585574)
unfolding seeded word next pcg32_seed u32_at word_bytes
word-some = (refl, refl, refl)

-- words 0 to 4 of seed 1 are 866585574, 2109535214, 3403630417, 296513984 and 4177522235: team 2 of 4, side 0 of 2,
-- slots 1, 2 and 5 of 6; the team is at home in slots 1 and 5
pub ca1-home : made_ca1 4 (seeded 1) ≡ hard (Ca1 (2 ∷ []) 0 2 H (1 ∷ 2 ∷ 5 ∷ []))
unfolding seeded word next pcg32_seed u32_at word_bytes
ca1-home = refl

-- words 0 to 4 of seed 9 are 3429093174, 673120095, 3444530991, 1995233291 and 868955038: team 2, side 1, slots 3, 5
-- and 4; the team is away in slot 3
pub ca1-away : made_ca1 4 (seeded 9) ≡ hard (Ca1 (2 ∷ []) 0 1 A (3 ∷ 4 ∷ 5 ∷ []))
unfolding seeded word next pcg32_seed u32_at word_bytes
ca1-away = refl

-- words 10 to 14 of seed 1: 1681321507, 1272359636, 3233537623, 36791650, 1289198517, so team 3, opponents 0 and 3,
-- slot 1 of 3 and 7 of 10
pub ca2-first : made_ca2 4 (from_ca2 4 (seeded 1)) ≡ soft 8 (Ca2 (3 ∷ []) (0 ∷ 3 ∷ []) 0 1 Both (1 ∷ 2 ∷ []))
unfolding seeded word next pcg32_seed u32_at word_bytes
ca2-first = refl

-- words 30 to 35: 3768611835, 819201051, 2096160802, 3055186575, 2644253696, 920910285, so teams 3 and 3, opponents 2
-- and 3, 2 of 3 and 5 of 10
pub ca4-first : made_ca4 4 (from_ca4 4 (seeded 1)) ≡ soft 6 (Ca4 (3 ∷ []) (2 ∷ 3 ∷ []) 0 2 H Global (0 ∷ 1 ∷ 2 ∷ []))
unfolding seeded word next pcg32_seed u32_at word_bytes
ca4-first = refl

-- words 42 and 43: 1538352997 and 3382101938, so place 1 of 12, which is team 1 at home to team 2 in slot 0, and slot 2
pub ga1-first : made_ga1 4 (from_ga1 4 (seeded 1)) ≡ hard (Ga1 ((1, 2) ∷ []) 1 1 (0 ∷ 2 ∷ []))
unfolding seeded word next pcg32_seed u32_at word_bytes
ga1-first = refl

-- words 53 to 55, of the second BR1: 816047800, 3344626174, 3342510451, so team 0, 1 of 3 and 1 of 10
pub br1-second : made_br1 4 (after 3 (from_br1 4 (seeded 1)))
    ≡ soft 2 (Br1 (0 ∷ []) 1 Both (0 ∷ 1 ∷ 2 ∷ 3 ∷ 4 ∷ 5 ∷ []))
unfolding seeded word next pcg32_seed u32_at word_bytes
br1-second = refl

-- a league of two teams has one drawn team, one slot in the first half, and windows longer than its season
abbrev two : List ℕ
two = 0 ∷ 1 ∷ []

pub fixed_first-two : fixed_first 2 ≡ soft 5 (Ca3 two two 0 2 3 H) ∷ soft 5 (Ca3 two two 0 2 3 A) ∷ []
fixed_first-two = refl

pub fixed_last-two : fixed_last 2
    ≡ hard (Br2 two 0 two)
    ∷ soft 10 (Br2 two 0 two)
    ∷ soft 10 (Fa2 two 2 two)
    ∷ hard (Se1 two 0)
    ∷ soft 2 (Se1 two 1)
    ∷ []
fixed_last-two = refl

-- n + 17 constraints
pub length-some : (length (made_constraints 2 (seeded 0)) ≡ 19) × (length (made_constraints 4 (seeded 1)) ≡ 21)
length-some = (refl, refl)
