-- A worked example of GA1 in a league of four teams, worked out by hand.
use Rattle.std.proofs.Common.{◌≡◌, ℕ, List, [], ◌∷◌, map, refl}
use Rattle.league.specs.Counts.{Counts, counts_of}
use Rattle.league.specs.Deviation.{vector_of}
use Rattle.league.specs.Meetings.{games_of}
use Rattle.league.proofs.DoubleFour.{game}
use Rattle.league.specs.declared.class.Class.TheVariants.{Ga1}

-- 0 at home to 1 twice in slot 1, and once in slot 2; 1 at home to 0 in slot 1; 2 at home to 0 and to 1 in slot 4
abbrev counts : Counts
counts = counts_of (game 0 1 1 ∷ game 0 1 1 ∷ game 0 1 2 ∷ game 1 0 1 ∷ game 2 0 4 ∷ game 2 1 4 ∷ [])

abbrev meetings : List (ℕ × ℕ)
meetings = (0, 1) ∷ (2, 0) ∷ []

abbrev slots : List ℕ
slots = 1 ∷ 4 ∷ []

-- three count: both of 0 with 1 in slot 1, and that of 2 with 0; the game in slot 2 isn't in the slots, and 1 with 0
-- and 2 with 1 are other meetings
pub games_of-three : games_of counts meetings slots ≡ 3
games_of-three = refl

abbrev entries : ℕ → ℕ → List ℕ
entries min max = vector_of 4 counts (Ga1 meetings min max slots)

-- three of at least 5 are two too few, and of at most 1 two too many; at the bounds themselves nothing is wrong
pub ga1-bounds : map (λ (p : ℕ × ℕ). entries p.0 p.1) ((5, 9) ∷ (0, 1) ∷ (3, 3) ∷ (0, 9) ∷ []) ≡ (2 ∷ []) ∷ (2 ∷ []) ∷ (0 ∷ []) ∷ (0 ∷ []) ∷ []
ga1-bounds = refl

-- where min is above max the larger counts: 7 - 3 = 4 against 3 - 1 = 2, and 4 - 3 = 1 against 3 - 0 = 3; a sum would
-- be 6 and 4
pub ga1-larger_of_both : map (λ (p : ℕ × ℕ). entries p.0 p.1) ((7, 1) ∷ (4, 0) ∷ []) ≡ (4 ∷ []) ∷ (3 ∷ []) ∷ []
ga1-larger_of_both = refl

-- without meetings, and without slots, no game counts
pub ga1-nothing_listed : (vector_of 4 counts (Ga1 [] 2 9 slots) ≡ 2 ∷ []) × (vector_of 4 counts (Ga1 meetings 2 9 []) ≡ 2 ∷ [])
ga1-nothing_listed = (refl, refl)
