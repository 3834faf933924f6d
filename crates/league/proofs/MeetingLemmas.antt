-- All meetings of a league as a loop over home teams and away teams, and all pairs as a loop over teams and later
-- teams; how many pairs there are.
use Rattle.std.proofs.Common.{◌≡◌, ℕ, zero, suc, ◌+◌, ◌-◌, ◌*◌, ◌/◌, ◌<◌, Bool, true, false, not, ◌&&◌, ◌==◌, List, [], ◌∷◌, length, map, cond, if◌then◌else◌, refl, arith, ap, ◌∙◌}
use Rattle.std.proofs.lemmas.List.Sums.{sum_by-append}
use Rattle.std.specs.List.{count_by, range_with_len, sum_by}
use Rattle.std.proofs.lemmas.List.{length-append, length-map}
use Rattle.league.specs.Counts.{teams_of}
use Rattle.league.specs.Meetings.{meetings_of, others, pairs_of}
use Rattle.league.proofs.SumLemmas.{sum_by-filter, sum_by-flat_map, sum_by-map, sum_by-same}

-- the sum over a home team's meetings
pub sum_by-others : (f : ℕ × ℕ → ℕ) (i : ℕ) (teams : List ℕ) → sum_by f (map (λ j. (i, j)) (others i teams)) ≡ sum_by (λ j. if not (j == i) then f (i, j) else 0) teams
sum_by-others f i teams = sum_by-map f (λ j. (i, j)) (others i teams) ∙ sum_by-filter (λ j. f (i, j)) (λ j. not (j == i)) teams

-- the sum over all meetings
pub sum_by-meetings_of : (f : ℕ × ℕ → ℕ) (n : ℕ) → sum_by f (meetings_of n) ≡ sum_by (λ i. sum_by (λ j. if not (j == i) then f (i, j) else 0) (teams_of n)) (teams_of n)
sum_by-meetings_of f n =
    sum_by-flat_map f (λ i. map (λ j. (i, j)) (others i (teams_of n))) (teams_of n)
    ∙ sum_by-same (λ i. sum_by f (map (λ j. (i, j)) (others i (teams_of n)))) (λ i. sum_by (λ j. if not (j == i) then f (i, j) else 0) (teams_of n)) (λ i. sum_by-others f i (teams_of n)) (teams_of n)

-- a number under two tests
cond-both : (a b : Bool) (x : ℕ) → cond a (cond b x 0) 0 ≡ cond (a && b) x 0
cond-both true b x = refl
cond-both false b x = refl

-- how many of all meetings pass a test
pub count_by-meetings_of : (p : ℕ × ℕ → Bool) (n : ℕ) → count_by p (meetings_of n) ≡ sum_by (λ i. count_by (λ j. not (j == i) && p (i, j)) (teams_of n)) (teams_of n)
count_by-meetings_of p n =
    sum_by-meetings_of (λ m. cond (p m) 1 0) n
    ∙ sum_by-same (λ i. sum_by (λ j. if not (j == i) then cond (p (i, j)) 1 0 else 0) (teams_of n)) (λ i. count_by (λ j. not (j == i) && p (i, j)) (teams_of n))
    (λ i. sum_by-same (λ j. if not (j == i) then cond (p (i, j)) 1 0 else 0) (λ j. cond (not (j == i) && p (i, j)) 1 0) (λ j. cond-both (not (j == i)) (p (i, j)) 1) (teams_of n)) (teams_of n)

-- how many pairs of team i and the later ones pass a test: those of i with a later team, and those of the later ones
count_by-pairs_of : (p : ℕ × ℕ → Bool) (i : ℕ) (later : List ℕ) → count_by p (pairs_of (i ∷ later)) ≡ count_by (λ j. p (i, j)) later + count_by p (pairs_of later)
count_by-pairs_of p i later =
    omega (arith, sum_by-append (λ m. cond (p m) 1 0) (map (λ j. (i, j)) later) (pairs_of later), sum_by-map (λ m. cond (p m) 1 0) (λ j. (i, j)) later)

-- how many pairs in the range from i to n pass a test: those of i with a later team, and those of the later ones
pub count_by-pairs_from : (p : ℕ × ℕ → Bool) (i n : ℕ) → i < n → count_by p (pairs_of (range_with_len i (n - i))) ≡ count_by (λ j. p (i, j)) (range_with_len (i + 1) (n - (i + 1))) + count_by p (pairs_of (range_with_len (i + 1) (n - (i + 1))))
count_by-pairs_from p i n h =
    let length_is : n - i ≡ suc (n - (i + 1)) = omega arith in
    let whole : ℕ → ℕ = λ k. count_by p (pairs_of (range_with_len i k)) in
    let first : whole (n - i) ≡ whole (suc (n - (i + 1))) = ap whole length_is in
    omega (arith, first, count_by-pairs_of p i (range_with_len (i + 1) (n - (i + 1))))

-- twice as many pairs as a square without its diagonal has
pub pair_count : (teams : List ℕ) → length (pairs_of teams) * 2 + length teams ≡ length teams * length teams
pair_count [] = refl
pair_count (t ∷ teams) = omega (arith, length-append (map (λ (j : ℕ). (t, j)) teams) (pairs_of teams), length-map {B = ℕ × ℕ} teams (λ (j : ℕ). (t, j)), pair_count teams)

-- half of a square without its diagonal
pub half : (pairs x : ℕ) → pairs * 2 + x ≡ x * x → x * (x - 1) / 2 ≡ pairs
half pairs zero h = omega arith
half pairs (suc y) h =
    let less : suc y - 1 ≡ y = omega arith in
    let square : suc y * suc y ≡ suc y * y + suc y = grind arith in
    let twice : pairs * 2 ≡ suc y * y = omega arith in
    ap (λ (x : ℕ). suc y * x / 2) less ∙ omega arith
