-- The breaks of a team's pattern are its home and away breaks, where it has exactly one game in each slot.
use Rattle.std.proofs.Common.{◌≡◌, ℕ, zero, suc, ◌+◌, ◌-◌, ◌<◌, ◌≤◌, Bool, true, ◌&&◌, nat_lt, List, ◌∷◌, map, length, get_or, refl, arith, ap, subst, sym, ◌∙◌}
use Rattle.std.proofs.lemmas.Bool.Decides.{nat_tests}
use Rattle.std.proofs.lemmas.List.FromFn.{get_or-map-range_with_len, length-map-range_with_len}
use Rattle.std.proofs.lemmas.List.Sums.{sum_by-cons}
use Rattle.std.specs.List.{count_by, range_with_len, sum_by}
use Rattle.league.specs.Breaks.{all_breaks, breaks_among, breaks_at}
use Rattle.league.specs.Counts.{Counts, counts_of, teams_of}
use Rattle.league.specs.Structure.{first_half}
use Rattle.league.specs.Venues.{away_games, home_games}
use Rattle.league.specs.declared.class.Side.{Side}
use Rattle.league.specs.declared.class.Side.TheVariants.{Both}
use Rattle.league.specs.declared.game.Game.{Game}
use Rattle.league.proofs.RangeLemmas.{one_if}
use Rattle.league.proofs.SumLemmas.{sum_by-map}
use Rattle.circle_method.specs.Circle.{single_games}
use Rattle.circle_method.specs.SingleRoundRobin.{IsSingleRoundRobin}
use Rattle.league.proofs.OneTermLemmas.{sum_by-range_same}
use Rattle.patterns.specs.Pattern.{breaks_in, has_break, is_repeat}
use Rattle.patterns.specs.PatternSet.{canonical_patterns, letter_of, pattern_in, side_with, team_breaks}

-- a break of the letters, by the home and away games in both slots
repeat_is : (a b c d : ℕ) → a + b ≡ 1 → c + d ≡ 1 → one_if (is_repeat (side_with a) (side_with c)) ≡ one_if (nat_lt 0 a && nat_lt 0 c) + one_if (nat_lt 0 b && nat_lt 0 d)
repeat_is zero (suc zero) zero (suc zero) first second = refl
repeat_is zero (suc zero) (suc zero) zero first second = refl
repeat_is (suc zero) zero zero (suc zero) first second = refl
repeat_is (suc zero) zero (suc zero) zero first second = refl
repeat_is a b c d first second = absurd (omega arith)

-- at a slot after the first
break_at : (n : ℕ) (m : Counts) (i k s : ℕ) → ((t : ℕ) → t < k → home_games n m i t + away_games n m i t ≡ 1) → 1 ≤ s → s < k → one_if (has_break (pattern_in n m (range_with_len 0 k) i) s) ≡ breaks_at n m Both i s
break_at n m i k s cells low high =
    let letters = pattern_in n m (range_with_len 0 k) i in
    let at : (t : ℕ) → t < k → get_or letters t Both ≡ letter_of n m i t = λ t h. get_or-map-range_with_len (letter_of n m i) 0 k t t Both h (omega arith) in
    let inside : s - 1 < k = omega arith in
    let late : nat_lt 0 s ≡ true = grind (arith, nat_tests) in
    let home : ℕ → ℕ = home_games n m i in
    let away : ℕ → ℕ = away_games n m i in
    let read : one_if (has_break letters s) ≡ one_if (is_repeat (letter_of n m i (s - 1)) (letter_of n m i s)) = ap (λ (x : Side). one_if (is_repeat x (get_or letters s Both))) (at (s - 1) inside) ∙ ap (λ (x : Side). one_if (is_repeat (letter_of n m i (s - 1)) x)) (at s high) in
    let tested : (h : ℕ → ℕ) → one_if (nat_lt 0 s && nat_lt 0 (h (s - 1)) && nat_lt 0 (h s)) ≡ one_if (nat_lt 0 (h (s - 1)) && nat_lt 0 (h s)) = λ h. ap (λ (b : Bool). one_if (b && nat_lt 0 (h (s - 1)) && nat_lt 0 (h s))) late in
    omega (arith, read, repeat_is (home (s - 1)) (away (s - 1)) (home s) (away s) (cells (s - 1) inside) (cells s high), tested home, tested away)

-- in the first k slots
pub breaks_in-pattern_in : (n : ℕ) (m : Counts) (i k : ℕ) → ((t : ℕ) → t < k → home_games n m i t + away_games n m i t ≡ 1) → breaks_in (pattern_in n m (range_with_len 0 k) i) ≡ breaks_among n m Both (range_with_len 0 k) i
breaks_in-pattern_in n m i zero cells = refl
breaks_in-pattern_in n m i (suc k) cells =
    let letters = pattern_in n m (range_with_len 0 (suc k)) i in
    let long : length letters ≡ suc k = length-map-range_with_len (letter_of n m i) 0 (suc k) in
    let shorter : length letters - 1 ≡ k = omega arith in
    let breaks : ℕ → ℕ = λ s. breaks_at n m Both i s in
    omega (
      arith,
      ap (λ (l : ℕ). count_by (has_break letters) (range_with_len 1 l)) shorter,
      sum_by-range_same (λ s. one_if (has_break letters s)) breaks 1 k (λ s low high. break_at n m i (suc k) s cells low (omega arith)),
      sum_by-cons breaks 0 (range_with_len (0 + 1) k),
    )

-- numbers of the items of a list made from numbers, told of each number
map-made : {X : Type 0} (f : X → ℕ) (made : ℕ → X) (g : ℕ → ℕ) (a k : ℕ) → ((i : ℕ) → a ≤ i → i < a + k → f (made i) ≡ g i) → map f (map made (range_with_len a k)) ≡ map g (range_with_len a k)
map-made f made g a zero each = refl
map-made f made g a (suc k) each =
    ap (λ (x : ℕ). x ∷ map f (map made (range_with_len (a + 1) k))) (each a (omega arith) (omega arith))
    ∙ ap (λ (xs : List ℕ). g a ∷ xs) (map-made f made g (a + 1) k (λ i low high. each i (omega arith) (omega arith)))

-- the breaks of all patterns, team by team
pub breaks_in-patterns : (n k : ℕ) (m : Counts) (patterns : List (List Side)) → ((i t : ℕ) → i < n → t < k → home_games n m i t + away_games n m i t ≡ 1) → patterns ≡ map (pattern_in n m (range_with_len 0 k)) (teams_of n) → map breaks_in patterns ≡ team_breaks n m (range_with_len 0 k)
breaks_in-patterns n k m patterns cells is =
    ap (map breaks_in) is
    ∙ map-made breaks_in (pattern_in n m (range_with_len 0 k)) (breaks_among n m Both (range_with_len 0 k)) 0 n (λ i low high. breaks_in-pattern_in n m i k (λ t slot. cells i t (omega arith) slot))

-- the sum of the breaks of all patterns
pub sum_by-breaks_in : (n : ℕ) (m : Counts) (slots : List ℕ) (patterns : List (List Side)) → map breaks_in patterns ≡ team_breaks n m slots → sum_by breaks_in patterns ≡ all_breaks n m (teams_of n) slots
sum_by-breaks_in n m slots patterns is =
    sym (sum_by-map (λ x. x) breaks_in patterns) ∙ ap (sum_by (λ x. x)) is ∙ sum_by-map (λ x. x) (breaks_among n m Both slots) (teams_of n)

-- the breaks of the canonical patterns, team by team and together
pub canonical-breaks : (n : ℕ) (games : List Game) (patterns : List (List Side)) → games ≡ single_games n → IsSingleRoundRobin n games → patterns ≡ canonical_patterns n → map breaks_in patterns ≡ team_breaks n (counts_of (single_games n)) (first_half n)
canonical-breaks n games patterns same single is =
    let P : List Game → Type 0 = λ xs. IsSingleRoundRobin n xs in
    let circle : IsSingleRoundRobin n (single_games n) = subst P same single in
    breaks_in-patterns n (n - 1) (counts_of (single_games n)) patterns (λ i s team slot. circle.cells i s team slot) is

pub canonical-few : (n : ℕ) (games : List Game) (patterns : List (List Side)) → games ≡ single_games n → all_breaks n (counts_of games) (teams_of n) (first_half n) ≡ n - 2 → map breaks_in patterns ≡ team_breaks n (counts_of (single_games n)) (first_half n) → sum_by breaks_in patterns ≡ n - 2
canonical-few n games patterns same few each =
    sum_by-breaks_in n (counts_of (single_games n)) (first_half n) patterns each
    ∙ ap (λ (xs : List Game). all_breaks n (counts_of xs) (teams_of n) (first_half n)) (sym same)
    ∙ few
