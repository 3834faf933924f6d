-- The home games of two teams, slot by slot.
use Rattle.std.proofs.Common.{◌≡◌, ℕ, ◌+◌, ◌<◌, ◌==◌, max, cond, List, [], ◌∷◌, Option, Some, get_or, length, refl, arith, ap, subst, ◌∙◌}
use Rattle.std.proofs.lemmas.List.{get_or-map}
use Rattle.std.proofs.lemmas.List.Elements.{All-head, All-tail, All-weaker}
use Rattle.std.proofs.lemmas.List.FromFn.{get_or-range_with_len, length-map-range_with_len, length-range_with_len}
use Rattle.std.specs.List.{All, find, fold, range_with_len}
use Rattle.league.specs.Bounds.{difference, largest}
use Rattle.league.specs.Counts.{Counts, slot_count}
use Rattle.league.specs.Fairness.{home_played}
use Rattle.season_misses.specs.Reasons.{apart, furthest}
use Rattle.season_misses.specs.Runs.{home_runs, runs_apart}

-- ---- functions that agree on a list

largest-same_from : (f g : ℕ → ℕ) (a : ℕ) (xs : List ℕ) → All (λ x. f x ≡ g x) xs → fold (λ m x. max m (f x)) a xs ≡ fold (λ m x. max m (g x)) a xs
largest-same_from f g a [] same = refl
largest-same_from f g a (x ∷ xs) same =
    ap (λ (y : ℕ). fold (λ m x. max m (f x)) (max a y) xs) (All-head (λ x. f x ≡ g x) x xs same)
    ∙ largest-same_from f g (max a (g x)) xs (All-tail (λ x. f x ≡ g x) x xs same)

find-same : (f g : ℕ → ℕ) (most : ℕ) (xs : List ℕ) → All (λ x. f x ≡ g x) xs → find (λ x. f x == most) xs ≡ find (λ x. g x == most) xs
find-same f g most [] same = refl
find-same f g most (x ∷ xs) same =
    ap (λ (y : ℕ). cond (y == most) (Some x) (find (λ x. f x == most) xs)) (All-head (λ x. f x ≡ g x) x xs same)
    ∙ ap (λ (found : Option ℕ). cond (g x == most) (Some x) found) (find-same f g most xs (All-tail (λ x. f x ≡ g x) x xs same))

-- the first place of the largest value is the same
furthest-same : (f g : ℕ → ℕ) (xs : List ℕ) → All (λ x. f x ≡ g x) xs → find (λ x. f x == largest f xs) xs ≡ find (λ x. g x == largest g xs) xs
furthest-same f g xs same =
    ap (λ (most : ℕ). find (λ x. f x == most) xs) (largest-same_from f g 0 xs same)
    ∙ find-same f g (largest g xs) xs same

-- ---- the home games after each slot

pub runs-long : (n : ℕ) (m : Counts) (i : ℕ) → length (home_runs n m i) ≡ slot_count n
runs-long n m i = length-map-range_with_len (home_played n m i) 0 (slot_count n)

runs-read : (n : ℕ) (m : Counts) (i s : ℕ) → s < slot_count n → get_or (home_runs n m i) s 0 ≡ home_played n m i s
runs-read n m i s within =
    let long : length (range_with_len 0 (slot_count n)) ≡ slot_count n = length-range_with_len 0 (slot_count n) in
    let at : get_or (range_with_len 0 (slot_count n)) s 0 ≡ 0 + s = get_or-range_with_len 0 (slot_count n) s 0 within in
    let here : get_or (range_with_len 0 (slot_count n)) s 0 ≡ s = omega arith in
    get_or-map (home_played n m i) (range_with_len 0 (slot_count n)) s 0 0 (omega arith)
    ∙ ap (home_played n m i) here

pub runs-apart : (n : ℕ) (m : Counts) (p : ℕ × ℕ) (s : ℕ) → s < slot_count n → runs_apart (home_runs n m p.0) (home_runs n m p.1) s ≡ apart n m p s
runs-apart n m p s within =
    ap (λ (x : ℕ). difference x (get_or (home_runs n m p.1) s 0)) (runs-read n m p.0 s within)
    ∙ ap (λ (y : ℕ). difference (home_played n m p.0 s) y) (runs-read n m p.1 s within)

-- where two teams are furthest apart, by these lists
pub runs-furthest : (n : ℕ) (m : Counts) (p : ℕ × ℕ) (slots : List ℕ) → All (λ s. s < slot_count n) slots
    → find (λ s. runs_apart (home_runs n m p.0) (home_runs n m p.1) s == largest (runs_apart (home_runs n m p.0) (home_runs n m p.1)) slots) slots
    ≡ furthest n m slots p
runs-furthest n m p slots within =
    furthest-same (runs_apart (home_runs n m p.0) (home_runs n m p.1)) (apart n m p) slots
    (All-weaker (λ s. s < slot_count n) (λ s. runs_apart (home_runs n m p.0) (home_runs n m p.1) s ≡ apart n m p s) (runs-apart n m p) slots within)

-- the same of lists that were made of equal counts
pub first-furthest : (n : ℕ) (read m : Counts) (p : ℕ × ℕ) (slots first second : List ℕ) → read ≡ m
    → first ≡ home_runs n read p.0 → second ≡ home_runs n read p.1 → All (λ s. s < slot_count n) slots
    → find (λ s. runs_apart first second s == largest (runs_apart first second) slots) slots ≡ furthest n m slots p
first-furthest n read m p slots first second same is_first is_second within =
    ap (λ (one : List ℕ). find (λ s. runs_apart one second s == largest (runs_apart one second) slots) slots) is_first
    ∙ ap (λ (two : List ℕ). find (λ s. runs_apart (home_runs n read p.0) two s == largest (runs_apart (home_runs n read p.0) two) slots) slots) is_second
    ∙ runs-furthest n read p slots within
    ∙ ap (λ (counts : Counts). furthest n counts slots p) same

-- how far two teams are apart after a slot that the first list has
pub read-apart : (n : ℕ) (read m : Counts) (p : ℕ × ℕ) (s : ℕ) (whole first second : List ℕ) → read ≡ m
    → whole ≡ home_runs n read p.0 → first ≡ home_runs n read p.0 → second ≡ home_runs n read p.1 → s < length whole
    → runs_apart first second s ≡ apart n m p s
read-apart n read m p s whole first second same is_whole is_first is_second within =
    ap (λ (one : List ℕ). runs_apart one second s) is_first
    ∙ ap (λ (two : List ℕ). runs_apart (home_runs n read p.0) two s) is_second
    ∙ runs-apart n read p s (subst (λ (count : ℕ). s < count) (ap length is_whole ∙ runs-long n read p.0) within)
    ∙ ap (λ (counts : Counts). apart n counts p s) same
