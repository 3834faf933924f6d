-- Which games leave the home games that two teams have played as they are.
use Rattle.std.proofs.Common.{◌≡◌, ◌≢◌, ℕ, ◌+◌, ◌<◌, ◌≤◌, true, false, max, List, [], ◌∷◌, suc, inl, inr, get_or, refl, arith, ap, ◌∙◌}
use Rattle.std.specs.Prelude.{nat_le}
use Rattle.std.proofs.lemmas.Bool.{cases_lt}
use Rattle.std.proofs.lemmas.Bool.Decides.{nat_tests}
use Rattle.std.proofs.lemmas.List.Folds.{list_any_at}
use Rattle.std.proofs.lemmas.List.FromFn.{get_or-range_with_len, length-range_with_len}
use Rattle.std.specs.List.{All, fold, list_any, range_with_len}
use Rattle.league.specs.Bounds.{difference, excess}
use Rattle.league.specs.Counts.{Counts}
use Rattle.league.specs.Fairness.{fa2_entry, home_played}
use Rattle.league.specs.Venues.{home_games}
use Rattle.rule_core.specs.Pairs.{has_team}
use Rattle.league.proofs.SumLemmas.{sum_by-same_in}

-- a pair without a team
pub not_first : (h : ℕ) (p : ℕ × ℕ) → has_team h p ≡ false → p.0 ≢ h
not_first h p out same = grind (arith, nat_tests)

pub not_second : (h : ℕ) (p : ℕ × ℕ) → has_team h p ≡ false → p.1 ≢ h
not_second h p out same = grind (arith, nat_tests)

later : (a b : ℕ) → a ≤ b → nat_le a b ≡ true
later a b h = grind (arith, nat_tests)

-- a slot before which, or in which, there is none of these slots
pub all_before : (slot : ℕ) (slots : List ℕ) → list_any (λ s. nat_le slot s) slots ≡ false → All (λ s. s < slot) slots
all_before slot slots none =
    λ k d lt. elim (cases_lt (get_or slots k d) slot) [
      | inl before ↦ before
      | inr after ↦ absurd (let found : list_any (λ s. nat_le slot s) slots ≡ true = list_any_at (λ s. nat_le slot s) slots k d lt (later slot (get_or slots k d) after) in cc)
    ]

pub apart : (t s slot : ℕ) → t ≤ s → s < slot → t ≢ slot
apart t s slot le lt same = absurd (omega arith)

-- the largest of equal numbers
fold-same : (f h : ℕ → ℕ) (a : ℕ) (xs : List ℕ) → All (λ x. f x ≡ h x) xs → fold (λ a x. max a (f x)) a xs ≡ fold (λ a x. max a (h x)) a xs
fold-same f h a [] same = refl
fold-same f h a (x ∷ xs) same =
    ap (λ (y : ℕ). fold (λ b z. max b (f z)) (max a y) xs) (same 0 x (omega arith))
    ∙ fold-same f h (max a (h x)) xs (λ k d lt. same (suc k) d (omega arith))

-- home games played, where each slot has as many
pub home_played-same : (n : ℕ) (m more : Counts) (i s : ℕ) → ((t : ℕ) → t ≤ s → home_games n more i t ≡ home_games n m i t) → home_played n more i s ≡ home_played n m i s
home_played-same n m more i s same =
    sum_by-same_in (λ t. home_games n more i t) (λ t. home_games n m i t) (range_with_len 0 (s + 1))
    (λ k d lt.
    let inside : k < s + 1 = omega (arith, length-range_with_len 0 (s + 1)) in
    let at : get_or (range_with_len 0 (s + 1)) k d ≡ 0 + k = get_or-range_with_len 0 (s + 1) k d inside in
    same (get_or (range_with_len 0 (s + 1)) k d) (omega arith))

-- an entry, where both teams have played as many home games after each of the slots
pub fa2_entry-same : (n : ℕ) (m more : Counts) (intp : ℕ) (slots : List ℕ) (p : ℕ × ℕ) → All (λ s. (home_played n more p.0 s ≡ home_played n m p.0 s) × (home_played n more p.1 s ≡ home_played n m p.1 s)) slots → fa2_entry n more intp slots p ≡ fa2_entry n m intp slots p
fa2_entry-same n m more intp slots p same =
    fold-same (λ s. excess (difference (home_played n more p.0 s) (home_played n more p.1 s)) intp) (λ s. excess (difference (home_played n m p.0 s) (home_played n m p.1 s)) intp) 0 slots
    (λ k d lt.
    let s : ℕ = get_or slots k d in
    let both = same k d lt in
    ap (λ (x : ℕ). excess (difference x (home_played n more p.1 s)) intp) both.0 ∙ ap (λ (y : ℕ). excess (difference (home_played n m p.0 s) y) intp) both.1)
