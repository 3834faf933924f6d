-- Breaks as bits.
use Rattle.std.proofs.Common.{◌≡◌, ℕ, zero, suc, ◌-◌, ◌*◌, ◌/◌, ◌%◌, ◌^◌, ◌<◌, min, Bool, true, false, ◌&&◌, nat_lt, List, get_or, bit_and, refl, arith, ap, sym, ◌∙◌}
use Rattle.std.proofs.lemmas.Bool.Decides.{nat_tests}
use Rattle.std.proofs.lemmas.Nat.{shl_whole}
use Rattle.std.proofs.lemmas.Nat.Bits.{bit_at_lowest, bit_at-suc, bit_at_and}
use Rattle.std.specs.Int.{bit_at}
use Rattle.std.specs.List.{All, sum_by}
use Rattle.league.specs.Breaks.{twice_in_a_row}
use Rattle.league.proofs.RangeLemmas.{one_if}
use Rattle.league.proofs.SumLemmas.{sum_by-same_in}

-- the lesser of two bits tells whether both are set
lesser : (b c : Bool) → min (one_if c) (one_if b) ≡ one_if (true && b && c)
lesser true true = refl
lesser true false = refl
lesser false true = refl
lesser false false = refl

none_below : (b : ℕ) → min b 0 ≡ 0
none_below b = omega arith

is_later : (s : ℕ) → nat_lt 0 (suc s) ≡ true
is_later s = grind (arith, nat_tests)

-- a slot has its bit and that of the slot before where it has games twice in a row
twice_set : (played : ℕ) (games : ℕ → ℕ) (season s : ℕ) → s < season
    → ((s : ℕ) → s < season → bit_at played s ≡ one_if (nat_lt 0 (games s)))
    → bit_at (bit_and played (played * 2)) s ≡ one_if (twice_in_a_row games s)
twice_set played games season zero within told =
    let lowest : bit_at (played * 2) 0 ≡ 0 = omega (arith, bit_at_lowest (played * 2)) in
    bit_at_and played (played * 2) 0 ∙ ap (min (bit_at played 0)) lowest ∙ none_below (bit_at played 0)
twice_set played games season (suc s) within told =
    let halved : played * 2 / 2 ≡ played = omega arith in
    let before : suc s - 1 ≡ s = omega arith in
    let earlier : bit_at (played * 2) (suc s) ≡ one_if (nat_lt 0 (games s)) =
    bit_at-suc (played * 2) s ∙ ap (λ (p : ℕ). bit_at p s) halved ∙ told s (omega arith) in
    bit_at_and played (played * 2) (suc s)
    ∙ ap (min (bit_at played (suc s))) earlier
    ∙ ap (λ (b : ℕ). min b (one_if (nat_lt 0 (games s)))) (told (suc s) within)
    ∙ lesser (nat_lt 0 (games s)) (nat_lt 0 (games (suc s)))
    ∙ sym (ap (λ (b : Bool). one_if (b && nat_lt 0 (games s) && nat_lt 0 (games (suc s)))) (is_later s))
    ∙ sym (ap (λ (k : ℕ). one_if (nat_lt 0 (suc s) && nat_lt 0 (games k) && nat_lt 0 (games (suc s)))) before)

-- the slots with games twice in a row, as they are computed, over some slots
pub twice_counted : (played : ℕ) (games : ℕ → ℕ) (season : ℕ) (slots : List ℕ) → played < 2 ^ 78
    → All (λ s. s < season) slots → ((s : ℕ) → s < season → bit_at played s ≡ one_if (nat_lt 0 (games s)))
    → sum_by (bit_at (bit_and played (played * 2 ^ 1 % 2 ^ 128))) slots
    ≡ sum_by (λ s. one_if (twice_in_a_row games s)) slots
twice_counted played games season slots small within told =
    let whole : played * 2 ^ 1 % 2 ^ 128 ≡ played * 2 = shl_whole played 78 1 128 small (omega arith) in
    ap (λ (p : ℕ). sum_by (bit_at (bit_and played p)) slots) whole
    ∙ sum_by-same_in (bit_at (bit_and played (played * 2))) (λ s. one_if (twice_in_a_row games s)) slots
    (λ k d lt. twice_set played games season (get_or slots k d) (within k d lt) told)
