-- Whether a team meets the same team in two slots.
use Rattle.std.proofs.Common.{◌≡◌, ◌≢◌, ℕ, ◌+◌, ◌<◌, ◌≤◌, Bool, true, false, ◌&&◌, ◌||◌, ◌==◌, nat_lt, if◌then◌else◌, inl, inr, ◌↔◌, refl, ap, arith, subst, sym, ◌∙◌}
use Rattle.std.proofs.lemmas.Bool.{both_ways, cases_eq, eqb-true, eq-eqb, ne_eqb}
use Rattle.std.proofs.lemmas.Bool.Decides.{nat_tests}
use Rattle.std.specs.List.{list_any, range_with_len}
use Rattle.std.specs.Prelude.{IsTrue}
use Rattle.league.specs.Counts.{Counts, slot_count}
use Rattle.league.specs.Instance.{IsGame}
use Rattle.league.specs.declared.game.Game.{Game}
use Rattle.league.proofs.RangeLemmas.{one_if}
use Rattle.moves.specs.Moves.{do_meet, follows}
use Rattle.moves.specs.Places.{IsRound, is_of}
use Rattle.moves.specs.Round.{Round, round_counts}
use Rattle.moves.proofs.PlayLemmas.{met, played}
use Rattle.moves.proofs.RoundLemmas.{IsOnly, IsWithin-of, none_else, opponent-away, opponent-home}
use Rattle.moves.proofs.WalkLemmas.{IsFound, any_of, both_true, found_in, in_range}

met_some : (x : ℕ) → nat_lt 0 x ≡ true → 1 ≤ x
met_some x is = grind (arith, nat_tests)

some_met : (x : ℕ) → 1 ≤ x → nat_lt 0 x ≡ true
some_met x is = grind (arith, nat_tests)

none_met : (x : ℕ) → x ≡ 0 → nat_lt 0 x ≡ false
none_met x is = grind (arith, nat_tests)

pub same_opponent : (n : ℕ) (m : Counts) (i s t x y : ℕ) → x < n → ((j : ℕ) → do_meet m i j s ≡ (j == x)) → ((j : ℕ) → do_meet m i j t ≡ (j == y)) → IsTrue (x == y) ↔ ((b : ℕ) → b < n → do_meet m i b s ≡ do_meet m i b t)
same_opponent n m i s t x y lt in_s in_t = (
  λ same b lt_b. in_s b ∙ ap (λ (x : ℕ). b == x) (eqb-true x y same) ∙ sym (in_t b),
  λ same. sym (in_t x) ∙ sym (same x lt) ∙ in_s x ∙ eq-eqb x x (omega arith),
)

-- whom a team meets meets that team
pub meets_back : (r : Round) (i k s : ℕ) → IsRound r → i < r.n → k < r.n → s < slot_count r.n → ((j : ℕ) → do_meet (round_counts r) i j s ≡ (j == k)) → (j : ℕ) → do_meet (round_counts r) k j s ≡ (j == i)
meets_back r i k s round lt_i lt_k lt_s meets j =
    let m : Counts = round_counts r in
    let some : 1 ≤ m i k s + m k i s = met_some (m i k s + m k i s) (meets k ∙ eq-eqb k k refl) in
    elim (cases_eq j i) as (λ _. do_meet m k j s ≡ (j == i)) [
      | inl same ↦
          let P : ℕ → Type 0 = λ j. do_meet m k j s ≡ (j == i) in
          subst P (sym same) (some_met (m k i s + m i k s) (omega arith) ∙ sym (eq-eqb i i refl))
      | inr other ↦
          let none : met m k j s ≡ 0 = none_else r.n r.phased m k i s j (played r.n r.phased m round.round_robin) (IsWithin-of r round.table) lt_k lt_i lt_s (omega arith) other in
          none_met (m k j s + m j k s) none ∙ sym (ne_eqb j i other)
    ]

-- the counts of a team's games in a slot, by its game
home_first : (h w t i s k x : ℕ) → h ≡ i → (((h == i) || (w == i)) && (t == s)) ≡ true → (if (i == i) || (k == i) then x else 0) ≡ (if (h == i) && (w == k) && (t == s) then 1 else 0) → x ≡ one_if (k == w)
home_first h w t i s k x e of only = grind (arith, nat_tests)

home_second : (h w t i s k x : ℕ) → h ≢ w → h ≡ i → (if (k == i) || (i == i) then x else 0) ≡ (if (h == k) && (w == i) && (t == s) then 1 else 0) → x ≡ 0
home_second h w t i s k x ne e only = grind (arith, nat_tests)

away_first : (h w t i s k x : ℕ) → h ≢ i → (if (i == i) || (k == i) then x else 0) ≡ (if (h == i) && (w == k) && (t == s) then 1 else 0) → x ≡ 0
away_first h w t i s k x e only = grind (arith, nat_tests)

away_second : (h w t i s k x : ℕ) → h ≢ i → (((h == i) || (w == i)) && (t == s)) ≡ true → (if (k == i) || (i == i) then x else 0) ≡ (if (h == k) && (w == i) && (t == s) then 1 else 0) → x ≡ one_if (k == h)
away_second h w t i s k x e of only = grind (arith, nat_tests)

-- a test that fails elsewhere
only_one : (p : ℕ → Bool) (n w : ℕ) → w < n → ((k : ℕ) → k ≢ w → p k ≡ false) → list_any p (range_with_len 0 n) ≡ p w
only_one p n w lt none =
    both_true (list_any p (range_with_len 0 n)) (p w)
    (λ any.
    let f : IsFound p (range_with_len 0 n) = found_in p (range_with_len 0 n) any in
    elim (cases_eq f.at w) as (λ _. p w ≡ true) [
      | inl same ↦ ap p (sym same) ∙ f.passes
      | inr other ↦ absurd (both_ways (p f.at) (none f.at other) f.passes)
    ])
    (λ passes. any_of p w (range_with_len 0 n) (in_range n w lt) passes)

test_home : (x y z w : ℕ) (b c : Bool) → x ≡ one_if b → z ≡ 0 → y ≡ one_if c → ((nat_lt 0 x && nat_lt 0 y) || (nat_lt 0 z && nat_lt 0 w)) ≡ (b && c)
test_home x y z w b c p q r = grind (arith, nat_tests)

test_home_fails : (x y z w : ℕ) → x ≡ 0 → z ≡ 0 → ((nat_lt 0 x && nat_lt 0 y) || (nat_lt 0 z && nat_lt 0 w)) ≡ false
test_home_fails x y z w p q = grind (arith, nat_tests)

test_away : (x y z w : ℕ) (b c : Bool) → z ≡ one_if b → x ≡ 0 → w ≡ one_if c → ((nat_lt 0 x && nat_lt 0 y) || (nat_lt 0 z && nat_lt 0 w)) ≡ (b && c)
test_away x y z w b c p q r = grind (arith, nat_tests)

one_else : (k w x : ℕ) → k ≢ w → x ≡ one_if (k == w) → x ≡ 0
one_else k w x ne e = grind (arith, nat_tests)

same_and : (w : ℕ) (c : Bool) → ((w == w) && c) ≡ c
same_and w c = grind (arith, nat_tests)

-- the slot that follows, where the game is at home
pub follows-home : (n : ℕ) (m : Counts) (i j s at : ℕ) (g : Game) → IsGame n g → is_of i s g ≡ true → IsOnly m i s g → g.home.0 ≡ i → ((q : ℕ) → m j g.away.0 q ≡ (if q == at then 1 else 0)) → (q : ℕ) → follows n m i j s q ≡ (q == at)
follows-home n m i j s at g fits of only here slots q =
    let w : ℕ = g.away.0 in
    let x : (k : ℕ) → m i k s ≡ one_if (k == w) = λ k. home_first g.home.0 w g.slot.0 i s k (m i k s) here of (only i k) in
    let z : (k : ℕ) → m k i s ≡ 0 = λ k. home_second g.home.0 w g.slot.0 i s k (m k i s) fits.differ here (only k i) in
    only_one (λ k. (nat_lt 0 (m i k s) && nat_lt 0 (m j k q)) || (nat_lt 0 (m k i s) && nat_lt 0 (m k j q))) n w fits.away
    (λ k ne. test_home_fails (m i k s) (m j k q) (m k i s) (m k j q) (one_else k w (m i k s) ne (x k)) (z k))
    ∙ test_home (m i w s) (m j w q) (m w i s) (m w j q) (w == w) (q == at) (x w) (z w) (slots q)
    ∙ same_and w (q == at)

-- the slot that follows, where the game is away
pub follows-away : (n : ℕ) (m : Counts) (i j s at : ℕ) (g : Game) → IsGame n g → is_of i s g ≡ true → IsOnly m i s g → g.home.0 ≢ i → ((q : ℕ) → m g.home.0 j q ≡ (if q == at then 1 else 0)) → (q : ℕ) → follows n m i j s q ≡ (q == at)
follows-away n m i j s at g fits of only here slots q =
    let h : ℕ = g.home.0 in
    let x : (k : ℕ) → m i k s ≡ 0 = λ k. away_first h g.away.0 g.slot.0 i s k (m i k s) here (only i k) in
    let z : (k : ℕ) → m k i s ≡ one_if (k == h) = λ k. away_second h g.away.0 g.slot.0 i s k (m k i s) here of (only k i) in
    only_one (λ k. (nat_lt 0 (m i k s) && nat_lt 0 (m j k q)) || (nat_lt 0 (m k i s) && nat_lt 0 (m k j q))) n h fits.home
    (λ k ne. test_home_fails (m i k s) (m j k q) (m k i s) (m k j q) (x k) (one_else k h (m k i s) ne (z k)))
    ∙ test_away (m i h s) (m j h q) (m h i s) (m h j q) (h == h) (q == at) (z h) (x h) (slots q)
    ∙ same_and h (q == at)

differs : (j w : ℕ) (b : Bool) → b ≡ (j == w) → b ≡ false → j ≢ w
differs j w b is none = λ e. both_ways b none (is ∙ eq-eqb j w e)

-- who doesn't meet a team isn't its opponent
pub not_opponent-away : (n : ℕ) (m : Counts) (i j s : ℕ) (g : Game) → IsGame n g → is_of i s g ≡ true → IsOnly m i s g → g.home.0 ≡ i → do_meet m i j s ≡ false → j ≢ g.away.0
not_opponent-away n m i j s g fits of only here apart = differs j g.away.0 (do_meet m i j s) (opponent-away n m i s g fits of only here j) apart

pub not_opponent-home : (n : ℕ) (m : Counts) (i j s : ℕ) (g : Game) → IsGame n g → is_of i s g ≡ true → IsOnly m i s g → g.home.0 ≢ i → do_meet m i j s ≡ false → j ≢ g.home.0
not_opponent-home n m i j s g fits of only here apart = differs j g.home.0 (do_meet m i j s) (opponent-home n m i s g fits of only here j) apart

-- a team that has a game with another in a slot meets no third one there
pub apart-by : (r : Round) (i j k s : ℕ) → IsRound r → i < r.n → j < r.n → k < r.n → s < slot_count r.n → i ≢ k → 1 ≤ met (round_counts r) j k s → do_meet (round_counts r) i j s ≡ false
apart-by r i j k s round lt_i lt_j lt_k lt_s ne some =
    let m : Counts = round_counts r in
    let none : met m j i s ≡ 0 = none_else r.n r.phased m j k s i (played r.n r.phased m round.round_robin) (IsWithin-of r round.table) lt_j lt_k lt_s some ne in
    none_met (m i j s + m j i s) (omega arith)

pub played_at : (at x : ℕ) → x ≡ (if at == at then 1 else 0) → x ≡ 1
played_at at x e = grind (arith, nat_tests)
