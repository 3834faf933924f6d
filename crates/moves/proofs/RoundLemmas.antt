-- What a board's tables say of the counts.
use Rattle.std.proofs.Common.{◌≡◌, ◌≢◌, ℕ, ◌+◌, ◌<◌, ◌≤◌, Bool, true, ◌&&◌, ◌||◌, ◌==◌, nat_lt, if◌then◌else◌, List, ◌⊎◌, inl, inr, refl, arith, ap, sym, ◌∙◌}
use Rattle.std.proofs.lemmas.Bool.{cases_eq, cases_lt}
use Rattle.std.proofs.lemmas.Bool.Decides.{nat_tests}
use Rattle.league.specs.Counts.{Counts, is_game, slot_count}
use Rattle.league.specs.Instance.{IsGame}
use Rattle.league.specs.declared.game.Game.{Game}
use Rattle.league.proofs.RangeLemmas.{one_if}
use Rattle.moves.specs.Moves.{do_meet}
use Rattle.moves.specs.Places.{IsGameOf, IsRound, IsSlotTable, IsTable, is_of, slot_entry}
use Rattle.moves.specs.Round.{Round, entry, round_counts}
use Rattle.moves.proofs.PlayLemmas.{IsPlayed, busy, met, met-le-one, played, slot}
use Rattle.moves.proofs.SumLemmas.{OneIsOne}

-- counts with nothing outside of the league
pub record IsWithin (n : ℕ) (m : Counts) : Type 0 where
  pub home : (a b s : ℕ) → n ≤ a → m a b s ≡ 0
  pub away : (a b s : ℕ) → n ≤ b → m a b s ≡ 0
  pub slot : (a b s : ℕ) → slot_count n ≤ s → m a b s ≡ 0

past_home : (n a : ℕ) (x y : Bool) → n ≤ a → one_if (nat_lt a n && x && y) ≡ 0
past_home n a x y le = grind (arith, nat_tests)

past_slot : (n s : ℕ) (x y : Bool) → n ≤ s → one_if (x && nat_lt s n && y) ≡ 0
past_slot n s x y le = grind (arith, nat_tests)

past_away : (n b away : ℕ) (x y z w : Bool) → (x ≡ true → y ≡ true → away < n) → n ≤ b → one_if (x && y && (z && (away == b) && w)) ≡ 0
past_away n b away x y z w lt le = grind (arith, nat_tests)

below-true : (a n : ℕ) → nat_lt a n ≡ true → a < n
below-true a n is = grind (arith, nat_tests)

pub IsWithin-of : (r : Round) → IsTable r.n (round_counts r) r.games → IsWithin r.n (round_counts r)
IsWithin-of r table = record {
  home = λ a b s le. past_home r.n a (nat_lt s (slot_count r.n)) (is_game a b s (entry r.games a s)) le;
  away = λ a b s le.
      let g : Game = entry r.games a s in
      past_away r.n b g.away.0 (nat_lt a r.n) (nat_lt s (slot_count r.n)) (g.home.0 == a) (g.slot.0 == s)
      (λ first within. (table.at a s (below-true a r.n first) (below-true s (slot_count r.n) within)).fits.away) le;
  slot = λ a b s le. past_slot (slot_count r.n) s (nat_lt a r.n) (is_game a b s (entry r.games a s)) le;
}

-- a game of team i in slot s that is played is i's game there, and no other is
one_home : (i k s a b h w t x : ℕ) → h ≡ i → w ≡ k → t ≡ s → i ≢ k → (a ≡ i → b ≡ k → x ≡ 1) → (a ≡ i → b ≢ k → x ≡ 0) → (b ≡ i → x ≡ 0) → (if (a == i) || (b == i) then x else 0) ≡ (if (h == a) && (w == b) && (t == s) then 1 else 0)
one_home i k s a b h w t x p q r ne here other back = grind (arith, nat_tests)

one_away : (i k s a b h w t x : ℕ) → h ≡ k → w ≡ i → t ≡ s → i ≢ k → (a ≡ k → b ≡ i → x ≡ 1) → (b ≡ i → a ≢ k → x ≡ 0) → (a ≡ i → x ≡ 0) → (if (a == i) || (b == i) then x else 0) ≡ (if (h == a) && (w == b) && (t == s) then 1 else 0)
one_away i k s a b h w t x p q r ne here other back = grind (arith, nat_tests)

second_venue : (h w t i s : ℕ) → h ≢ i → (((h == i) || (w == i)) && (t == s)) ≡ true → w ≡ i
second_venue h w t i s other is = grind (arith, nat_tests)

venue : (h w t i s : ℕ) → (((h == i) || (w == i)) && (t == s)) ≡ true → (h ≡ i) ⊎ (w ≡ i)
venue h w t i s is = elim (cases_eq h i) as (λ _. (h ≡ i) ⊎ (w ≡ i)) [ inl same ↦ inl same | inr other ↦ inr (second_venue h w t i s other is) ]

of_slot : (h w t i s : ℕ) → (((h == i) || (w == i)) && (t == s)) ≡ true → t ≡ s
of_slot h w t i s is = grind (arith, nat_tests)

-- who meets one team meets no other number
pub none_else : (n : ℕ) (phased : Bool) (m : Counts) (i k s b : ℕ) → IsPlayed n phased m → IsWithin n m → i < n → k < n → s < slot_count n → 1 ≤ met m i k s → b ≢ k → met m i b s ≡ 0
none_else n phased m i k s b is within lt_i lt_k lt_s some ne =
    elim (cases_lt b n) as (λ _. met m i b s ≡ 0) [
      | inl lt_b ↦ busy n phased m i k b s is lt_i lt_k lt_b lt_s (λ h. ne (sym h)) some
      | inr le ↦ omega (arith, within.away i b s le, within.home b i s le)
    ]

first_of_two : (x y : ℕ) → 1 ≤ x → x + y ≤ 1 → (x ≡ 1) × (y ≡ 0)
first_of_two x y a b = (omega arith, omega arith)

second_of_none : (x y : ℕ) → x + y ≡ 0 → (x ≡ 0) × (y ≡ 0)
second_of_none x y a = (omega arith, omega arith)

same_counts : (m : Counts) (a b s c d t : ℕ) → a ≡ c → b ≡ d → s ≡ t → m a b s ≡ m c d t
same_counts m a b s c d t p q r = ap (λ (a : ℕ). m a b s) p ∙ ap (λ (b : ℕ). m c b s) q ∙ ap (m c d) r

-- a game of team i in slot s that is played is i's only one there
pub only_game : (n : ℕ) (phased : Bool) (m : Counts) (i s : ℕ) (g : Game) → IsPlayed n phased m → IsWithin n m → i < n → s < slot_count n → IsGameOf n m i s g → (a b : ℕ) → (if (a == i) || (b == i) then m a b s else 0) ≡ (if is_game a b s g then 1 else 0)
only_game n phased m i s g is within lt_i lt_s here a b =
    let t_is : g.slot.0 ≡ s = of_slot g.home.0 g.away.0 g.slot.0 i s here.of in
    elim (venue g.home.0 g.away.0 g.slot.0 i s here.of) as (λ _. (if (a == i) || (b == i) then m a b s else 0) ≡ (if is_game a b s g then 1 else 0)) [
      | inl at_home ↦
          let k : ℕ = g.away.0 in
          let lt_k : k < n = here.fits.away in
          let some : 1 ≤ m i k s = omega (arith, here.there, same_counts m g.home.0 k g.slot.0 i k s at_home refl t_is) in
          let both : (m i k s ≡ 1) × (m k i s ≡ 0) = first_of_two (m i k s) (m k i s) some (met-le-one n phased m i k s is lt_i lt_k lt_s) in
          let no_other : (c : ℕ) → c ≢ k → (m i c s ≡ 0) × (m c i s ≡ 0) = λ c ne. second_of_none (m i c s) (m c i s) (none_else n phased m i k s c is within lt_i lt_k lt_s (omega arith) ne) in
          one_home i k s a b g.home.0 k g.slot.0 (m a b s) at_home refl t_is (λ h. here.fits.differ (at_home ∙ h))
          (λ p q. same_counts m a b s i k s p q refl ∙ both.0)
          (λ p ne. same_counts m a b s i b s p refl refl ∙ (no_other b ne).0)
          (λ q. same_counts m a b s a i s refl q refl ∙ elim (cases_eq a k) as (λ _. m a i s ≡ 0) [
            | inl a_k ↦ same_counts m a i s k i s a_k refl refl ∙ both.1
            | inr ne ↦ (no_other a ne).1
          ])
      | inr away ↦
          let k : ℕ = g.home.0 in
          let lt_k : k < n = here.fits.home in
          let some : 1 ≤ m k i s = omega (arith, here.there, same_counts m k g.away.0 g.slot.0 k i s refl away t_is) in
          let most : m k i s + m i k s ≤ 1 = met-le-one n phased m k i s is lt_k lt_i lt_s in
          let both : (m k i s ≡ 1) × (m i k s ≡ 0) = first_of_two (m k i s) (m i k s) some most in
          let no_other : (c : ℕ) → c ≢ k → (m i c s ≡ 0) × (m c i s ≡ 0) = λ c ne. second_of_none (m i c s) (m c i s) (none_else n phased m i k s c is within lt_i lt_k lt_s (omega arith) ne) in
          one_away i k s a b k g.away.0 g.slot.0 (m a b s) refl away t_is (λ h. here.fits.differ (sym h ∙ sym away))
          (λ p q. same_counts m a b s k i s p q refl ∙ both.0)
          (λ q ne. same_counts m a b s a i s refl q refl ∙ (no_other a ne).1)
          (λ p. same_counts m a b s i b s p refl refl ∙ elim (cases_eq b k) as (λ _. m i b s ≡ 0) [
            | inl b_k ↦ same_counts m i b s i k s refl b_k refl ∙ both.1
            | inr ne ↦ (no_other b ne).0
          ])
    ]

-- a team's game in a slot of a board is its only one there
pub only_game-at : (r : Round) (i s : ℕ) → IsRound r → i < r.n → s < slot_count r.n → (a b : ℕ) → (if (a == i) || (b == i) then round_counts r a b s else 0) ≡ (if is_game a b s (entry r.games i s) then 1 else 0)
only_game-at r i s round lt_i lt_s a b =
    only_game r.n r.phased (round_counts r) i s (entry r.games i s) (played r.n r.phased (round_counts r) round.round_robin) (IsWithin-of r round.table) lt_i lt_s (round.table.at i s lt_i lt_s) a b

-- the only slot of a meeting
one_slot : (s at x : ℕ) → (s ≡ at → x ≡ 1) → (s ≢ at → x ≡ 0) → x ≡ (if s == at then 1 else 0)
one_slot s at x here other = grind (arith, nat_tests)

pub only_slot : (n : ℕ) (phased : Bool) (m : Counts) (i j at : ℕ) → IsPlayed n phased m → IsWithin n m → i < n → j < n → i ≢ j → at < slot_count n → 1 ≤ m i j at → (s : ℕ) → m i j s ≡ (if s == at then 1 else 0)
only_slot n phased m i j at is within lt_i lt_j ne lt_s some s =
    let one : OneIsOne (λ s. m i j s) (slot_count n) = slot n phased m i j is lt_i lt_j ne in
    let here : at ≡ one.at = elim (cases_eq at one.at) as (λ _. at ≡ one.at) [
      | inl same ↦ same
      | inr other ↦ let none : m i j at ≡ 0 = one.others at lt_s other in absurd (omega arith)
    ] in
    one_slot s at (m i j s)
    (λ h. same_counts m i j s i j one.at refl refl (h ∙ here) ∙ one.one)
    (λ h. elim (cases_lt s (slot_count n)) as (λ _. m i j s ≡ 0) [
      | inl lt ↦ one.others s lt (λ e. h (e ∙ sym here))
      | inr le ↦ within.slot i j s le
    ])

pub only_slot-at : (r : Round) (slots : List ℕ) (i j : ℕ) → IsRound r → IsSlotTable r.n (round_counts r) slots → i < r.n → j < r.n → i ≢ j → (s : ℕ) → round_counts r i j s ≡ (if s == slot_entry slots i j then 1 else 0)
only_slot-at r slots i j round table lt_i lt_j ne s =
    only_slot r.n r.phased (round_counts r) i j (slot_entry slots i j) (played r.n r.phased (round_counts r) round.round_robin) (IsWithin-of r round.table) lt_i lt_j ne (table.below i j lt_i lt_j ne) (table.there i j lt_i lt_j ne) s

-- whom a team meets, by its game
meets-home : (h w t i s j x y : ℕ) → h ≢ w → h ≡ i → (((h == i) || (w == i)) && (t == s)) ≡ true
    → (if (i == i) || (j == i) then x else 0) ≡ (if (h == i) && (w == j) && (t == s) then 1 else 0)
    → (if (j == i) || (i == i) then y else 0) ≡ (if (h == j) && (w == i) && (t == s) then 1 else 0)
    → nat_lt 0 (x + y) ≡ (j == w)
meets-home h w t i s j x y ne is_h of first second = grind (arith, nat_tests)

meets-away : (h w t i s j x y : ℕ) → h ≢ w → h ≢ i → (((h == i) || (w == i)) && (t == s)) ≡ true
    → (if (i == i) || (j == i) then x else 0) ≡ (if (h == i) && (w == j) && (t == s) then 1 else 0)
    → (if (j == i) || (i == i) then y else 0) ≡ (if (h == j) && (w == i) && (t == s) then 1 else 0)
    → nat_lt 0 (x + y) ≡ (j == h)
meets-away h w t i s j x y ne is_h of first second = grind (arith, nat_tests)

-- what the game of a team in a slot says of the counts
abbrev pub IsOnly : Counts → ℕ → ℕ → Game → Type 0
IsOnly m i s g = (a b : ℕ) → (if (a == i) || (b == i) then m a b s else 0) ≡ (if is_game a b s g then 1 else 0)

pub opponent-away : (n : ℕ) (m : Counts) (i s : ℕ) (g : Game) → IsGame n g → is_of i s g ≡ true → IsOnly m i s g → g.home.0 ≡ i → (j : ℕ) → do_meet m i j s ≡ (j == g.away.0)
opponent-away n m i s g fits of only here j = meets-home g.home.0 g.away.0 g.slot.0 i s j (m i j s) (m j i s) fits.differ here of (only i j) (only j i)

pub opponent-home : (n : ℕ) (m : Counts) (i s : ℕ) (g : Game) → IsGame n g → is_of i s g ≡ true → IsOnly m i s g → g.home.0 ≢ i → (j : ℕ) → do_meet m i j s ≡ (j == g.home.0)
opponent-home n m i s g fits of only here j = meets-away g.home.0 g.away.0 g.slot.0 i s j (m i j s) (m j i s) fits.differ here of (only i j) (only j i)

-- nothing is counted past the last team, or past the last slot
past_first : (a n : ℕ) (x y : Bool) → n ≤ a → one_if (nat_lt a n && x && y) ≡ 0
past_first a n x y le = grind (arith, nat_tests)

past_second : (s n : ℕ) (x y : Bool) → n ≤ s → one_if (x && nat_lt s n && y) ≡ 0
past_second s n x y le = grind (arith, nat_tests)

pub past_last_team : (r : Round) (a b s : ℕ) → r.n ≤ a → round_counts r a b s ≡ 0
past_last_team r a b s le = past_first a r.n (nat_lt s (slot_count r.n)) (is_game a b s (entry r.games a s)) le

pub past_last_slot : (r : Round) (a b s : ℕ) → slot_count r.n ≤ s → round_counts r a b s ≡ 0
past_last_slot r a b s le = past_second s (slot_count r.n) (nat_lt a r.n) (is_game a b s (entry r.games a s)) le
