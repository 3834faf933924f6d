-- When exchanging two slots of a closed set of teams leads to a round robin: exactly where there are no phases, or the
-- slots are of one half, or each of the teams has the same opponent in both.
use Rattle.std.proofs.Common.{◌≡◌, ◌≢◌, ℕ, ◌+◌, ◌-◌, ◌<◌, ◌≤◌, Bool, true, false, ◌||◌, nat_lt, if◌then◌else◌, ◌⊎◌, inl, inr, refl, arith, ap, subst, sym, ◌∙◌}
use Rattle.std.proofs.lemmas.Bool.{cases_eq, cases_Bool}
use Rattle.std.proofs.lemmas.Bool.Decides.{nat_tests}
use Rattle.league.specs.Counts.{Counts, slot_count}
use Rattle.moves.specs.Moves.{do_meet, exchange}
use Rattle.moves.specs.Parts.{AreExchangeable, HaveSamePairs, IsClosedTeams, is_early, slots_exchanged}
use Rattle.moves.proofs.PlayLemmas.{IsPlayed, met, met-le-one}
use Rattle.moves.proofs.SumLemmas.{between, exchange-below, exchange-same, total, total-exchanged, total-exchanged_all, total-same}

-- teams that don't meet in either slot
no_meeting : (x y z w : ℕ) → (nat_lt 0 (x + y) || nat_lt 0 (z + w)) ≡ false → (x ≡ 0) × (y ≡ 0) × (z ≡ 0) × (w ≡ 0)
no_meeting x y z w none = (grind (arith, nat_tests), grind (arith, nat_tests), grind (arith, nat_tests), grind (arith, nat_tests))

not_linked : (b : Bool) (x : Bool) → (x ≡ true → b ≡ true) → b ≡ false → x ≡ false
not_linked b x leads is = grind arith

-- of two teams whose games are exchanged, both are in the set or none
pub either_team : (n : ℕ) (m : Counts) (set : ℕ → Bool) (s t a b r : ℕ) → IsClosedTeams n m s t set → a < n → b < n → slots_exchanged set s t m a b r ≡ (if set b then m a b (exchange s t r) else m a b r)
either_team n m set s t a b r closed first second =
    elim (cases_Bool (set a)) as (λ _. slots_exchanged set s t m a b r ≡ (if set b then m a b (exchange s t r) else m a b r)) [
      | inl in_set ↦ elim (cases_Bool (set b)) as (λ _. slots_exchanged set s t m a b r ≡ (if set b then m a b (exchange s t r) else m a b r)) [
        | inl too ↦ rw in_set (rw too refl)
        | inr not_b ↦
            let none = no_meeting (m a b s) (m b a s) (m a b t) (m b a t) (not_linked (set b) (do_meet m a b s || do_meet m a b t) (closed a b second in_set) not_b) in
            rw in_set (rw not_b (exchange-same (m a b) s t r (none.0 ∙ sym none.2)))
      ]
      | inr not_a ↦ elim (cases_Bool (set b)) as (λ _. slots_exchanged set s t m a b r ≡ (if set b then m a b (exchange s t r) else m a b r)) [
        | inl in_set ↦
            let none = no_meeting (m b a s) (m a b s) (m b a t) (m a b t) (not_linked (set a) (do_meet m b a s || do_meet m b a t) (closed b a first in_set) not_a) in
            rw not_a (rw in_set (sym (exchange-same (m a b) s t r (none.1 ∙ sym none.3))))
        | inr not_b ↦ rw not_a (rw not_b refl)
      ]
    ]

added : (b : Bool) (x y z w : ℕ) → (if b then x else y) + (if b then z else w) ≡ (if b then x + z else y + w)
added true x y z w = refl
added false x y z w = refl

-- the games of two teams, with one test for both
pub met-exchanged : (n : ℕ) (m : Counts) (set : ℕ → Bool) (s t a b r : ℕ) → IsClosedTeams n m s t set → a < n → b < n → met (slots_exchanged set s t m) a b r ≡ (if set a then met m a b (exchange s t r) else met m a b r)
met-exchanged n m set s t a b r closed first second =
    ap (λ (x : ℕ). slots_exchanged set s t m a b r + x) (either_team n m set s t b a r closed second first) ∙ added (set a) (m a b (exchange s t r)) (m a b r) (m b a (exchange s t r)) (m b a r)

-- a sum of terms under one test
pub under_test : (b : Bool) (f g : ℕ → ℕ) (k : ℕ) → total (λ r. if b then f r else g r) k ≡ (if b then total f k else total g k)
under_test true f g k = refl
under_test false f g k = refl

pub one_of : (b : Bool) (x y : ℕ) → x ≡ 1 → y ≡ 1 → (if b then x else y) ≡ 1
one_of true x y p q = p
one_of false x y p q = q

-- the games of two teams in the first half, where the slots are exchanged
half_exchanged : (n : ℕ) (m : Counts) (set : ℕ → Bool) (s t a b : ℕ) → IsClosedTeams n m s t set → a < n → b < n → total (λ r. met (slots_exchanged set s t m) a b r) (n - 1) ≡ (if set a then total (λ r. met m a b (exchange s t r)) (n - 1) else total (λ r. met m a b r) (n - 1))
half_exchanged n m set s t a b closed first second =
    total-same (λ r. met (slots_exchanged set s t m) a b r) (λ r. if set a then met m a b (exchange s t r) else met m a b r) (n - 1) (λ r lt. met-exchanged n m set s t a b r closed first second)
    ∙ under_test (set a) (λ r. met m a b (exchange s t r)) (λ r. met m a b r) (n - 1)

-- the sum stays where the slots are of one half, or have the same value
stays : (s t k fs ft x y : ℕ) → s < t → (nat_lt s k ≡ nat_lt t k) ⊎ (fs ≡ ft) → x + between s t k fs ≡ y + between s t k ft → x ≡ y
stays s t k fs ft x y lt (inl same) h = grind (arith, nat_tests)
stays s t k fs ft x y lt (inr same) h = grind (arith, nat_tests)

-- the sum stays only where the slots are of one half, or have the same value
crossed : (s t k fs ft x y : ℕ) → s < k → k ≤ t → x + between s t k fs ≡ y + between s t k ft → x ≡ y → fs ≡ ft
crossed s t k fs ft x y a b h e = grind (arith, nat_tests)

same_number : (x y : ℕ) → x ≤ 1 → y ≤ 1 → nat_lt 0 x ≡ nat_lt 0 y → x ≡ y
same_number x y a b e = grind (arith, nat_tests)

-- what the criterion says of two teams in the set
same_half_or_value : (n : ℕ) (phased : Bool) (m : Counts) (set : ℕ → Bool) (s t a b : ℕ) → IsPlayed n phased m
    → s < slot_count n → t < slot_count n → a < n → b < n → set a ≡ true
    → (is_early n s ≡ is_early n t) ⊎ HaveSamePairs n m s t set
    → (nat_lt s (n - 1) ≡ nat_lt t (n - 1)) ⊎ (met m a b s ≡ met m a b t)
same_half_or_value n phased m set s t a b is ss tt_ first second in_set (inl same) = inl same
same_half_or_value n phased m set s t a b is ss tt_ first second in_set (inr pairs) =
    inr (same_number (met m a b s) (met m a b t) (met-le-one n phased m a b s is first second ss) (met-le-one n phased m a b t is first second tt_) (pairs a b first second in_set))

pub IsPlayed-slots_exchanged : (n : ℕ) (phased : Bool) (m : Counts) (set : ℕ → Bool) (s t : ℕ) → IsPlayed n phased m → s < t → t < slot_count n → IsClosedTeams n m s t set → AreExchangeable n phased m s t set → IsPlayed n phased (slots_exchanged set s t m)
IsPlayed-slots_exchanged n phased m set s t is lt last closed may = record {
  meetings = λ a b first second ne.
      under_test (set a) (λ r. m a b (exchange s t r)) (λ r. m a b r) (slot_count n)
      ∙ one_of (set a) (total (λ r. m a b (exchange s t r)) (slot_count n)) (total (λ r. m a b r) (slot_count n))
      (total-exchanged_all (m a b) s t (slot_count n) lt last ∙ is.meetings a b first second ne)
      (is.meetings a b first second ne);
  cells = λ a r first within.
      total-same (λ b. met (slots_exchanged set s t m) a b r) (λ b. if set a then met m a b (exchange s t r) else met m a b r) n (λ b second. met-exchanged n m set s t a b r closed first second)
      ∙ under_test (set a) (λ b. met m a b (exchange s t r)) (λ b. met m a b r) n
      ∙ one_of (set a) (total (λ b. met m a b (exchange s t r)) n) (total (λ b. met m a b r) n)
      (is.cells a (exchange s t r) first (exchange-below s t (slot_count n) r (omega arith) last within))
      (is.cells a r first within);
  halves = λ phases a b first second ne.
      let before : total (λ r. met m a b r) (n - 1) ≡ 1 = is.halves phases a b first second ne in
      half_exchanged n m set s t a b closed first second
      ∙ elim (cases_Bool (set a)) as (λ _. (if set a then total (λ r. met m a b (exchange s t r)) (n - 1) else total (λ r. met m a b r) (n - 1)) ≡ 1) [
        | inl in_set ↦ rw in_set (
            stays s t (n - 1) (met m a b s) (met m a b t) (total (λ r. met m a b (exchange s t r)) (n - 1)) (total (λ r. met m a b r) (n - 1)) lt
            (same_half_or_value n phased m set s t a b is (omega arith) last first second in_set (may phases))
            (total-exchanged (λ r. met m a b r) s t (n - 1) lt)
            ∙ before
            )
        | inr out_a ↦ rw out_a before
      ];
}

is_crossed : (n s t : ℕ) → s < t → nat_lt s (n - 1) ≢ nat_lt t (n - 1) → (s < n - 1) × (n - 1 ≤ t)
is_crossed n s t lt ne = (grind (arith, nat_tests), grind (arith, nat_tests))

cases_same : (a b : Bool) → (a ≡ b) ⊎ (a ≢ b)
cases_same true true = inl refl
cases_same true false = inr (λ e. cc)
cases_same false true = inr (λ e. cc)
cases_same false false = inl refl

both_zero : (x y : ℕ) → x + x ≤ 1 → y + y ≤ 1 → nat_lt 0 (x + x) ≡ nat_lt 0 (y + y)
both_zero x y a b = grind (arith, nat_tests)

pub AreExchangeable-of : (n : ℕ) (phased : Bool) (m : Counts) (set : ℕ → Bool) (s t : ℕ) → IsPlayed n phased m → s < t → t < slot_count n → IsClosedTeams n m s t set → IsPlayed n phased (slots_exchanged set s t m) → AreExchangeable n phased m s t set
AreExchangeable-of n phased m set s t is lt last closed after phases =
    elim (cases_same (is_early n s) (is_early n t)) as (λ _. (is_early n s ≡ is_early n t) ⊎ HaveSamePairs n m s t set) [
      | inl same ↦ inl same
      | inr ne ↦
          let across : (s < n - 1) × (n - 1 ≤ t) = is_crossed n s t lt ne in
          inr (λ a b first second in_set.
          elim (cases_eq a b) as (λ _. do_meet m a b s ≡ do_meet m a b t) [
            | inl same ↦
                let itself : do_meet m a a s ≡ do_meet m a a t =
                both_zero (m a a s) (m a a t) (met-le-one n phased m a a s is first first (omega arith)) (met-le-one n phased m a a t is first first last) in
                let P : ℕ → Type 0 = λ c. do_meet m a c s ≡ do_meet m a c t in
                subst P same itself
            | inr other ↦
                let whole = half_exchanged n m set s t a b closed first second in
                let when_in : (if set a then total (λ r. met m a b (exchange s t r)) (n - 1) else total (λ r. met m a b r) (n - 1)) ≡ total (λ r. met m a b (exchange s t r)) (n - 1) = rw in_set refl in
                let one : total (λ r. met m a b (exchange s t r)) (n - 1) ≡ 1 = sym when_in ∙ sym whole ∙ after.halves phases a b first second other in
                ap (λ (x : ℕ). nat_lt 0 x)
                (crossed s t (n - 1) (met m a b s) (met m a b t) (total (λ r. met m a b (exchange s t r)) (n - 1)) (total (λ r. met m a b r) (n - 1)) across.0 across.1
                (total-exchanged (λ r. met m a b r) s t (n - 1) lt)
                (one ∙ sym (is.halves phases a b first second other)))
          ])
    ]
