-- The circle of m teams, m odd: whom a step reaches, and at which step two teams meet.
use Rattle.std.proofs.Common.{◌≡◌, ◌≢◌, ℕ, ◌+◌, ◌-◌, ◌/◌, ◌%◌, ◌<◌, ◌≤◌, ◌⊎◌, inl, inr, Bool, not, ◌==◌, nat_lt, if◌then◌else◌, refl, arith, ap, ◌∙◌, subst, sym}
use Rattle.std.proofs.lemmas.Bool.{cases_lt}
use Rattle.std.proofs.lemmas.Bool.Decides.{nat_tests}
use Rattle.std.proofs.Math.Nat.{mod-eq_of_lt, mod-eq-sub-mod}
use Rattle.circle_method.specs.Circle.{steps_on, steps_back}

-- a remainder below twice the divisor
mod-below_twice : (x m : ℕ) → x < m + m → ((x < m) × (x % m ≡ x)) ⊎ ((m ≤ x) × (x % m + m ≡ x))
mod-below_twice x m h =
    elim (cases_lt x m) as (λ _. ((x < m) × (x % m ≡ x)) ⊎ ((m ≤ x) × (x % m + m ≡ x))) [
      | inl low ↦ inl (low, mod-eq_of_lt low)
      | inr high ↦
          let less : x - m < m = omega arith in
          let is : x % m ≡ x - m = mod-eq-sub-mod high ∙ mod-eq_of_lt less in
          inr (high, omega arith)
    ]

-- the team that k steps on reach
pub steps_on_cases : (m s k : ℕ) → s < m → k < m → ((s + k < m) × (steps_on m s k ≡ s + k)) ⊎ ((m ≤ s + k) × (steps_on m s k + m ≡ s + k))
steps_on_cases m s k team few = mod-below_twice (s + k) m (omega arith)

-- the team that k steps back reach
pub steps_back_cases : (m s k : ℕ) → s < m → k < m → ((s < k) × (steps_back m s k + k ≡ s + m)) ⊎ ((k ≤ s) × (steps_back m s k + k ≡ s))
steps_back_cases m s k team few =
    elim (mod-below_twice (s + m - k) m (omega arith)) as (λ _. ((s < k) × (steps_back m s k + k ≡ s + m)) ⊎ ((k ≤ s) × (steps_back m s k + k ≡ s))) [
      | inl low ↦ inl (omega arith, omega arith)
      | inr high ↦ inr (omega arith, omega arith)
    ]

-- teams that k steps on and k steps back from team s reach, where k is at most half the circle
pub record AreReached (m s k on back : ℕ) : Type 0 where
  pub on_below : on < m
  pub back_below : back < m
  pub on_is : (on ≡ s + k) ⊎ (on + m ≡ s + k)
  pub back_is : (back + k ≡ s + m) ⊎ (back + k ≡ s)

pub are_reached : (m s k : ℕ) → s < m → k < m → AreReached m s k (steps_on m s k) (steps_back m s k)
are_reached m s k team few =
    let on : ℕ = steps_on m s k in
    let back : ℕ = steps_back m s k in
    elim (steps_on_cases m s k team few) as (λ _. AreReached m s k (steps_on m s k) (steps_back m s k)) [
      | inl a ↦ elim (steps_back_cases m s k team few) as (λ _. AreReached m s k (steps_on m s k) (steps_back m s k)) [
        | inl b ↦ record { on_below = omega arith; back_below = omega arith; on_is = inl a.1; back_is = inl b.1 }
        | inr b ↦ record { on_below = omega arith; back_below = omega arith; on_is = inl a.1; back_is = inr b.1 }
      ]
      | inr a ↦ elim (steps_back_cases m s k team few) as (λ _. AreReached m s k (steps_on m s k) (steps_back m s k)) [
        | inl b ↦ record { on_below = omega arith; back_below = omega arith; on_is = inr a.1; back_is = inl b.1 }
        | inr b ↦ record { on_below = omega arith; back_below = omega arith; on_is = inr a.1; back_is = inr b.1 }
      ]
    ]

-- three different teams
pub on_isnt_back : (m s k : ℕ) → s < m → 0 < k → k + k < m → steps_on m s k ≢ steps_back m s k
on_isnt_back m s k team some half same =
    let r : AreReached m s k (steps_on m s k) (steps_back m s k) = are_reached m s k team (omega arith) in
    omega arith

pub on_isnt_centre : (m s k : ℕ) → s < m → 0 < k → k < m → steps_on m s k ≢ s
on_isnt_centre m s k team some half same =
    let r : AreReached m s k (steps_on m s k) (steps_back m s k) = are_reached m s k team half in
    omega arith

pub back_isnt_centre : (m s k : ℕ) → s < m → 0 < k → k < m → steps_back m s k ≢ s
back_isnt_centre m s k team some half same =
    let r : AreReached m s k (steps_on m s k) (steps_back m s k) = are_reached m s k team half in
    omega arith

-- whether team i is at home in slot s: team m is the last one, outside the circle
abbrev pub is_at_home : ℕ → ℕ → ℕ → Bool
is_at_home m i s = if i == m then s % 2 == 0 else if i == s then s % 2 == 1 else if nat_lt s i then (i - s) % 2 == 1 else (i + m - s) % 2 == 1

pub is_at_home-last : (m s : ℕ) → is_at_home m m s ≡ (s % 2 == 0)
is_at_home-last m s = grind (arith, nat_tests)

pub is_at_home-centre : (m i : ℕ) → i < m → is_at_home m i i ≡ (i % 2 == 1)
is_at_home-centre m i team = grind (arith, nat_tests)

pub is_at_home-before : (m i s : ℕ) → i < m → s < i → is_at_home m i s ≡ ((i - s) % 2 == 1)
is_at_home-before m i s team before = grind (arith, nat_tests)

pub is_at_home-after : (m i s : ℕ) → i < m → i < s → is_at_home m i s ≡ ((i + m - s) % 2 == 1)
is_at_home-after m i s team after = grind (arith, nat_tests)

one_of_two : (a b : ℕ) → a + b ≡ 1 → (a == 1) ≡ not (b == 1)
one_of_two a b one = grind (arith, nat_tests)

-- tests of two numbers of which one is odd
pub odd-other : (a b : ℕ) → (a + b) % 2 ≡ 1 → (a % 2 == 1) ≡ not (b % 2 == 1)
odd-other a b one =
    let differ : a % 2 + b % 2 ≡ 1 = omega arith in
    one_of_two (a % 2) (b % 2) differ

-- the step k at which team i plays in slot s, and whether it is at home there
pub record IsPlace (m s i k : ℕ) (at_home : Bool) : Type 0 where
  pub some : 0 < k
  pub half : k + k < m
  pub here : ((steps_on m s k ≡ i) × (at_home ≡ (k % 2 == 1))) ⊎ ((steps_back m s k ≡ i) × (at_home ≡ not (k % 2 == 1)))
  pub alone : (x : ℕ) → 0 < x → x + x < m → x ≢ k → (steps_on m s x ≢ i) × (steps_back m s x ≢ i)

-- a team less than half the circle on
place-on : (m s i d : ℕ) → s < m → i < m → 0 < d → d + d < m → (i ≡ s + d) ⊎ (i + m ≡ s + d) → IsPlace m s i d (d % 2 == 1)
place-on m s i d slot team some half far =
    let r : AreReached m s d (steps_on m s d) (steps_back m s d) = are_reached m s d slot (omega arith) in
    let reached : steps_on m s d ≡ i = omega arith in
    record {
      some = some;
      half = half;
      here = inl (reached, refl);
      alone = λ x first last other.
          let q : AreReached m s x (steps_on m s x) (steps_back m s x) = are_reached m s x slot (omega arith) in
          ((λ e. omega arith), (λ e. omega arith));
    }

-- a team less than half the circle back
place-back : (m s i d : ℕ) → s < m → i < m → 0 < d → d + d < m → (i + d ≡ s) ⊎ (i + d ≡ s + m) → IsPlace m s i d (not (d % 2 == 1))
place-back m s i d slot team some half far =
    let r : AreReached m s d (steps_on m s d) (steps_back m s d) = are_reached m s d slot (omega arith) in
    let reached : steps_back m s d ≡ i = omega arith in
    record {
      some = some;
      half = half;
      here = inr (reached, refl);
      alone = λ x first last other.
          let q : AreReached m s x (steps_on m s x) (steps_back m s x) = are_reached m s x slot (omega arith) in
          ((λ e. omega arith), (λ e. omega arith));
    }

-- the place of a team with another name of whether it is at home
place-same : (m s i k : ℕ) (b c : Bool) → b ≡ c → IsPlace m s i k c → IsPlace m s i k b
place-same m s i k b c same place = let P : Bool → Type 0 = λ x. IsPlace m s i k x in subst P (sym same) place

other_way : (m s i d : ℕ) → d < m → (i ≡ s + d) ⊎ (i + m ≡ s + d) → (i + (m - d) ≡ s) ⊎ (i + (m - d) ≡ s + m)
other_way m s i d few (inl on) = inr (omega arith)
other_way m s i d few (inr round) = inl (omega arith)

-- a team d steps on from the slot's team, any other than that
place-far : (m s i d : ℕ) → m % 2 ≡ 1 → s < m → i < m → 0 < d → d < m → (i ≡ s + d) ⊎ (i + m ≡ s + d) → (k : ℕ) × IsPlace m s i k (d % 2 == 1)
place-far m s i d odd slot team some few far =
    elim (cases_lt (d + d) m) as (λ _. (k : ℕ) × IsPlace m s i k (d % 2 == 1)) [
      | inl near ↦ (d, place-on m s i d slot team some near far)
      | inr behind ↦
          let back_far : (i + (m - d) ≡ s) ⊎ (i + (m - d) ≡ s + m) = other_way m s i d few far in
          let one : (d + (m - d)) % 2 ≡ 1 = (let whole : d + (m - d) ≡ m = omega arith in ap (λ (x : ℕ). x % 2) whole ∙ odd) in
          (m - d, place-same m s i (m - d) (d % 2 == 1) (not ((m - d) % 2 == 1)) (odd-other d (m - d) one) (place-back m s i (m - d) slot team (omega arith) (omega arith) back_far))
    ]

-- the place of any team of the circle but the slot's own
pub place : (m s i : ℕ) → m % 2 ≡ 1 → s < m → i < m → i ≢ s → (k : ℕ) × IsPlace m s i k (is_at_home m i s)
place m s i odd slot team other =
    elim (cases_lt s i) as (λ _. (k : ℕ) × IsPlace m s i k (is_at_home m i s)) [
      | inl before ↦
          let found : (k : ℕ) × IsPlace m s i k ((i - s) % 2 == 1) = place-far m s i (i - s) odd slot team (omega arith) (omega arith) (inl (omega arith)) in
          (found.0, place-same m s i found.0 (is_at_home m i s) ((i - s) % 2 == 1) (is_at_home-before m i s team before) found.1)
      | inr not_before ↦
          let after : i < s = omega arith in
          let found : (k : ℕ) × IsPlace m s i k ((i + m - s) % 2 == 1) = place-far m s i (i + m - s) odd slot team (omega arith) (omega arith) (inr (omega arith)) in
          (found.0, place-same m s i found.0 (is_at_home m i s) ((i + m - s) % 2 == 1) (is_at_home-after m i s team after) found.1)
    ]

-- the slot s and the step k at which teams i and j of the circle meet
pub record AreMet (m i j s k : ℕ) : Type 0 where
  pub slot : s < m
  pub some : 0 < k
  pub half : k + k < m
  pub here : ((steps_on m s k ≡ i) × (steps_back m s k ≡ j)) ⊎ ((steps_on m s k ≡ j) × (steps_back m s k ≡ i))

-- the slot's team between them
between : (m i j k : ℕ) → i < j → j < m → k + k + i ≡ j → AreMet m i j (i + k) k
between m i j k earlier team twice =
    let r : AreReached m (i + k) k (steps_on m (i + k) k) (steps_back m (i + k) k) = are_reached m (i + k) k (omega arith) (omega arith) in
    record { slot = omega arith; some = omega arith; half = omega arith; here = inr (omega arith, omega arith) }

-- the slot's team on the other side
round_the_end : (m i j s k : ℕ) → i < j → j < m → k + k + j ≡ m + i → s < m → (s ≡ j + k) ⊎ (s + m ≡ j + k) → AreMet m i j s k
round_the_end m i j s k earlier team twice slot where_s =
    let r : AreReached m s k (steps_on m s k) (steps_back m s k) = are_reached m s k slot (omega arith) in
    record { slot = slot; some = omega arith; half = omega arith; here = inl (omega arith, omega arith) }

-- any two meet
pub meeting : (m i j : ℕ) → m % 2 ≡ 1 → i < j → j < m → (s : ℕ) × ((k : ℕ) × AreMet m i j s k)
meeting m i j odd earlier team =
    elim (cases_lt 0 ((j - i) % 2)) as (λ _. (s : ℕ) × ((k : ℕ) × AreMet m i j s k)) [
      | inl is_odd ↦
          let k : ℕ = (m - (j - i)) / 2 in
          let twice : k + k + j ≡ m + i = omega arith in
          elim (cases_lt (j + k) m) as (λ _. (s : ℕ) × ((k : ℕ) × AreMet m i j s k)) [
            | inl inside ↦ (j + k, (k, round_the_end m i j (j + k) k earlier team twice inside (inl refl)))
            | inr past ↦ (j + k - m, (k, round_the_end m i j (j + k - m) k earlier team twice (omega arith) (inr (omega arith))))
          ]
      | inr is_even ↦
          let k : ℕ = (j - i) / 2 in
          let twice : k + k + i ≡ j = omega arith in
          (i + k, (k, between m i j k earlier team twice))
    ]

sum_of : (on back m i j s k : ℕ) → AreReached m s k on back → ((on ≡ i) × (back ≡ j)) ⊎ ((on ≡ j) × (back ≡ i)) → (i + j ≡ s + s) ⊎ ((i + j ≡ s + s + m) ⊎ (i + j + m ≡ s + s))
sum_of on back m i j s k r here =
    let sum : i + j ≡ on + back = omega arith in
    elim r.on_is as (λ _. (i + j ≡ s + s) ⊎ ((i + j ≡ s + s + m) ⊎ (i + j + m ≡ s + s))) [
      | inl a ↦ elim r.back_is as (λ _. (i + j ≡ s + s) ⊎ ((i + j ≡ s + s + m) ⊎ (i + j + m ≡ s + s))) [
        | inl b ↦ inr (inl (omega arith))
        | inr b ↦ inl (omega arith)
      ]
      | inr a ↦ elim r.back_is as (λ _. (i + j ≡ s + s) ⊎ ((i + j ≡ s + s + m) ⊎ (i + j + m ≡ s + s))) [
        | inl b ↦ inl (omega arith)
        | inr b ↦ inr (inr (omega arith))
      ]
    ]

-- the sum of two teams that meet tells the slot
AreMet-sum : (m i j s k : ℕ) → AreMet m i j s k → (i + j ≡ s + s) ⊎ ((i + j ≡ s + s + m) ⊎ (i + j + m ≡ s + s))
AreMet-sum m i j s k met =
    sum_of (steps_on m s k) (steps_back m s k) m i j s k (are_reached m s k met.slot (let half : k + k < m = met.half in omega arith)) met.here

one_slot : (m x s t : ℕ) → m % 2 ≡ 1 → s < m → t < m → (x ≡ s + s) ⊎ ((x ≡ s + s + m) ⊎ (x + m ≡ s + s)) → (x ≡ t + t) ⊎ ((x ≡ t + t + m) ⊎ (x + m ≡ t + t)) → s ≡ t
one_slot m x s t odd first second a b = omega arith

-- two teams meet in one slot
pub AreMet-slot : (m i j s k t l : ℕ) → m % 2 ≡ 1 → AreMet m i j s k → AreMet m i j t l → s ≡ t
AreMet-slot m i j s k t l odd a b = one_slot m (i + j) s t odd a.slot b.slot (AreMet-sum m i j s k a) (AreMet-sum m i j t l b)

one_step : (m s i j k l on back on_too back_too : ℕ) → s < m → 0 < k → 0 < l → k + k < m → l + l < m → AreReached m s k on back → AreReached m s l on_too back_too → ((on ≡ i) × (back ≡ j)) ⊎ ((on ≡ j) × (back ≡ i)) → ((on_too ≡ i) × (back_too ≡ j)) ⊎ ((on_too ≡ j) × (back_too ≡ i)) → k ≡ l
one_step m s i j k l on back on_too back_too slot some some_too half half_too r q here here_too = omega arith

-- two teams meet at one step of a slot
pub AreMet-step : (m i j s k l : ℕ) → AreMet m i j s k → AreMet m i j s l → k ≡ l
AreMet-step m i j s k l a b =
    let first : k + k < m = a.half in
    let second : l + l < m = b.half in
    let some : 0 < k = a.some in
    let some_too : 0 < l = b.some in
    one_step m s i j k l (steps_on m s k) (steps_back m s k) (steps_on m s l) (steps_back m s l) a.slot some some_too first second (are_reached m s k a.slot (omega arith)) (are_reached m s l a.slot (omega arith)) a.here b.here
