-- Counts as one list, by home team, then away team, then slot.
use Rattle.std.proofs.Common.{◌≡◌, ℕ, ◌+◌, ◌*◌, ◌/◌, ◌%◌, ◌<◌, ◌≤◌, Bool, true, false, ◌&&◌, ◌==◌, nat_lt, List}
use Rattle.std.proofs.Common.{length, get_or, refl, arith, ap, sym, ◌∙◌, inl, inr, zero-add, mul_comm}
use Rattle.std.proofs.lemmas.Bool.{cases_lt, cond_both}
use Rattle.std.proofs.lemmas.Bool.Decides.{nat_tests}
use Rattle.std.proofs.lemmas.List.{get_or_past, length-map}
use Rattle.std.proofs.lemmas.List.FromFn.{get_or-map-range_with_len, length-range_with_len}
use Rattle.std.proofs.lemmas.List.Sums.{sum-map}
use Rattle.std.proofs.lemmas.Nat.{div-add-mod', div-mul-add, mod-mul-add, mul-add-lt, mul-le}
use Rattle.std.specs.List.{range_with_len, sum}
use Rattle.std.proofs.Math.Path.{fun_ext}
use Rattle.league.specs.Counts.{Counts, is_game, one_more, slot_count}
use Rattle.league.specs.Grid.{number}
use Rattle.league.specs.Instance.{IsGame}
use Rattle.league.specs.declared.game.Game.{Game}
use Rattle.league.proofs.CountLemmas.{sum_by-one_game}
use Rattle.league.proofs.RangeLemmas.{one_if}
use Rattle.rule_core.specs.Table.{Table, table_counts}
use Rattle.rule_core.specs.Tables.{listed}

-- functions that give equal counts are one
pub same_counts : (m k : Counts) → ((i j s : ℕ) → m i j s ≡ k i j s) → m ≡ k
same_counts m k same = fun_ext (λ i. fun_ext (λ j. fun_ext (λ s. same i j s)))

-- counts of no game beyond the league
pub record IsWithin (n : ℕ) (m : Counts) : Type 0 where
  pub home : (i j s : ℕ) → n ≤ i → m i j s ≡ 0
  pub away : (i j s : ℕ) → n ≤ j → m i j s ≡ 0
  pub slot : (i j s : ℕ) → slot_count n ≤ s → m i j s ≡ 0

-- the table of some counts
abbrev pub table_of : ℕ → Counts → Table
table_of n m = record { n = n; list = listed n m }

-- the place of a count
abbrev count_place : ℕ → ℕ → ℕ → ℕ → ℕ
count_place n i j s = (i * n + j) * slot_count n + s

length-listed : (n : ℕ) (m : Counts) → length (listed n m) ≡ n * n * slot_count n
length-listed n m =
    length-map (range_with_len 0 (n * n * slot_count n))
    (λ p. m (p / slot_count n / n) (p / slot_count n % n) (p % slot_count n)) ∙ length-range_with_len 0
    (n * n * slot_count n)

-- a place of the table, within
place_within : (n w i j s : ℕ) → i < n → j < n → s < w → (i * n + j) * w + s < n * n * w
place_within n w i j s home away slot =
    omega (
      arith,
      mul-add-lt (i * n + j) w s (n * n) (omega (arith, mul-add-lt i n j n home away)) slot,
      mul_comm
          (n * n) w,
    )

-- a place beyond the table
place_beyond : (n w i j s : ℕ) → n ≤ i → n * n * w ≤ (i * n + j) * w + s
place_beyond n w i j s past =
    omega (arith, mul-le (n * n) w (i * n + j) w (omega (arith, mul-le n n i n past (omega arith))) (omega arith))

-- the count at a place of the table
at_place : (n : ℕ) (m : Counts) (i j s : ℕ) → j < n → s < slot_count n
    → m (count_place n i j s / slot_count n / n) (count_place n i j s / slot_count n % n)
    (count_place n i j s % slot_count n) ≡ m i j s
at_place n m i j s away slot =
    let w : ℕ = slot_count n in
    let row : count_place n i j s / w ≡ i * n + j = div-mul-add (i * n + j) w s slot in
    ap (λ (r : ℕ). m (r / n) (r % n) (count_place n i j s % w)) row
    ∙ ap (λ (k : ℕ). m k ((i * n + j) % n) (count_place n i j s % w)) (div-mul-add i n j away)
    ∙ ap (λ (k : ℕ). m i k (count_place n i j s % w)) (mod-mul-add i n j away)
    ∙ ap (λ (k : ℕ). m i j k) (mod-mul-add (i * n + j) w s slot)

-- a count that is read in the table, by where it stands
read_inside : (n : ℕ) (list : List ℕ) (i j s : ℕ) → j < n → s < slot_count n → table_counts
    (record { n = n; list = list }) i j s ≡ get_or list (count_place n i j s) 0
read_inside n list i j s away slot = grind (arith, nat_tests)

read_no_team : (n : ℕ) (list : List ℕ) (i j s : ℕ) → n ≤ j → table_counts (record { n = n; list = list }) i j s ≡ 0
read_no_team n list i j s away = grind (arith, nat_tests)

read_no_slot : (n : ℕ) (list : List ℕ) (i j s : ℕ) → slot_count n ≤ s → table_counts (record { n = n; list = list })
    i j s ≡ 0
read_no_slot n list i j s slot = cond_both (nat_lt j n) (number (slot_count n) list (i * n + j) s) 0 (λ x. x ≡ 0)
    (λ e. none (slot_count n) list (i * n + j) s slot) (λ e. refl) where
      none : (w : ℕ) (list : List ℕ) (row s : ℕ) → w ≤ s → number w list row s ≡ 0
      none w list row s slot = grind (arith, nat_tests)

-- the table of counts within the league has these counts
counts_at : (n : ℕ) (m : Counts) → IsWithin n m → (i j s : ℕ) → table_counts (table_of n m) i j s ≡ m i j s
counts_at n m within i j s =
    elim (cases_lt j n) [
      | inr no_team ↦ read_no_team n (listed n m) i j s no_team ∙ sym (within.away i j s no_team)
      | inl away ↦
          elim (cases_lt s (slot_count n)) [
            | inr no_slot ↦ read_no_slot n (listed n m) i j s no_slot ∙ sym (within.slot i j s no_slot)
            | inl slot ↦
                elim (cases_lt i n) [
                  | inr no_home ↦
                      read_inside n (listed n m) i j s away slot
                      ∙ get_or_past (listed n m) (count_place n i j s) 0
                      (omega (arith, length-listed n m, place_beyond n (slot_count n) i j s no_home))
                      ∙ sym (within.home i j s no_home)
                  | inl home ↦
                      read_inside n (listed n m) i j s away slot
                      ∙ get_or-map-range_with_len
                      (λ p. m (p / slot_count n / n) (p / slot_count n % n) (p % slot_count n)) 0
                      (n * n * slot_count n) (count_place n i j s) (count_place n i j s) 0
                      (place_within n (slot_count n) i j s home away slot) (zero-add (count_place n i j s))
                      ∙ at_place n m i j s away slot
                ]
          ]
    ]

pub counts-listed : (n : ℕ) (m : Counts) → IsWithin n m → table_counts (table_of n m) ≡ m
counts-listed n m within = same_counts (table_counts (table_of n m)) m (counts_at n m within)

-- tests that pass where the other does are one
same_tests : (p q : Bool) → (p ≡ true → q ≡ true) → (q ≡ true → p ≡ true) → p ≡ q
same_tests true q to from = sym (to refl)
same_tests false true to from = from refl
same_tests false false to from = refl

three_pass : (a b c d e f : ℕ) → a ≡ b → c ≡ d → e ≡ f → ((a == b) && (c == d) && (e == f)) ≡ true
three_pass a b c d e f first second third = grind (arith, nat_tests)

three_parts : (a b c d e f : ℕ) → ((a == b) && (c == d) && (e == f)) ≡ true → (a ≡ b) × (c ≡ d) × (e ≡ f)
three_parts a b c d e f h = (first, second, third) where
  first : a ≡ b
  first = grind (arith, nat_tests)

  second : c ≡ d
  second = grind (arith, nat_tests)

  third : e ≡ f
  third = grind (arith, nat_tests)

is_place : (x p : ℕ) → x ≡ p → (true && (x == p)) ≡ true
is_place x p same = grind (arith, nat_tests)

place_is : (x p : ℕ) → (true && (x == p)) ≡ true → x ≡ p
place_is x p h = grind (arith, nat_tests)

-- the game of a place of the table is a game of the league where the place is its own
game_place : (n p : ℕ) (g : Game)
    → is_game (p / slot_count n / n) (p / slot_count n % n) (p % slot_count n) g ≡ true
    → (true && (count_place n g.home.0 g.away.0 g.slot.0 == p)) ≡ true
game_place n p g passes =
    let parts = three_parts g.home.0 (p / slot_count n / n) g.away.0 (p / slot_count n % n) g.slot.0
    (p % slot_count n) passes in
    is_place (count_place n g.home.0 g.away.0 g.slot.0) p
    (ap (λ (i : ℕ). (i * n + g.away.0) * slot_count n + g.slot.0) parts.0
    ∙ ap (λ (j : ℕ). (p / slot_count n / n * n + j) * slot_count n + g.slot.0) parts.1
    ∙ ap (λ (r : ℕ). r * slot_count n + g.slot.0) (div-add-mod' (p / slot_count n) n)
    ∙ ap (λ (s : ℕ). p / slot_count n * slot_count n + s) parts.2
    ∙ div-add-mod' p (slot_count n))

place_game : (n p : ℕ) (g : Game) → IsGame n g → (true && (count_place n g.home.0 g.away.0 g.slot.0 == p)) ≡ true
    → is_game (p / slot_count n / n) (p / slot_count n % n) (p % slot_count n) g ≡ true
place_game n p g fits passes =
    let same : count_place n g.home.0 g.away.0 g.slot.0 ≡ p = place_is (count_place n g.home.0 g.away.0 g.slot.0) p
    passes in
    let row : g.home.0 * n + g.away.0 ≡ p / slot_count n =
    sym (div-mul-add (g.home.0 * n + g.away.0) (slot_count n) g.slot.0 fits.slot)
    ∙ ap (λ (x : ℕ). x / slot_count n) same in
    three_pass g.home.0 (p / slot_count n / n) g.away.0 (p / slot_count n % n) g.slot.0 (p % slot_count n)
    (sym (div-mul-add g.home.0 n g.away.0 fits.away) ∙ ap (λ (r : ℕ). r / n) row)
    (sym (mod-mul-add g.home.0 n g.away.0 fits.away) ∙ ap (λ (r : ℕ). r % n) row)
    (sym (mod-mul-add (g.home.0 * n + g.away.0) (slot_count n) g.slot.0 fits.slot) ∙
    ap (λ (x : ℕ). x % slot_count n) same)

same_place : (n : ℕ) (g : Game) → IsGame n g → (p : ℕ)
    → is_game (p / slot_count n / n) (p / slot_count n % n) (p % slot_count n) g
    ≡ (true && (count_place n g.home.0 g.away.0 g.slot.0 == p))
same_place n g fits p =
    same_tests (is_game (p / slot_count n / n) (p / slot_count n % n) (p % slot_count n) g)
    (true && (count_place n g.home.0 g.away.0 g.slot.0 == p)) (game_place n p g) (place_game n p g fits)

is_below : (x k : ℕ) → x < k → one_if (true && nat_lt x k) ≡ 1
is_below x k h = grind (arith, nat_tests)

-- the sum of the table, with a game of the league once more
pub sum-one_more : (n : ℕ) (m : Counts) (g : Game) → IsGame n g
    → sum (listed n (one_more m g)) ≡ sum (listed n m) + 1
sum-one_more n m g fits =
    let total : ℕ = n * n * slot_count n in
    let count : ℕ → ℕ = λ p. m (p / slot_count n / n) (p / slot_count n % n) (p % slot_count n) in
    let test : ℕ → Bool = λ p. is_game (p / slot_count n / n) (p / slot_count n % n) (p % slot_count n) g in
    omega (
      arith,
      sum-map (λ p. count p + one_if (test p)) (range_with_len 0 total),
      sum-map count (range_with_len 0 total),
      sum_by-one_game count test true (count_place n g.home.0 g.away.0 g.slot.0) total (same_place n g fits),
      is_below (count_place n g.home.0 g.away.0 g.slot.0) total
          (place_within n (slot_count n) g.home.0 g.away.0 g.slot.0 fits.home fits.away fits.slot),
    )
