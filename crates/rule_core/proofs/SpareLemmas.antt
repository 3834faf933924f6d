-- Counts of games by slot, then home team, then away team, with a game more or less.
use Rattle.std.proofs.Common.{◌≡◌, ◌⊎◌, ℕ, ◌+◌, ◌*◌, ◌-◌, ◌<◌, ◌≤◌, Bool, true, false, ◌&&◌, ◌==◌, nat_lt}
use Rattle.std.proofs.Common.{if◌then◌else◌, List, [], ◌∷◌, ◌++◌, zero, suc}
use Rattle.std.proofs.Common.{length, get_or, set, refl, arith, ap, sym, ◌∙◌, inl, inr}
use Rattle.std.proofs.lemmas.Bool.{cases_eq, cases_lt}
use Rattle.std.proofs.lemmas.Bool.Decides.{nat_tests}
use Rattle.std.proofs.lemmas.List.{get_or-set_other, get_or-set_same, get_or_default, get_or_past}
use Rattle.std.proofs.lemmas.Nat.{same_from_place}
use Rattle.league.specs.Counts.{is_game, one_more, slot_count}
use Rattle.league.specs.Instance.{IsGame}
use Rattle.league.specs.declared.game.Game.{Game}
use Rattle.league.proofs.RangeLemmas.{one_if}
use Rattle.rule_core.specs.Spare.{AreSpare, spare_counts, spare_place}

-- games of at most 40 teams are one where their places are
same_parts : (a b c d e f : ℕ) → b < 40 → c < 40 → e < 40 → f < 40 → (a * 40 + b) * 40 + c ≡ (d * 40 + e) * 40 + f
    → (a ≡ d) × (b ≡ e) × (c ≡ f)
same_parts a b c d e f b_in c_in e_in f_in same =
    let first = same_from_place (a * 40 + b) c (d * 40 + e) f 40 c_in f_in same in
    let second = same_from_place a b d e 40 b_in e_in first.0 in
    (second.0, second.1, first.1)

parts_pass : (a b c d e f : ℕ) → a ≡ d → b ≡ e → c ≡ f → ((b == e) && (c == f) && (a == d)) ≡ true
parts_pass a b c d e f first second third = grind (arith, nat_tests)

parts_from : (a b c d e f : ℕ) → ((b == e) && (c == f) && (a == d)) ≡ true → (a ≡ d) × (b ≡ e) × (c ≡ f)
parts_from a b c d e f h = (first, second, third) where
  first : a ≡ d
  first = grind (arith, nat_tests)

  second : b ≡ e
  second = grind (arith, nat_tests)

  third : c ≡ f
  third = grind (arith, nat_tests)

if_fails : (b : Bool) (k : ℕ) → (b ≡ true → ⊥) → (if b then k else 0) ≡ 0
if_fails true k h = absurd (h refl)
if_fails false k h = refl

if_passes : (b : Bool) (k : ℕ) → b ≡ true → (if b then k else 0) ≡ k
if_passes true k h = refl
if_passes false k h = absurd (cc)

if_one_more : (b : Bool) (count : ℕ) → (if b then count + 1 else 0) ≡ (if b then count else 0) + one_if b
if_one_more true count = refl
if_one_more false count = refl

-- a game with another slot, home team or away team is another
another : (g : Game) (i j s k : ℕ) → ((g.slot.0 ≡ s) × (g.home.0 ≡ i) × (g.away.0 ≡ j) → ⊥)
    → (if is_game i j s g then k else 0) ≡ 0
another g i j s k differ = if_fails (is_game i j s g) k
    (λ passes. differ (parts_from g.slot.0 g.home.0 g.away.0 s i j passes))

-- a count is read where it stands, and there is none of another team
counts_at : (xs : List ℕ) (i j s : ℕ) → i < 40 → j < 40 → spare_counts xs i j s ≡ get_or xs (spare_place i j s) 0
counts_at xs i j s home away = grind (arith, nat_tests)

no_home : (xs : List ℕ) (i j s : ℕ) → 40 ≤ i → spare_counts xs i j s ≡ 0
no_home xs i j s past = grind (arith, nat_tests)

no_away : (xs : List ℕ) (i j s : ℕ) → 40 ≤ j → spare_counts xs i j s ≡ 0
no_away xs i j s past = grind (arith, nat_tests)

-- lists with the same numbers count the same
pub same_numbers : (xs ys : List ℕ) → ((k : ℕ) → get_or ys k 0 ≡ get_or xs k 0) → (i j s : ℕ)
    → spare_counts ys i j s ≡ spare_counts xs i j s
same_numbers xs ys same i j s =
    ap (λ (x : ℕ). if nat_lt i 40 && nat_lt j 40 then x else 0) (same (spare_place i j s))

pub zero_more : (xs : List ℕ) (k : ℕ) → get_or (xs ++ (0 ∷ [])) k 0 ≡ get_or xs k 0
zero_more [] zero = refl
zero_more [] (suc k) = refl
zero_more (x ∷ xs) zero = refl
zero_more (x ∷ xs) (suc k) = zero_more xs k

-- the counts of a game of at most 40 teams
module _ (xs : List ℕ) (g : Game) (home : g.home.0 < 40) (away : g.away.0 < 40) where
  -- a count as it is read, within the list and past its end
  pub read_inside : (place read : ℕ) → place ≡ spare_place g.home.0 g.away.0 g.slot.0 → place < length xs
      → read ≡ get_or xs place read → read ≡ spare_counts xs g.home.0 g.away.0 g.slot.0
  read_inside place read is inside was =
      was
      ∙ get_or_default xs place read 0 inside
      ∙ ap (λ (k : ℕ). get_or xs k 0) is
      ∙ sym (counts_at xs g.home.0 g.away.0 g.slot.0 home away)

  pub read_past : (place : ℕ) → place ≡ spare_place g.home.0 g.away.0 g.slot.0 → length xs ≤ place
      → 0 ≡ spare_counts xs g.home.0 g.away.0 g.slot.0
  read_past place is past =
      sym
      (counts_at xs g.home.0 g.away.0 g.slot.0 home away
      ∙ ap (λ (k : ℕ). get_or xs k 0) (sym is)
      ∙ get_or_past xs place 0 past)

  -- one that is counted stands inside
  pub there_inside : 0 < spare_counts xs g.home.0 g.away.0 g.slot.0
      → spare_place g.home.0 g.away.0 g.slot.0 < length xs
  there_inside there =
      let place : ℕ = spare_place g.home.0 g.away.0 g.slot.0 in
      elim (cases_lt place (length xs)) [
        | inl inside ↦ inside
        | inr past ↦ absurd (omega (arith, there, read_past place refl past))
      ]

  -- the counts where a number is written at its place
  counts-set : (value i j s : ℕ) → spare_place g.home.0 g.away.0 g.slot.0 < length xs
      → spare_counts (set xs (spare_place g.home.0 g.away.0 g.slot.0) value) i j s
      + (if is_game i j s g then get_or xs (spare_place g.home.0 g.away.0 g.slot.0) 0 else 0)
      ≡ spare_counts xs i j s + (if is_game i j s g then value else 0)
  counts-set value i j s inside =
      let place : ℕ = spare_place g.home.0 g.away.0 g.slot.0 in
      let old : ℕ = get_or xs place 0 in
      elim (cases_lt i 40) [
        | inr past ↦
            omega (
              arith,
              no_home (set xs place value) i j s past,
              no_home xs i j s past,
              another g i j s old (λ parts. absurd (omega (arith, parts.1, home, past))),
              another g i j s value (λ parts. absurd (omega (arith, parts.1, home, past))),
            )
        | inl i_in ↦
            elim (cases_lt j 40) [
              | inr past ↦
                  omega (
                    arith,
                    no_away (set xs place value) i j s past,
                    no_away xs i j s past,
                    another g i j s old (λ parts. absurd (omega (arith, parts.2, away, past))),
                    another g i j s value (λ parts. absurd (omega (arith, parts.2, away, past))),
                  )
              | inl j_in ↦
                  elim (cases_eq (spare_place i j s) place) [
                    | inl same ↦
                        let parts =
                        same_parts s i j g.slot.0 g.home.0 g.away.0 i_in j_in home away same in
                        let passes = parts_pass g.slot.0 g.home.0 g.away.0 s i j (sym parts.0) (sym parts.1)
                        (sym parts.2) in
                        omega (
                          arith,
                          counts_at (set xs place value) i j s i_in j_in,
                          counts_at xs i j s i_in j_in,
                          ap (λ (k : ℕ). get_or (set xs place value) k 0) same,
                          ap (λ (k : ℕ). get_or xs k 0) same,
                          get_or-set_same xs place value 0 inside,
                          if_passes (is_game i j s g) old passes,
                          if_passes (is_game i j s g) value passes,
                        )
                    | inr differ ↦
                        omega (
                          arith,
                          counts_at (set xs place value) i j s i_in j_in,
                          counts_at xs i j s i_in j_in,
                          get_or-set_other xs place (spare_place i j s) value 0 differ,
                          another g i j s old (λ parts. differ (omega (arith, parts.0, parts.1, parts.2))),
                          another g i j s value (λ parts. differ (omega (arith, parts.0, parts.1, parts.2))),
                        )
                  ]
            ]
      ]

  -- with the game once more, and once less
  pub counts-more : (value i j s : ℕ) → spare_place g.home.0 g.away.0 g.slot.0 < length xs
      → value ≡ get_or xs (spare_place g.home.0 g.away.0 g.slot.0) 0 + 1
      → spare_counts (set xs (spare_place g.home.0 g.away.0 g.slot.0) value) i j s
      ≡ one_more (spare_counts xs) g i j s
  counts-more value i j s inside more =
      omega (
        arith,
        counts-set value i j s inside,
        ap (λ (k : ℕ). if is_game i j s g then k else 0) more,
        if_one_more (is_game i j s g) (get_or xs (spare_place g.home.0 g.away.0 g.slot.0) 0),
      )

  pub counts-less : (value i j s : ℕ) → spare_place g.home.0 g.away.0 g.slot.0 < length xs
      → value + 1 ≡ get_or xs (spare_place g.home.0 g.away.0 g.slot.0) 0
      → spare_counts xs i j s
      ≡ one_more (spare_counts (set xs (spare_place g.home.0 g.away.0 g.slot.0) value)) g i j s
  counts-less value i j s inside less =
      omega (
        arith,
        counts-set value i j s inside,
        ap (λ (k : ℕ). if is_game i j s g then k else 0) less,
        if_one_more (is_game i j s g) value,
      )

-- a number that was read at a place
pub read_at : (xs : List ℕ) (place read : ℕ) → read ≡ get_or xs place read → place < length xs
    → read ≡ get_or xs place 0
read_at xs place read was inside = was ∙ get_or_default xs place read 0 inside

-- a list with the same numbers, in which one more is written at a game's place, and one in which one less is
pub more_written : (xs ys zs : List ℕ) (g : Game) (place read : ℕ) → g.home.0 < 40 → g.away.0 < 40
    → ((k : ℕ) → get_or ys k 0 ≡ get_or xs k 0) → place ≡ spare_place g.home.0 g.away.0 g.slot.0
    → place < length ys → read ≡ get_or ys place read → zs ≡ set ys place (read + 1) → (i j s : ℕ)
    → spare_counts zs i j s ≡ one_more (spare_counts xs) g i j s
more_written xs ys zs g place read home away same is inside was written i j s =
    let at : ℕ = spare_place g.home.0 g.away.0 g.slot.0 in
    let within : at < length ys = omega (arith, is, inside) in
    let old : read + 1 ≡ get_or ys at 0 + 1 =
    ap (λ (x : ℕ). x + 1) (read_at ys place read was inside ∙ ap (λ (k : ℕ). get_or ys k 0) is) in
    omega (
      arith,
      ap (λ (us : List ℕ). spare_counts us i j s) written,
      ap (λ (k : ℕ). spare_counts (set ys k (read + 1)) i j s) is,
      counts-more ys g home away (read + 1) i j s within old,
      same_numbers xs ys same i j s,
    )

pub less_written : (xs zs : List ℕ) (g : Game) (place read : ℕ) → g.home.0 < 40 → g.away.0 < 40
    → place ≡ spare_place g.home.0 g.away.0 g.slot.0 → 0 < spare_counts xs g.home.0 g.away.0 g.slot.0
    → read ≡ get_or xs place read → zs ≡ set xs place (read - 1) → (i j s : ℕ)
    → spare_counts xs i j s ≡ one_more (spare_counts zs) g i j s
less_written xs zs g place read home away is there was written i j s =
    let at : ℕ = spare_place g.home.0 g.away.0 g.slot.0 in
    let within : at < length xs = there_inside xs g home away there in
    let inside : place < length xs = omega (arith, is, within) in
    let old : read ≡ get_or xs at 0 = read_at xs place read was inside ∙ ap (λ (k : ℕ). get_or xs k 0) is in
    let some : 0 < read = omega (arith, old, there, counts_at xs g.home.0 g.away.0 g.slot.0 home away) in
    let less : read - 1 + 1 ≡ get_or xs at 0 = omega (arith, some, old) in
    omega (
      arith,
      counts-less xs g home away (read - 1) i j s within less,
      ap (λ (us : List ℕ). spare_counts us i j s) written,
      ap (λ (k : ℕ). spare_counts (set xs k (read - 1)) i j s) is,
    )

-- what is read there is what is counted
pub read_counted : (xs : List ℕ) (g : Game) (place read : ℕ) → g.home.0 < 40 → g.away.0 < 40
    → place ≡ spare_place g.home.0 g.away.0 g.slot.0 → place < length xs → read ≡ get_or xs place read
    → read ≡ spare_counts xs g.home.0 g.away.0 g.slot.0
read_counted xs g place read home away is inside was = read_inside xs g home away place read is inside was

-- a game of the league is none beyond it
no_game : (n : ℕ) (g : Game) (i j s : ℕ) → IsGame n g → (n ≤ i) ⊎ (n ≤ j) ⊎ (slot_count n ≤ s)
    → one_if (is_game i j s g) ≡ 0
no_game n g i j s fits past =
    let home : g.home.0 < n = fits.home in
    let away : g.away.0 < n = fits.away in
    let slot : g.slot.0 < slot_count n = fits.slot in
    another g i j s 1
    (λ parts. elim past [
      | inl no_home ↦ absurd (omega (arith, parts.1, home, no_home))
      | inr rest ↦ elim rest [
        | inl no_away ↦ absurd (omega (arith, parts.2, away, no_away))
        | inr no_slot ↦ absurd (omega (arith, parts.0, slot, no_slot))
      ]
    ])

-- counts of the league's games, with one more and one less
pub AreSpare-more : (n : ℕ) (g : Game) (xs ys : List ℕ) → IsGame n g
    → ((i j s : ℕ) → spare_counts ys i j s ≡ one_more (spare_counts xs) g i j s)
    → length ys ≤ slot_count n * 1600 → AreSpare n xs → AreSpare n ys
AreSpare-more n g xs ys fits same short are = record {
  within = λ i j s past. omega (arith, same i j s, are.within i j s past, no_game n g i j s fits past);
  differ = λ i s. omega (
    arith,
    same i i s,
    are.differ i s,
    another g i i s 1 (λ parts. absurd (fits.differ (omega (arith, parts.1, parts.2)))),
  );
  short = short;
}

pub AreSpare-less : (n : ℕ) (g : Game) (xs ys : List ℕ)
    → ((i j s : ℕ) → spare_counts ys i j s ≡ one_more (spare_counts xs) g i j s)
    → length xs ≡ length ys → AreSpare n ys → AreSpare n xs
AreSpare-less n g xs ys same long are = record {
  within = λ i j s past. omega (arith, same i j s, are.within i j s past);
  differ = λ i s. omega (arith, same i i s, are.differ i s);
  short = omega (arith, long, are.short);
}

-- an empty list counts no games
pub no_counts : (xs : List ℕ) → xs ≡ [] → (i j s : ℕ) → spare_counts xs i j s ≡ 0
no_counts xs none i j s =
    ap (λ (ys : List ℕ). spare_counts ys i j s) none ∙ if_none (nat_lt i 40 && nat_lt j 40) where
      if_none : (b : Bool) → ◌≡◌ {A = ℕ} (if b then 0 else 0) 0
      if_none true = refl
      if_none false = refl

pub no_length : (xs : List ℕ) → length xs ≡ 0 → (i j s : ℕ) → spare_counts xs i j s ≡ 0
no_length [] none i j s = no_counts [] refl i j s
no_length (x ∷ xs) none i j s = absurd (omega arith)

pub AreSpare-none : (n : ℕ) (xs : List ℕ) → xs ≡ [] → AreSpare n xs
AreSpare-none n xs none = record {
  within = λ i j s past. no_counts xs none i j s;
  differ = λ i s. no_counts xs none i i s;
  short = omega (arith, ap length none);
}
