-- Sums of sizes, and the parts of an SE1.
use Rattle.std.proofs.Common.{◌≡◌, ℕ, zero, suc, ◌+◌, ◌-◌, ◌*◌, ◌<◌, ◌≤◌, Bool, true, false}
use Rattle.std.proofs.Common.{min as smaller, List, [], ◌∷◌, ◌++◌, length, map, refl, sym, ap, ◌∙◌, arith}
use Rattle.std.proofs.Math.Nat.{mul-suc}
use Rattle.std.proofs.lemmas.List.Sums.{sum_by-append, sum_by-cons}
use Rattle.std.specs.List.{filter, range_with_len, sum_by}
use Rattle.league.specs.Capacity.{meetings_with, windows_of}
use Rattle.league.specs.Counts.{slot_count}
use Rattle.league.specs.Instance.{Instance}
use Rattle.league.specs.declared.class.Class.TheVariants.{Se1}
use Rattle.league.specs.declared.class.Side.TheVariants.{Both}
use Rattle.league.proofs.RangeLemmas.{sum_by-range_more}
use Rattle.league.proofs.SumLemmas.{sum_by-map}
use Rattle.rows.specs.Cardinality.{at_most}
use Rattle.rows.specs.Rows.{Row, size_of}
use Rattle.rows.proofs.ListLemmas.{sum_by-range-append}
use Rattle.encoding.specs.Encoding.{constraint_rows, demands, encoding_size, season_rows}
use Rattle.encoding.specs.Lists.{games_in}
use Rattle.encoding.specs.Variables.{has_breaks}
use Rattle.encoding.proofs.SeasonSizes.{size_of-breaks}
use Rattle.encoding.specs.Season.{break_rows}
use Rattle.bound_rows.specs.BoundRows.{base_rows, needs_breaks}
use Rattle.bound_rows.specs.Parts.{se1_parts}
use Rattle.bound_rows.specs.Sizes.{group_size, part_size, parts_size}

pub times-comm : (a b : ℕ) → a * b ≡ b * a
times-comm a b = grind arith

-- ---- the parts of an SE1, from the least number of slots on

sum_down : (g : ℕ → ℕ) (k a end : ℕ) → end ≡ a + k
    → sum_by (λ u. g (end - u)) (range_with_len a k) ≡ sum_by (λ v. g (v + 1)) (range_with_len 0 k)
sum_down g zero a end ends = refl
sum_down g (suc k) a end ends =
    let first : end - a ≡ 0 + k + 1 = omega (arith, ends) in
    let more : suc k ≡ k + 1 = omega arith in
    omega (
      arith,
      sum_by-cons (λ u. g (end - u)) a (range_with_len (a + 1) k),
      ap g first,
      sum_down g k (a + 1) end (omega (arith, ends)),
      sum_by-range_more (λ v. g (v + 1)) 0 k,
      ap (λ (l : ℕ). sum_by (λ v. g (v + 1)) (range_with_len 0 l)) more,
    )

-- terms that are all alike
sum_alike : (h : ℕ → ℕ) (c a j : ℕ) → ((i : ℕ) → a ≤ i → i < a + j → h i ≡ c)
    → sum_by h (range_with_len a j) ≡ c * j
sum_alike h c a zero alike = omega arith
sum_alike h c a (suc j) alike =
    omega (
      arith,
      sum_by-cons h a (range_with_len (a + 1) j),
      alike a (omega arith) (omega arith),
      sum_alike h c (a + 1) j (λ i from within. alike i (omega arith) (omega arith)),
      mul-suc c j,
    )

-- from the season's slots on all parts are alike
pub alike : (n a b v : ℕ) → slot_count n ≤ v
    → part_size n (Se1 (a ∷ b ∷ []) v) ≡ part_size n (Se1 (a ∷ b ∷ []) (slot_count n))
alike n a b v late =
    let row : List ℕ → Row = λ window. at_most 1 (games_in n (meetings_with Both a (b ∷ [])) window) in
    let size : ℕ → ℕ = λ width. group_size 1 (filter demands (map row (windows_of n width) ++ [])) in
    let same : smaller (v + 1) (slot_count n) ≡ smaller (slot_count n + 1) (slot_count n) = omega (arith, late) in
    ap size same

pub pair_size : (n a b min near : ℕ) → near ≡ smaller min (slot_count n)
    → sum_by (λ v. part_size n (Se1 (a ∷ b ∷ []) (v + 1))) (range_with_len 0 near)
    + part_size n (Se1 (a ∷ b ∷ []) near) * (min - near)
    ≡ parts_size n (se1_parts min (a, b))
pair_size n a b min near is =
    let g : ℕ → ℕ = λ v. part_size n (Se1 (a ∷ b ∷ []) v) in
    let whole : min ≡ near + (min - near) = omega (arith, is) in
    let later : (i : ℕ) → 0 + near ≤ i → i < 0 + near + (min - near) → g (i + 1) ≡ g near = λ i from within.
    let season : near ≡ slot_count n = omega (arith, is, from, within) in
    alike n a b (i + 1) (omega (arith, season, from)) ∙ ap g (sym season) in
    omega (
      arith,
      sum_by-map (part_size n) (λ u. Se1 (a ∷ b ∷ []) (min + 1 - u)) (range_with_len 1 min),
      sum_down g min 1 (min + 1) (omega arith),
      ap (λ (k : ℕ). sum_by (λ v. g (v + 1)) (range_with_len 0 k)) whole,
      sum_by-range-append (λ v. g (v + 1)) 0 near (min - near),
      sum_alike (λ v. g (v + 1)) (g near) (0 + near) (min - near) later,
    )

-- ---- breaks that have variables only since a soft constraint bounds them

pub more_breaks : (league : Instance) → needs_breaks league.constraints ≡ true → has_breaks league.constraints ≡ false
    → encoding_size league + league.n * ((slot_count league.n - 1) * 14) ≡ size_of (base_rows league)
more_breaks league needs has =
    let n : ℕ = league.n in
    let terms : Row → ℕ = λ r. length r.terms in
    let season : List Row = season_rows n league.phased in
    let hard : List Row = constraint_rows n league.constraints in
    omega (
      arith,
      sum_by-append terms (season ++ break_rows n (has_breaks league.constraints)) hard,
      sum_by-append terms season (break_rows n (has_breaks league.constraints)),
      sum_by-append terms (season ++ break_rows n (needs_breaks league.constraints)) hard,
      sum_by-append terms season (break_rows n (needs_breaks league.constraints)),
      ap (λ (b : Bool). size_of (break_rows n b)) needs,
      ap (λ (b : Bool). size_of (break_rows n b)) has,
      size_of-breaks n,
    )
