-- How many terms the part of an SE1 has: as many for each two teams.
use Rattle.std.proofs.Common.{◌≡◌, ℕ, ◌+◌, ◌-◌, ◌*◌, ◌<◌, ◌≤◌, Bool, true, cond, if◌then◌else◌, nat_lt, List, [], ◌∷◌, ◌++◌, length, map}
use Rattle.std.proofs.Common.{min as smaller, get_or, sym, ap, ◌∙◌, arith}
use Rattle.std.proofs.Math.Nat.{suc-mul}
use Rattle.std.proofs.lemmas.Bool.Decides.{nat_tests}
use Rattle.std.proofs.lemmas.List.{length-map}
use Rattle.std.proofs.lemmas.List.FromFn.{length-range_with_len}
use Rattle.std.proofs.lemmas.List.Sums.{sum_by-cons}
use Rattle.std.specs.List.{All, filter, range_with_len, sum_by}
use Rattle.league.specs.Capacity.{meetings_with}
use Rattle.league.specs.Counts.{slot_count}
use Rattle.league.specs.declared.class.Class.{Class}
use Rattle.league.specs.declared.class.Class.TheVariants.{Se1}
use Rattle.league.specs.declared.class.Side.TheVariants.{Both}
use Rattle.league.proofs.SumLemmas.{sum_by-map, sum_by-same}
use Rattle.rows.specs.Cardinality.{at_most, unit}
use Rattle.rows.specs.Literals.{Literal, negate}
use Rattle.rows.specs.Rows.{Row}
use Rattle.encoding.specs.Encoding.{demands}
use Rattle.encoding.specs.Keys.{Bounded, key_of, separation}
use Rattle.encoding.specs.Lists.{games_in}
use Rattle.encoding.specs.declared.subjects.Subject.TheVariants.{Pair}
use Rattle.encoding.proofs.ClassSizeLemmas.{two_meetings}
use Rattle.encoding.proofs.SizeLemmas.{length-games_in, sum_by-constant, sum_by-same_at}
use Rattle.bound_rows.specs.Parts.{se1_parts}
use Rattle.bound_rows.specs.Sizes.{bounds_size, part_size, parts_size, row_size}

-- rows that all demand something and have as many terms
sum_each : (row : List ℕ → Row) (long c : ℕ) (firsts : List ℕ)
    → ((first : ℕ) → demands (row (range_with_len first long)) ≡ true)
    → ((first : ℕ) → length (row (range_with_len first long)).terms + 1 ≡ c)
    → sum_by (λ r. length r.terms + 1)
    (filter demands (map row (map (λ first. range_with_len first long) firsts) ++ []))
    ≡ length firsts * c
sum_each row long c [] each size = omega arith
sum_each row long c (x ∷ xs) each size =
    let terms : Row → ℕ = λ r. length r.terms + 1 in
    let r : Row = row (range_with_len x long) in
    let rest : List Row = filter demands (map row (map (λ first. range_with_len first long) xs) ++ []) in
    omega (
      arith,
      ap (λ (b : Bool). sum_by terms (cond b (r ∷ rest) rest)) (each x),
      sum_by-cons terms r rest,
      size x,
      sum_each row long c xs each size,
      suc-mul (length xs) c,
    )

-- the games of two teams in a window
two_games : (n i j first long : ℕ) → i < j
    → length (games_in n (meetings_with Both i (j ∷ [])) (range_with_len first long)) ≡ 2 * long
two_games n i j first long order =
    length-games_in n (meetings_with Both i (j ∷ [])) (range_with_len first long)
    ∙ ap (λ (k : ℕ). k * length (range_with_len first long)) (two_meetings i j order)
    ∙ ap (λ (k : ℕ). 2 * k) (length-range_with_len first long)

above_one : (count : ℕ) → 1 < count → nat_lt 0 (count - 1) ≡ true
above_one count more = grind (arith, nat_tests)

window_size : (n i j first long : ℕ) → i < j
    → length (at_most 1 (games_in n (meetings_with Both i (j ∷ [])) (range_with_len first long))).terms + 1 ≡ 2 * long + 1
window_size n i j first long order =
    let games : List Literal = games_in n (meetings_with Both i (j ∷ [])) (range_with_len first long) in
    omega (arith, length-map (map negate games) unit, length-map games negate, two_games n i j first long order)

-- the rows of two teams and a least number of slots, with their unit
pub part_size-se1 : (n i j v : ℕ) → 2 ≤ n → i < j
    → part_size n (Se1 (i ∷ j ∷ []) v)
    ≡ (slot_count n + 1 - smaller (v + 1) (slot_count n)) * (2 * smaller (v + 1) (slot_count n) + 1) + 1
part_size-se1 n i j v several order =
    let long : ℕ = smaller (v + 1) (slot_count n) in
    let firsts : List ℕ = range_with_len 0 (slot_count n + 1 - long) in
    let row : List ℕ → Row = λ window. at_most 1 (games_in n (meetings_with Both i (j ∷ [])) window) in
    let positive : 0 < long = omega arith in
    let demanding : (first : ℕ) → demands (row (range_with_len first long)) ≡ true = λ first.
    ap (λ (k : ℕ). nat_lt 0 (k - 1)) (two_games n i j first long order) ∙ above_one (2 * long) (omega (arith, positive)) in
    omega (
      arith,
      sum_each row long (2 * long + 1) firsts demanding (λ first. window_size n i j first long order),
      ap (λ (k : ℕ). k * (2 * long + 1)) (length-range_with_len 0 (slot_count n + 1 - long)),
    )

-- the two rows of the key of two teams, of which one is listed, with one unit: equally many terms for each window
pub window_terms : (n v count : ℕ) (key : Bounded) → 2 ≤ n → key ≡ key_of n (Se1 [] v) (Pair 0 1) 0
    → count ≡ length key.literals → bounds_size 1 key.low key.high count ≡ 2 * separation n v + 1
window_terms n v count key several same counted =
    let long : ℕ = separation n v in
    let games : count ≡ 2 * long =
    counted ∙ ap (λ (k : Bounded). length k.literals) same ∙ two_games n 0 1 0 long (omega arith) in
    let some : nat_lt 0 (2 * long - 1) ≡ true = above_one (2 * long) (omega arith) in
    let listed : row_size 1 (2 * long - 1) (2 * long) ≡ 2 * long + 1 =
    ap (λ (b : Bool). if b then 2 * long + 1 else 0) some in
    ap (λ (k : Bounded). bounds_size 1 k.low k.high count) same ∙ ap (bounds_size 1 0 1) games ∙ omega (arith, listed)

same_part : (n i j v : ℕ) → 2 ≤ n → i < j
    → part_size n (Se1 (i ∷ j ∷ []) v) ≡ part_size n (Se1 (0 ∷ 1 ∷ []) v)
same_part n i j v several order =
    part_size-se1 n i j v several order ∙ sym (part_size-se1 n 0 1 v several (omega arith))

same_parts : (n min : ℕ) (p : ℕ × ℕ) → 2 ≤ n → p.0 < p.1
    → parts_size n (se1_parts min p) ≡ parts_size n (se1_parts min (0, 1))
same_parts n min p several order =
    let part : ℕ → ℕ → ℕ → Class = λ i j u. Se1 (i ∷ j ∷ []) (min + 1 - u) in
    sum_by-map (part_size n) (part p.0 p.1) (range_with_len 1 min)
    ∙ sum_by-same (λ u. part_size n (part p.0 p.1 u)) (λ u. part_size n (part 0 1 u))
    (λ u. same_part n p.0 p.1 (min + 1 - u) several order) (range_with_len 1 min)
    ∙ sym (sum_by-map (part_size n) (part 0 1) (range_with_len 1 min))

-- the parts of all pairs have as many times the terms of one pair as there are pairs
pub pairs_size : (n min : ℕ) (pairs : List (ℕ × ℕ)) → 2 ≤ n → All (λ p. p.0 < p.1) pairs
    → sum_by (λ p. parts_size n (se1_parts min p)) pairs ≡ length pairs * parts_size n (se1_parts min (0, 1))
pairs_size n min pairs several orders =
    sum_by-same_at (λ p. parts_size n (se1_parts min p)) (λ p. parts_size n (se1_parts min (0, 1))) pairs
    (λ k d lt. same_parts n min (get_or pairs k d) several (orders k d lt))
    ∙ sum_by-constant (parts_size n (se1_parts min (0, 1))) pairs
