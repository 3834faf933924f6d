-- How many terms rows have, and how many literals the lists of them.
use Rattle.std.proofs.Common.{◌≡◌, ℕ, ◌+◌, ◌-◌, ◌*◌, Bool, true, false, not, ◌==◌, nat_lt, cond, if◌then◌else◌, List, [], ◌∷◌, ◌++◌, length, map, refl, ap, ◌∙◌, arith}
use Rattle.std.proofs.Math.Nat.{suc-mul}
use Rattle.std.proofs.lemmas.Bool.Decides.{nat_tests}
use Rattle.std.proofs.lemmas.List.{length-append, length-map}
use Rattle.std.proofs.lemmas.List.Concat.{length-flat_map}
use Rattle.std.proofs.lemmas.List.Elements.{All-tail}
use Rattle.std.proofs.lemmas.List.Sums.{length-filter, sum_by-cons}
use Rattle.std.specs.List.{All, count_by, filter, flat_map, sum_by}
use Rattle.league.specs.Capacity.{meetings_with}
use Rattle.league.specs.Meetings.{others}
use Rattle.league.specs.declared.class.Side.{Side}
use Rattle.league.specs.declared.class.Side.TheVariants.{H, A, Both}
use Rattle.league.proofs.SumLemmas.{sum_by-same}
use Rattle.rows.specs.Cardinality.{at_least, at_most, between, unit}
use Rattle.rows.specs.Literals.{Literal, negate, no, yes}
use Rattle.rows.specs.Rows.{Row, size_of}
use Rattle.encoding.specs.Encoding.{demands}
use Rattle.encoding.specs.Lists.{after_first, at_home_in, away_breaks_at, away_in, breaks_in, games_in, home_breaks_at, meetings_in_order}
use Rattle.encoding.specs.Terms.{between_terms, least_terms, most_terms, side_count}
use Rattle.encoding.specs.Variables.{ab_var, h_var, hb_var, x_var}

-- ---- sums

-- a sum of the same number for each element
pub sum_by-constant : {X : Type 0} (k : ℕ) (xs : List X) → sum_by (λ x. k) xs ≡ length xs * k
sum_by-constant k [] = omega arith
sum_by-constant k (x ∷ xs) = omega (arith, sum_by-cons (λ y. k) x xs, sum_by-constant k xs, suc-mul (length xs) k)

-- terms that are equal at the elements
pub sum_by-same_at : {X : Type 0} (f g : X → ℕ) (xs : List X) → All (λ x. f x ≡ g x) xs → sum_by f xs ≡ sum_by g xs
sum_by-same_at f g [] same = refl
sum_by-same_at f g (x ∷ xs) same =
    omega (arith, sum_by-cons f x xs, sum_by-cons g x xs, same 0 x (omega arith), sum_by-same_at f g xs (All-tail (λ y. f y ≡ g y) x xs same))

-- ---- rows

-- a row's terms, where it is listed
abbrev listed_terms : Row → ℕ
listed_terms row = if demands row then length row.terms else 0

pub size_of-cons : (row : Row) (rest : List Row) → size_of (filter demands (row ∷ rest)) ≡ listed_terms row + size_of (filter demands rest)
size_of-cons row rest =
    elim (demands row) as (λ b. size_of (cond b (row ∷ filter demands rest) (filter demands rest)) ≡ cond b (length row.terms) 0 + size_of (filter demands rest)) [
      | true ↦ sum_by-cons (λ r. length r.terms) row (filter demands rest)
      | false ↦ omega arith
    ]

pub least-terms : (d : ℕ) (literals : List Literal) → listed_terms (at_least d literals) ≡ least_terms d (length literals)
least-terms d literals = ap (λ (k : ℕ). cond (nat_lt 0 d) k 0) (length-map literals unit)

above : (high count : ℕ) → nat_lt 0 (count - high) ≡ nat_lt high count
above high count = grind (arith, nat_tests)

pub most-terms : (b : ℕ) (literals : List Literal) → listed_terms (at_most b literals) ≡ most_terms b (length literals)
most-terms b literals =
    ap (λ (k : ℕ). cond (nat_lt 0 (length literals - b)) k 0) (length-map (map negate literals) unit ∙ length-map literals negate)
    ∙ ap (λ (t : Bool). cond t (length literals) 0) (above b (length literals))

pub size_of-most : (high : ℕ) (literals : List Literal) → size_of (filter demands (at_most high literals ∷ [])) ≡ most_terms high (length literals)
size_of-most high literals = omega (arith, size_of-cons (at_most high literals) [], most-terms high literals)

pub size_of-between : (low high : ℕ) (literals : List Literal) → size_of (filter demands (between low high literals)) ≡ between_terms low high (length literals)
size_of-between low high literals =
    omega (arith, size_of-cons (at_least low literals) (at_most high literals ∷ []), least-terms low literals, size_of-most high literals)

-- ---- literals

pub length-games_in : (n : ℕ) (meetings : List (ℕ × ℕ)) (slots : List ℕ) → length (games_in n meetings slots) ≡ length meetings * length slots
length-games_in n meetings slots =
    let in_slots : ℕ × ℕ → List Literal = λ p. map (λ s. yes (x_var n p.0 p.1 s)) slots in
    length-flat_map in_slots meetings
    ∙ sum_by-same (λ p. length (in_slots p)) (λ p. length slots) (λ p. length-map slots (λ s. yes (x_var n p.0 p.1 s))) meetings
    ∙ sum_by-constant (length slots) meetings

pub length-at_home : (n i : ℕ) (slots : List ℕ) → length (at_home_in n i slots) ≡ length slots
length-at_home n i slots = length-map slots (λ s. yes (h_var n i s))

pub length-away : (n i : ℕ) (slots : List ℕ) → length (away_in n i slots) ≡ length slots
length-away n i slots = length-map slots (λ s. no (h_var n i s))

-- the teams before i and those after it are the teams other than i
apart : (i j : ℕ) → cond (nat_lt j i) 1 0 + cond (nat_lt i j) 1 0 ≡ cond (not (j == i)) 1 0
apart i j = grind (arith, nat_tests)

before_and_after : (i : ℕ) (teams : List ℕ) → count_by (λ j. nat_lt j i) teams + count_by (λ j. nat_lt i j) teams ≡ count_by (λ j. not (j == i)) teams
before_and_after i [] = refl
before_and_after i (j ∷ teams) =
    omega (arith, sum_by-cons (λ j. cond (nat_lt j i) 1 0) j teams, sum_by-cons (λ j. cond (nat_lt i j) 1 0) j teams, sum_by-cons (λ j. cond (not (j == i)) 1 0) j teams, apart i j, before_and_after i teams)

pub length-meetings : (side : Side) (i : ℕ) (teams : List ℕ) → length (meetings_in_order side i teams) ≡ side_count side * length (others i teams)
length-meetings H i teams = omega (arith, length-map {B = ℕ × ℕ} (others i teams) (λ j. (i, j)))
length-meetings A i teams = omega (arith, length-map {B = ℕ × ℕ} (others i teams) (λ j. (j, i)))
length-meetings Both i teams =
    let before : List (ℕ × ℕ) = map (λ j. (j, i)) (filter (λ j. nat_lt j i) teams) in
    let at_home : List (ℕ × ℕ) = meetings_with H i teams in
    let after : List (ℕ × ℕ) = map (λ j. (j, i)) (filter (λ j. nat_lt i j) teams) in
    omega (
      arith,
      length-append (before ++ at_home) after,
      length-append before at_home,
      length-map {B = ℕ × ℕ} (filter (λ j. nat_lt j i) teams) (λ j. (j, i)),
      length-map {B = ℕ × ℕ} (others i teams) (λ j. (i, j)),
      length-map {B = ℕ × ℕ} (filter (λ j. nat_lt i j) teams) (λ j. (j, i)),
      length-filter (λ j. nat_lt j i) teams,
      length-filter (λ j. nat_lt i j) teams,
      length-filter (λ j. not (j == i)) teams,
      before_and_after i teams,
    )

pub length-home_breaks : (n i : ℕ) (slots : List ℕ) → length (home_breaks_at n i slots) ≡ length (after_first slots)
length-home_breaks n i slots = length-map (after_first slots) (λ s. yes (hb_var n i s))

pub length-away_breaks : (n i : ℕ) (slots : List ℕ) → length (away_breaks_at n i slots) ≡ length (after_first slots)
length-away_breaks n i slots = length-map (after_first slots) (λ s. yes (ab_var n i s))

pub length-breaks : (side : Side) (n i : ℕ) (slots : List ℕ) → length (breaks_in side n i slots) ≡ side_count side * length (after_first slots)
length-breaks H n i slots = omega (arith, length-home_breaks n i slots)
length-breaks A n i slots = omega (arith, length-away_breaks n i slots)
length-breaks Both n i slots =
    omega (arith, length-append (home_breaks_at n i slots) (away_breaks_at n i slots), length-home_breaks n i slots, length-away_breaks n i slots)

-- the breaks of many teams
pub length-all_breaks : (n : ℕ) (teams slots : List ℕ) → length (flat_map (λ i. home_breaks_at n i slots) teams ++ flat_map (λ i. away_breaks_at n i slots) teams) ≡ 2 * (length teams * length (after_first slots))
length-all_breaks n teams slots =
    let home : List Literal = flat_map (λ i. home_breaks_at n i slots) teams in
    let away : List Literal = flat_map (λ i. away_breaks_at n i slots) teams in
    let count : ℕ = length (after_first slots) in
    omega (
      arith,
      length-append home away,
      length-flat_map (λ i. home_breaks_at n i slots) teams,
      sum_by-same (λ i. length (home_breaks_at n i slots)) (λ i. count) (λ i. length-home_breaks n i slots) teams,
      length-flat_map (λ i. away_breaks_at n i slots) teams,
      sum_by-same (λ i. length (away_breaks_at n i slots)) (λ i. count) (λ i. length-away_breaks n i slots) teams,
      sum_by-constant count teams,
    )
