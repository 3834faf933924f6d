-- Why a count refutes: where the teams need more than there is, the sum of its rows is in conflict.
use Rattle.std.proofs.Common.{◌≡◌, ℕ, ◌+◌, ◌*◌, ◌<◌, ◌≤◌, Bool, true, false, not, ◌&&◌, ◌==◌, nat_lt, cond, List}
use Rattle.std.proofs.Common.{◌++◌}
use Rattle.std.proofs.Common.{length, map, refl, arith, ap, ◌∙◌}
use Rattle.std.specs.Bool.{beq}
use Rattle.std.specs.List.{filter, sum_by}
use Rattle.std.proofs.Math.Nat.{mul-le-mul}
use Rattle.std.proofs.lemmas.Bool.{ltb-false}
use Rattle.std.proofs.lemmas.List.{length-map}
use Rattle.std.proofs.lemmas.List.Concat.{flat_map-append}
use Rattle.std.proofs.lemmas.List.Sums.{count_by-le-length, length-filter, sum_by-append, sum_by-le-sum_by}
use Rattle.league.proofs.SumLemmas.{sum_by-filter, sum_by-flat_map, sum_by-map, sum_by-same}
use Rattle.league.proofs.OneTermLemmas.{sum_by-swap}
use Rattle.rows.specs.Cardinality.{at_least, unit}
use Rattle.rows.specs.Literals.{Literal, negate}
use Rattle.rows.specs.Rows.{Row}
use Rattle.rows.specs.declared.lit.Term.{Term}
use Rattle.rows.specs.Sums.{Totals, cancelled, count_in, is_same, no_totals, weight_of}
use Rattle.encoding.proofs.SizeLemmas.{sum_by-constant}
use Rattle.refutation.specs.Following.{all_free, is_in_conflict}
use Rattle.venue_counts.proofs.AddedLemmas.{added-count, added-degree, all_added, terms_of}
use Rattle.venue_counts.proofs.CancelLaws.{Outnumber, larger-covered, outcounted}

-- ---- sums of sums

part-le : (b : Bool) (k : ℕ) → cond b k 0 ≤ k
part-le true k = omega arith
part-le false k = omega arith

filtered-le : {X : Type 0} (f : X → ℕ) (p : X → Bool) (xs : List X) → sum_by f (filter p xs) ≤ sum_by f xs
filtered-le f p xs =
    omega (
      arith,
      sum_by-filter f p xs,
      sum_by-le-sum_by (λ x. cond (p x) (f x) 0) f xs (λ x. part-le (p x) (f x)),
    )

-- ---- a row's literals

signs : (s t : Bool) → beq (not s) t ≡ beq s (not t)
signs true true = refl
signs true false = refl
signs false true = refl
signs false false = refl

is_same-negate : (m l : Literal) → is_same (negate m) l ≡ is_same m (negate l)
is_same-negate m l = ap (λ (b : Bool). m.var == l.var && b) (signs m.positive l.positive)

weight-units : (literals : List Literal) → weight_of (map unit literals) ≡ length literals
weight-units literals =
    let one : ℕ = length literals * 1 in
    omega (
      arith,
      sum_by-map (λ (t : Term). t.coef) unit literals,
      sum_by-constant 1 literals,
    )

-- so many rows, each made of literals with coefficient 1
module _ {K : Type 0} (degree : K → ℕ) (literals : K → List Literal) where
  abbrev rows_of_keys : List K → List Row
  rows_of_keys keys = map (λ k. at_least (degree k) (literals k)) keys

  count-keys : (keys : List K) (l : Literal)
      → count_in (terms_of (rows_of_keys keys)) l ≡ sum_by (λ k. sum_by (λ m. cond (is_same m l) 1 0) (literals k)) keys
  count-keys keys l =
      let counted : Term → ℕ = λ t. cond (is_same t.lit l) t.coef 0 in
      sum_by-flat_map counted (λ (r : Row). r.terms) (rows_of_keys keys)
      ∙ sum_by-map (λ (r : Row). sum_by counted r.terms) (λ k. at_least (degree k) (literals k)) keys
      ∙ sum_by-same (λ k. sum_by counted (map unit (literals k)))
      (λ k. sum_by (λ m. cond (is_same m l) 1 0) (literals k))
      (λ k. sum_by-map counted unit (literals k)) keys

  weight-keys : (size : ℕ) (keys : List K) → ((k : K) → length (literals k) ≡ size)
      → weight_of (terms_of (rows_of_keys keys)) ≡ length keys * size
  weight-keys size keys each =
      sum_by-flat_map (λ (t : Term). t.coef) (λ (r : Row). r.terms) (rows_of_keys keys)
      ∙ sum_by-map (λ (r : Row). weight_of r.terms) (λ k. at_least (degree k) (literals k)) keys
      ∙ sum_by-same (λ k. weight_of (map unit (literals k))) (λ k. size)
      (λ k. weight-units (literals k) ∙ each k) keys
      ∙ sum_by-constant size keys

  degree-keys : (keys : List K) → sum_by (λ (r : Row). r.degree) (rows_of_keys keys) ≡ sum_by degree keys
  degree-keys keys = sum_by-map (λ (r : Row). r.degree) (λ k. at_least (degree k) (literals k)) keys

-- ---- the rows of a count

-- Each team i has a literal for each slot s. In each slot at least so many are true; and of each team that needs it, so
-- many are false.
module _ (lit : ℕ → ℕ → Literal) (half : ℕ) (need : ℕ → ℕ) (teams slots : List ℕ) where
  abbrev in_slot : ℕ → List Literal
  in_slot s = map (λ i. lit i s) teams

  abbrev of_team : ℕ → List Literal
  of_team i = map (λ s. negate (lit i s)) slots

  abbrev bounded : List ℕ
  bounded = filter (λ i. nat_lt 0 (need i)) teams

  abbrev pub slots_rows : List Row
  slots_rows = map (λ s. at_least half (in_slot s)) slots

  abbrev pub teams_rows : List Row
  teams_rows = map (λ i. at_least (need i) (of_team i)) bounded

  -- whether the literal of a team and a slot is this one
  abbrev at : Literal → ℕ → ℕ → ℕ
  at l i s = cond (is_same (lit i s) l) 1 0

  count-slots : (l : Literal) → count_in (terms_of slots_rows) l ≡ sum_by (λ s. sum_by (λ i. at l i s) teams) slots
  count-slots l =
      count-keys (λ (s : ℕ). half) in_slot slots l
      ∙ sum_by-same (λ s. sum_by (λ m. cond (is_same m l) 1 0) (in_slot s)) (λ s. sum_by (λ i. at l i s) teams)
      (λ s. sum_by-map (λ m. cond (is_same m l) 1 0) (λ i. lit i s) teams) slots

  count-teams : (l : Literal)
      → count_in (terms_of teams_rows) l ≡ sum_by (λ i. sum_by (λ s. at (negate l) i s) slots) bounded
  count-teams l =
      count-keys need of_team bounded l
      ∙ sum_by-same (λ i. sum_by (λ m. cond (is_same m l) 1 0) (of_team i))
      (λ i. sum_by (λ s. at (negate l) i s) slots)
      (λ i. sum_by-map (λ m. cond (is_same m l) 1 0) (λ s. negate (lit i s)) slots
      ∙ sum_by-same (λ s. cond (is_same (negate (lit i s)) l) 1 0) (λ s. at (negate l) i s)
      (λ s. ap (λ (b : Bool). cond b 1 0) (is_same-negate (lit i s) l)) slots) bounded

  -- what is false for a team is counted as true in its slot
  outnumber : Outnumber (terms_of slots_rows) (terms_of teams_rows)
  outnumber l =
      omega (
        arith,
        count-teams l,
        count-slots (negate l),
        filtered-le (λ i. sum_by (λ s. at (negate l) i s) slots) (λ i. nat_lt 0 (need i)) teams,
        sum_by-swap (λ i s. at (negate l) i s) teams slots,
      )

  weight-slots : weight_of (terms_of slots_rows) ≡ length slots * length teams
  weight-slots = weight-keys (λ (s : ℕ). half) in_slot (length teams) slots (λ s. length-map teams (λ i. lit i s))

  weight-teams : weight_of (terms_of teams_rows) ≤ length teams * length slots
  weight-teams =
      let few : length bounded ≤ length teams =
      omega (arith, length-filter (λ i. nat_lt 0 (need i)) teams, count_by-le-length (λ i. nat_lt 0 (need i)) teams) in
      let same : length slots ≤ length slots = omega arith in
      omega (
        arith,
        weight-keys need of_team (length slots) bounded (λ i. length-map slots (λ s. negate (lit i s))),
        mul-le-mul few same,
      )

  none_needed : (b : Bool) (i : ℕ) → nat_lt 0 (need i) ≡ b → cond b (need i) 0 ≡ need i
  none_needed true i is = refl
  none_needed false i is = omega (arith, ltb-false 0 (need i) is)

  pub degree-all : sum_by (λ (r : Row). r.degree) (slots_rows ++ teams_rows) ≡ length slots * half + sum_by need teams
  degree-all =
      omega (
        arith,
        sum_by-append (λ (r : Row). r.degree) slots_rows teams_rows,
        degree-keys (λ (s : ℕ). half) in_slot slots,
        sum_by-constant half slots,
        degree-keys need of_team bounded,
        sum_by-filter need (λ i. nat_lt 0 (need i)) teams,
        sum_by-same (λ i. cond (nat_lt 0 (need i)) (need i) 0) need (λ i. none_needed (nat_lt 0 (need i)) i refl) teams,
      )

  terms-all : terms_of (slots_rows ++ teams_rows) ≡ terms_of slots_rows ++ terms_of teams_rows
  terms-all = flat_map-append (λ (r : Row). r.terms) slots_rows teams_rows

  pub weight-all : weight_of (terms_of (slots_rows ++ teams_rows)) ≤ 2 * (length slots * length teams)
  weight-all =
      omega (
        arith,
        ap weight_of terms-all,
        sum_by-append (λ (t : Term). t.coef) (terms_of slots_rows) (terms_of teams_rows),
        weight-slots,
        weight-teams,
      )

  -- more is needed than all teams have in the slots
  pub conflict : length slots * length teams < length slots * half + sum_by need teams
      → is_in_conflict all_free (cancelled (all_added no_totals (slots_rows ++ teams_rows))) ≡ true
  conflict above =
      let sum : Totals = all_added no_totals (slots_rows ++ teams_rows) in
      let counts : (l : Literal) → sum.count l ≡ count_in (terms_of slots_rows) l + count_in (terms_of teams_rows) l =
      λ l. omega (
        arith,
        added-count no_totals (slots_rows ++ teams_rows) l,
        ap (λ (ts : List Term). count_in ts l) terms-all,
        sum_by-append (λ (t : Term). cond (is_same t.lit l) t.coef 0) (terms_of slots_rows) (terms_of teams_rows),
      ) in
      outcounted sum
      (omega (
        arith,
        larger-covered (terms_of slots_rows) (terms_of teams_rows) sum.count sum.top outnumber counts,
        weight-slots,
        degree-all,
        added-degree no_totals (slots_rows ++ teams_rows),
        above,
      ))
