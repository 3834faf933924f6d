-- The rows that numbers name, and the rows of steps: which variables they have.
use Rattle.std.proofs.Common.{◌≡◌, ◌≢◌, ℕ, zero, suc, ◌+◌, ◌-◌, ◌<◌, ◌≤◌, ◌||◌}
use Rattle.std.proofs.Common.{Bool, true, false, not, cond, List, [], ◌∷◌, ◌++◌}
use Rattle.std.proofs.Common.{get_or, map, length, Option, Some, None, append_assoc, refl, arith, ap, sym, subst, ◌∙◌}
use Rattle.std.specs.Prelude.{Result, Ok, Err, IfOk, IfSome, nat_lt}
use Rattle.std.specs.List.{All, filter, flat_map, range_with_len, slice_get, list_any}
use Rattle.std.specs.Option.{option_map}
use Rattle.std.proofs.lemmas.Bool.Decides.{nat_tests}
use Rattle.std.proofs.lemmas.List.{map-append}
use Rattle.std.proofs.lemmas.List.Elements.{All-append, All-cons, All-filter, All-head, All-map}
use Rattle.std.proofs.lemmas.List.Elements.{All-nil, All-push, All-tail, All-weaker}
use Rattle.std.proofs.lemmas.Option.{slice_get-map, slice_get_read}
use Rattle.rows.specs.Literals.{Literal, yes, no}
use Rattle.rows.specs.Rows.{Row}
use Rattle.rows.specs.Cardinality.{at_least, unit}
use Rattle.rows.specs.declared.lit.Term.{Term}
use Rattle.rows.specs.Sums.{Totals, cancelled, divided, divided_term, is_same, is_too_wide}
use Rattle.rows.specs.Sums.{left_over, no_totals, plus, top_of}
use Rattle.rows.specs.Sums.{variables_to}
use Rattle.refutation.specs.Steps.{Step}
use Rattle.refutation.specs.Steps.Step.{Clause, Linear}
use Rattle.refutation.specs.Following.{add_parts, add_row, clause_row, distinct, has_opposites, judged, no_demand}
use Rattle.refutation.specs.Following.{replay, denied, row_numbered, row_of, row_unless}
use Rattle.refutation.specs.declared.step.Part.{Part}
use Rattle.refutation.specs.declared.verdict.Cause.{Cause}
use Rattle.refutation.specs.declared.verdict.Cause.TheVariants.{UnknownVariable, TooWide}
use Rattle.refutation_check.specs.Judged.{JudgedStep}
use Rattle.refutation_check.specs.Kept.{all_rows, judged_step, row_result, step_rows}
use Rattle.refutation_check.specs.Within.{AreWithin, IsWithin}
use Rattle.refutation_check.specs.declared.kept.KeptStep.{KeptStep}
use Rattle.refutation_check.proofs.SumLemmas.{row_numbered-holds}

-- ---- rows by number

slice_get-behind : {X : Type 0} (xs ys : List X) (k : ℕ) → slice_get (xs ++ ys) (length xs + k) ≡ slice_get ys k
slice_get-behind {X} [] ys k = let same : 0 + k ≡ k = omega arith in ap (λ (n : ℕ). slice_get ys n) same
slice_get-behind {X} (x ∷ xs) ys k =
    let same : suc (length xs) + k ≡ suc (length xs + k) = omega arith in
    ap (λ (n : ℕ). slice_get (x ∷ xs ++ ys) n) same ∙ slice_get-behind xs ys k

-- the row at a place has the next number
row_numbered-place : (rows : List Row) (number : ℕ) → number ≢ 0
    → row_numbered rows number ≡ slice_get rows (number - 1)
row_numbered-place rows zero is = absurd (is refl)
row_numbered-place rows (suc k) is =
    let same : k ≡ suc k - 1 = omega arith in ap (λ (n : ℕ). slice_get rows n) same

abbrev pub row_of_kept : KeptStep → Row
row_of_kept step = (judged_step step).row

map-twice : (steps : List KeptStep) (k : ℕ)
    → slice_get (step_rows steps) k ≡ option_map row_of_kept (slice_get steps k)
map-twice steps k =
    slice_get-map (λ (s : JudgedStep). s.row) (map judged_step steps) k
    ∙ (ap (λ (o : Option JudgedStep). option_map (λ (s : JudgedStep). s.row) o) (slice_get-map judged_step steps k)
    ∙ mapped_twice (slice_get steps k))
  where
    mapped_twice : (o : Option KeptStep)
        → option_map (λ (s : JudgedStep). s.row) (option_map judged_step o) ≡ option_map row_of_kept o
    mapped_twice None = refl
    mapped_twice (Some step) = refl

named_behind : (rows : List Row) (steps : List KeptStep) (number : ℕ) → number ≢ 0 → length rows ≤ number - 1
    → row_numbered (all_rows rows steps) number ≡ option_map row_of_kept (slice_get steps (number - 1 - length rows))
named_behind rows steps number is past =
    let same : number - 1 ≡ length rows + (number - 1 - length rows) = omega arith in
    row_numbered-place (all_rows rows steps) number is
    ∙ (ap (λ (n : ℕ). slice_get (all_rows rows steps) n) same
    ∙ (slice_get-behind rows (step_rows steps) (number - 1 - length rows)
    ∙ map-twice steps (number - 1 - length rows)))

-- ---- the variables of a clause's row

All-distinct : (P : Literal → Type 0) (clause : List Literal) → All P clause → All P (distinct clause)
All-distinct P [] all = all
All-distinct P (l ∷ clause) all =
    All-cons P l (filter (λ m. not (is_same l m)) (distinct clause)) (All-head P l clause all)
    (All-filter (λ m. not (is_same l m)) P (distinct clause)
    (All-distinct P clause (All-tail P l clause all)))

clause_within : (vars : ℕ) (clause : List Literal) → All (λ l. l.var ≤ vars) clause → (opposed : Bool)
    → IsWithin vars (cond opposed no_demand (at_least 1 (distinct clause)))
clause_within vars clause known true = All-nil (λ (t : Term). t.lit.var ≤ vars)
clause_within vars clause known false =
    All-map (λ (t : Term). t.lit.var ≤ vars) unit (distinct clause)
    (All-distinct (λ l. l.var ≤ vars) clause known)

-- ---- the variables of a sum's row

left_within : (v a b vars : ℕ) → v ≤ vars → All (λ (t : Term). t.lit.var ≤ vars) (left_over v a b)
left_within v a b vars known = by_cases (nat_lt b a) (nat_lt a b)
  where
    by_cases : (more less : Bool) → All (λ (t : Term). t.lit.var ≤ vars)
        (cond more (record { coef = a - b; lit = yes v } ∷ [])
        (cond less (record { coef = b - a; lit = no v } ∷ []) []))
    by_cases true less = All-cons (λ (t : Term). t.lit.var ≤ vars) _ [] known (All-nil _)
    by_cases false true = All-cons (λ (t : Term). t.lit.var ≤ vars) _ [] known (All-nil _)
    by_cases false false = All-nil _

All-flat_map : (P : Term → Type 0) (f : ℕ → List Term) (vs : List ℕ) → All (λ v. All P (f v)) vs
    → All P (flat_map f vs)
All-flat_map P f [] all = All-nil P
All-flat_map P f (v ∷ vs) all =
    All-append P (f v) (flat_map f vs) (All-head (λ w. All P (f w)) v vs all)
    (All-flat_map P f vs (All-tail (λ w. All P (f w)) v vs all))

All-range : (a n : ℕ) → All (λ v. v < a + n) (range_with_len a n)
All-range a zero = All-nil (λ v. v < a + zero)
All-range a (suc n) =
    All-cons (λ v. v < a + suc n) a (range_with_len (a + 1) n) (omega arith)
    (All-weaker (λ v. v < a + 1 + n) (λ v. v < a + suc n) (λ v below. omega arith) (range_with_len (a + 1) n)
    (All-range (a + 1) n))

cancelled_within : (vars : ℕ) (sum : Totals) → sum.top ≤ vars → IsWithin vars (cancelled sum)
cancelled_within vars sum known =
    All-flat_map (λ t. t.lit.var ≤ vars) (λ v. left_over v (sum.count (yes v)) (sum.count (no v)))
    (variables_to sum.top)
    (All-weaker (λ v. v < 0 + (sum.top + 1))
    (λ v. All (λ t. t.lit.var ≤ vars) (left_over v (sum.count (yes v)) (sum.count (no v))))
    (λ v below. left_within v (sum.count (yes v)) (sum.count (no v)) vars (omega arith)) (variables_to sum.top)
    (All-range 0 (sum.top + 1)))

divided_within : (vars divisor : ℕ) (row : Row) → IsWithin vars row → IsWithin vars (divided divisor row)
divided_within vars divisor row within =
    All-map (λ (t : Term). t.lit.var ≤ vars) (divided_term divisor) row.terms within

top_within : (vars : ℕ) (terms : List Term) → All (λ t. t.lit.var ≤ vars) terms → top_of terms ≤ vars
top_within vars [] all = omega arith
top_within vars (t ∷ terms) all =
    let head : t.lit.var ≤ vars = All-head (λ (u : Term). u.lit.var ≤ vars) t terms all in
    let rest : top_of terms ≤ vars = top_within vars terms (All-tail (λ (u : Term). u.lit.var ≤ vars) t terms all) in
    omega arith

ok_unless : (P : Totals → Type 0) (wide : Bool) (found : Result Totals Cause) → IfOk found P
    → IfOk (cond wide (Err TooWide) found) P
ok_unless P true found holds = tt
ok_unless P false found holds = holds

added_within : (vars : ℕ) (row : Option Row) (factor : ℕ) (sum : Totals) (rest : Totals → Result Totals Cause)
    → IfSome row (IsWithin vars) → sum.top ≤ vars
    → ((next : Totals) → next.top ≤ vars → IfOk (rest next) (λ all. all.top ≤ vars))
    → IfOk (add_row row factor sum rest) (λ all. all.top ≤ vars)
added_within vars None factor sum rest within known later = tt
added_within vars (Some row) factor sum rest within known later =
    let top : top_of row.terms ≤ vars = top_within vars row.terms within in
    ok_unless (λ all. all.top ≤ vars) (is_too_wide (plus sum factor row)) (rest (plus sum factor row))
    (later (plus sum factor row) (omega arith))

parts_within : (vars : ℕ) (rows : List Row) (parts : List Part) (sum : Totals) → AreWithin vars rows → sum.top ≤ vars
    → IfOk (add_parts rows parts sum) (λ all. all.top ≤ vars)
parts_within vars rows [] sum within known = known
parts_within vars rows (part ∷ parts) sum within known =
    added_within vars (row_numbered rows part.row) part.factor sum (add_parts rows parts)
    (row_numbered-holds (IsWithin vars) rows part.row within) known
    (λ next top. parts_within vars rows parts next within top)

-- ---- the variables of a step's row

or_false : (a b : Bool) → a || b ≡ false → (a ≡ false) × (b ≡ false)
or_false true b is = absurd (cc)
or_false false b is = (refl, is)

not_less : (v w : ℕ) → nat_lt v w ≡ false → w ≤ v
not_less v w is = grind (arith, nat_tests)

all_known : (vars : ℕ) (clause : List Literal) → list_any (λ l. nat_lt vars l.var) clause ≡ false
    → All (λ l. l.var ≤ vars) clause
all_known vars [] none = All-nil (λ (l : Literal). l.var ≤ vars)
all_known vars (l ∷ clause) none =
    let both = or_false (nat_lt vars l.var) (list_any (λ m. nat_lt vars m.var) clause) none in
    All-cons (λ (m : Literal). m.var ≤ vars) l clause (not_less vars l.var both.0) (all_known vars clause both.1)

unless_unknown : (P : Row → Type 0) (unknown : Bool) (later : Option Cause) (row : Row) → (unknown ≡ false → P row)
    → IfOk (row_unless (cond unknown (Some UnknownVariable) later) row) P
unless_unknown P true later row holds = tt
unless_unknown P false None row holds = holds refl
unless_unknown P false (Some cause) row holds = tt

sum_within : (vars divisor : ℕ) (sum : Result Totals Cause) → IfOk sum (λ all. all.top ≤ vars)
    → IfOk (row_of divisor sum) (IsWithin vars)
sum_within vars divisor (Ok sum) known = divided_within vars divisor (cancelled sum) (cancelled_within vars sum known)
sum_within vars divisor (Err cause) known = tt

-- the row of a step that follows has no variables that the rows don't have
judged_within : (rows : List Row) (vars : ℕ) (step : Step) → AreWithin vars rows
    → IfOk (judged rows vars step) (IsWithin vars)
judged_within rows vars (Clause clause hints) within =
    unless_unknown (IsWithin vars) (list_any (λ l. nat_lt vars l.var) clause)
    (cond (has_opposites clause) None (replay rows hints (denied clause))) (clause_row clause)
    (λ none. clause_within vars clause (all_known vars clause none) (has_opposites clause))
judged_within rows vars (Linear parts divisor) within =
    sum_within vars divisor (add_parts rows parts no_totals)
    (parts_within vars rows parts no_totals within (omega arith))

-- ---- where a step's row stands

-- a step at a place behind the rows has the number that comes to it
pub behind_some : (rows : List Row) (steps : List KeptStep) (number place : ℕ) (step : KeptStep) → number ≢ 0
    → length rows ≤ number - 1 → place ≡ number - 1 - length rows → place < length steps
    → step ≡ get_or steps place step → Some (row_of_kept step) ≡ row_numbered (all_rows rows steps) number
behind_some rows steps number place step is past at within read =
    sym (named_behind rows steps number is past
    ∙ (ap (λ (k : ℕ). option_map row_of_kept (slice_get steps k)) (sym at)
    ∙ ap (λ (o : Option KeptStep). option_map row_of_kept o)
    (slice_get_read steps (length steps) place step refl within read)))

pub named_within : (vars : ℕ) (rows : List Row) (number : ℕ) (row : Row) → Some row ≡ row_numbered rows number
    → AreWithin vars rows → IsWithin vars row
named_within vars rows number row is within =
    subst (λ (o : Option Row). IfSome o (IsWithin vars)) (sym is) (row_numbered-holds (IsWithin vars) rows number within)

kept_within : (vars : ℕ) (found : Result KeptStep Cause) → IfOk (row_result found) (IsWithin vars)
    → IfOk found (λ step. IsWithin vars (judged_step step).row)
kept_within vars (Ok step) within = within
kept_within vars (Err cause) within = tt

-- the row of a step that is found to follow
pub found_within : (rows : List Row) (vars : ℕ) (steps seen : List KeptStep) (found : Result KeptStep Cause)
    (step : Step) → seen ≡ steps → row_result found ≡ judged (all_rows rows seen) vars step
    → AreWithin vars (all_rows rows steps) → IfOk found (λ kept. IsWithin vars (judged_step kept).row)
found_within rows vars steps seen found step same is within =
    kept_within vars found
    (subst (λ (r : Result Row Cause). IfOk r (IsWithin vars)) (sym is)
    (judged_within (all_rows rows seen) vars step
    (subst (λ (all : List KeptStep). AreWithin vars (all_rows rows all)) (sym same) within)))

-- one step more
pub more_within : (rows : List Row) (vars : ℕ) (steps : List KeptStep) (step : KeptStep)
    → AreWithin vars (all_rows rows steps) → IsWithin vars (judged_step step).row
    → AreWithin vars (all_rows rows (steps ++ step ∷ []))
more_within rows vars steps step within here =
    subst (λ (all : List Row). AreWithin vars all)
    (append_assoc rows (step_rows steps) (row_of_kept step ∷ [])
    ∙ ap (λ (more : List Row). rows ++ more)
    (sym (ap (λ (all : List JudgedStep). map (λ s. s.row) all) (map-append judged_step steps (step ∷ []))
    ∙ map-append (λ (s : JudgedStep). s.row) (map judged_step steps) (judged_step step ∷ []))))
    (All-push (IsWithin vars) (all_rows rows steps) (row_of_kept step) within here)
