-- The step of an analysis is tidy.
use Rattle.std.proofs.Common.{◌≡◌, ◌≢◌, ℕ, zero, suc, ◌^◌, ◌<◌, ◌≤◌, List, [], ◌∷◌, ◌++◌, length, get_or, Option}
use Rattle.std.proofs.Common.{Some, None, refl, arith, ap, sym, subst, ◌∙◌}
use Rattle.std.specs.Prelude.{Contains}
use Rattle.std.specs.List.{All}
use Rattle.std.proofs.lemmas.List.{append-nil, get_or_default, length-append, length_push}
use Rattle.std.proofs.lemmas.List.Elements.{All-append, All-cons, All-nil, All-push}
use Rattle.std.proofs.lemmas.List.Quantifiers.{all_pairs_push}
use Rattle.rows.specs.Literals.{Literal, negate}
use Rattle.rows.specs.Rows.{Row}
use Rattle.rows.specs.declared.partial.Value.{Value}
use Rattle.refutation.specs.Following.{row_numbered}
use Rattle.refutation.specs.Steps.Step.{Clause}
use Rattle.refutation.specs.Steps.{Step}
use Rattle.clause_search.specs.Analysis.{IsAnalysis, IsResolved, clause_below, hint_of, hints_below, literal_of}
use Rattle.clause_search.specs.News.{IsTidy}
use Rattle.clause_search.specs.declared.role.Role.{Role}
use Rattle.clause_search.specs.declared.role.Role.TheVariants.{Apart, Kept, Used}
use Rattle.clause_search.proofs.AnalysisLemmas.{AreFresh}
use Rattle.clause_search.proofs.EmpoweringLemmas.{IsKeptAt, clause_holds}
use Rattle.clause_search.proofs.ReplayLemmas.{Differ}

-- ---- the clause

-- the literal at a place is one of the list
contains_at : (c : List Literal) (k : ℕ) (d : Literal) → k < length c → Contains c (get_or c k d)
contains_at c k d within = (k, within, get_or_default c k (get_or c k d) d within)

differ_more : (c : List Literal) (m : Literal) (r : Role) → Differ c → ((l : Literal) → Contains c l → l.var ≢ m.var)
    → Differ (c ++ literal_of m r)
differ_more c m Apart differ apart = subst (λ (ls : List Literal). Differ ls) (sym (append-nil c)) differ
differ_more c m Used differ apart = subst (λ (ls : List Literal). Differ ls) (sym (append-nil c)) differ
differ_more c m Kept differ apart =
    all_pairs_push (λ l m. l.var ≢ m.var) c (negate m) differ
    (λ k d within. apart (get_or c k d) (contains_at c k d within))

differ_below : (lit : ℕ → Literal) (role : ℕ → Role) (n : ℕ) → AreFresh n lit → (k : ℕ) → k ≤ n
    → Differ (clause_below lit role k)
differ_below lit role n fresh zero within = λ i j d before inside same. absurd (omega (arith, inside))
differ_below lit role n fresh (suc k) within =
    differ_more (clause_below lit role k) (lit k) (role k) (differ_below lit role n fresh k (omega (arith, within)))
    (λ l there same.
    let kept : IsKeptAt lit role k l = clause_holds lit role k l there in
    fresh kept.0 k kept.1 (omega (arith, within)) (ap (λ (m : Literal). m.var) (sym kept.3) ∙ same))

-- what holds of each literal's variable
each_below : (P : ℕ → Type 0) (lit : ℕ → Literal) (role : ℕ → Role) (n : ℕ) → ((j : ℕ) → j < n → P (lit j).var)
    → All (λ l. P l.var) (clause_below lit role n)
each_below P lit role n each = λ k d within.
    let kept : IsKeptAt lit role n (get_or (clause_below lit role n) k d) =
    clause_holds lit role n (get_or (clause_below lit role n) k d)
    (contains_at (clause_below lit role n) k d within) in
    subst P (ap (λ (m : Literal). m.var) (sym kept.3)) (each kept.0 kept.1)

-- ---- the hints

hint_short : (n : ℕ) (r : Role) → length (hint_of n r) ≤ 1
hint_short n Apart = omega arith
hint_short n Kept = omega arith
hint_short n Used = omega arith

hints_short : (reason : ℕ → ℕ) (role : ℕ → Role) (k : ℕ) → length (hints_below reason role k) ≤ k
hints_short reason role zero = omega arith
hints_short reason role (suc k) =
    omega (
      arith,
      length-append (hints_below reason role k) (hint_of (reason k) (role k)),
      hint_short (reason k) (role k),
      hints_short reason role k,
    )

none_some : (row : Row) → ◌≡◌ {A = Option Row} None (Some row) → ⊥
none_some row is = cc

from_one : (rows : List Row) (n : ℕ) (row : Row) → row_numbered rows n ≡ Some row → 1 ≤ n
from_one rows zero row is = absurd (none_some row is)
from_one rows (suc n) row is = omega arith

hint_named : (n : ℕ) (r : Role) → (r ≡ Used → 1 ≤ n) → All (λ hint. 1 ≤ hint) (hint_of n r)
hint_named n Apart is = All-nil (λ hint. 1 ≤ hint)
hint_named n Kept is = All-nil (λ hint. 1 ≤ hint)
hint_named n Used is = All-cons (λ hint. 1 ≤ hint) n [] (is refl) (All-nil (λ hint. 1 ≤ hint))

hints_named : (reason : ℕ → ℕ) (role : ℕ → Role) (k : ℕ) → ((j : ℕ) → j < k → role j ≡ Used → 1 ≤ reason j)
    → All (λ hint. 1 ≤ hint) (hints_below reason role k)
hints_named reason role zero named = All-nil (λ hint. 1 ≤ hint)
hints_named reason role (suc k) named =
    All-append (λ hint. 1 ≤ hint) (hints_below reason role k) (hint_of (reason k) (role k))
    (hints_named reason role k (λ j below. named j (omega (arith, below))))
    (hint_named (reason k) (role k) (named k (omega arith)))

-- ---- the step

pub tidy_of : (rows : List Row) (vars n : ℕ) (lit : ℕ → Literal) (reason : ℕ → ℕ) (role : ℕ → Role)
    (before : ℕ → ℕ → Value) (number : ℕ)
    → IsAnalysis rows n lit reason role before number → AreFresh n lit → ((j : ℕ) → j < n → 1 ≤ (lit j).var)
    → ((j : ℕ) → j < n → (lit j).var ≤ vars) → n ≤ vars
    → All (λ hint. hint < 2 ^ 64) (hints_below reason role n ++ number ∷ [])
    → IsTidy vars (Clause (clause_below lit role n) (hints_below reason role n ++ number ∷ []))
tidy_of rows vars n lit reason role before number is fresh from_ones known few small = record {
  variables = differ_below lit role n fresh n (omega arith);
  from_one = each_below (λ v. 1 ≤ v) lit role n from_ones;
  known = each_below (λ v. v ≤ vars) lit role n known;
  few = omega (arith, length_push (hints_below reason role n) number, hints_short reason role n, few);
  named = All-push (λ hint. 1 ≤ hint) (hints_below reason role n) number
      (hints_named reason role n (λ j below used.
      let resolved : IsResolved rows lit reason role j (before j) = is.used j below used in
      from_one rows (reason j) resolved.row resolved.resolves.named))
      (from_one rows number is.row is.resolves.named);
  small = small;
}

-- what is tidy among some variables is so among more
pub IsTidy-wider : (vars more : ℕ) (step : Step) → vars ≤ more → IsTidy vars step → IsTidy more step
IsTidy-wider vars more step most tidy = record {
  variables = tidy.variables;
  from_one = tidy.from_one;
  known = λ k d within. omega (arith, tidy.known k d within, most);
  few = omega (arith, tidy.few, most);
  named = tidy.named;
  small = tidy.small;
}
