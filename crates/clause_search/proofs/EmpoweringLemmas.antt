-- The clause of an analysis is empowering where it keeps one literal alone from the last decision on.
use Rattle.std.proofs.Common.{◌≡◌, ◌≢◌, ℕ, zero, suc, ◌<◌, ◌≤◌, Bool, true, false, not, cond, List}
use Rattle.std.proofs.Common.{refl, inl, inr, arith, ap, sym, subst, ◌∙◌}
use Rattle.std.specs.Prelude.{Contains}
use Rattle.std.proofs.lemmas.Bool.{cases_lt}
use Rattle.std.proofs.lemmas.List.Elements.{Contains-append_cases, Contains-append_left, Contains-append_right}
use Rattle.rows.specs.Literals.{Literal, negate}
use Rattle.rows.specs.Rows.{Row}
use Rattle.rows.specs.Partials.{IsEmpowering, IsQuiet, opposite_of, value_of}
use Rattle.rows.specs.declared.partial.Value.{Value}
use Rattle.rows.specs.declared.partial.Value.TheVariants.{True, False, Free}
use Rattle.clause_search.specs.Analysis.{clause_below, literal_of}
use Rattle.clause_search.specs.declared.role.Role.{Role}
use Rattle.clause_search.specs.declared.role.Role.TheVariants.{Apart, Kept, Used}

-- ---- what the clause holds

-- a kept literal whose negation this is
abbrev pub IsKeptAt : (ℕ → Literal) → (ℕ → Role) → ℕ → Literal → Type 0
IsKeptAt lit role n l = (j : ℕ) × (j < n) × (role j ≡ Kept) × (l ≡ negate (lit j))

one_holds : (m : Literal) (r : Role) (l : Literal) → Contains (literal_of m r) l → (r ≡ Kept) × (l ≡ negate m)
one_holds m Apart l (k, within, is) = absurd (omega (arith, within))
one_holds m Used l (k, within, is) = absurd (omega (arith, within))
one_holds m Kept l (zero, within, is) = (refl, sym is)
one_holds m Kept l (suc k, within, is) = absurd (omega (arith, within))

pub clause_holds : (lit : ℕ → Literal) (role : ℕ → Role) (n : ℕ) (l : Literal) → Contains (clause_below lit role n) l
    → IsKeptAt lit role n l
clause_holds lit role zero l (k, within, is) = absurd (omega (arith, within))
clause_holds lit role (suc n) l there =
    elim (Contains-append_cases (clause_below lit role n) (literal_of (lit n) (role n)) l there) [
      | inl front ↦
          let kept : IsKeptAt lit role n l = clause_holds lit role n l front in
          (kept.0, omega (arith, kept.1), kept.2, kept.3)
      | inr last ↦
          let one : (role n ≡ Kept) × (l ≡ negate (lit n)) = one_holds (lit n) (role n) l last in
          (n, omega arith, one.0, one.1)
    ]

one_held : (m : Literal) (r : Role) → r ≡ Kept → Contains (literal_of m r) (negate m)
one_held m Apart is = cc
one_held m Used is = cc
one_held m Kept is = (0, omega arith, refl)

pub clause_held : (lit : ℕ → Literal) (role : ℕ → Role) (n j : ℕ) → j < n → role j
    ≡ Kept → Contains (clause_below lit role n) (negate (lit j))
clause_held lit role zero j within kept = absurd (omega (arith, within))
clause_held lit role (suc n) j within kept =
    elim (cases_lt j n) [
      | inl before ↦
          Contains-append_left (clause_below lit role n) (literal_of (lit n) (role n)) (negate (lit j))
          (clause_held lit role n j before kept)
      | inr past ↦
          let same : n ≡ j = omega (arith, within, past) in
          subst (λ (i : ℕ). role i ≡ Kept → Contains (clause_below lit role (suc n)) (negate (lit i))) same
          (λ is. Contains-append_right (clause_below lit role n) (literal_of (lit n) (role n)) (negate (lit n))
          (one_held (lit n) (role n) is)) kept
    ]

-- ---- empowering

negate_false_by : (b : Bool) (v : Value) → cond b v (opposite_of v) ≡ True → cond (not b) v (opposite_of v) ≡ False
negate_false_by true True is = refl
negate_false_by true False is = cc
negate_false_by true Free is = cc
negate_false_by false True is = cc
negate_false_by false False is = refl
negate_false_by false Free is = cc

pub negate_false : (values : ℕ → Value) (l : Literal) → value_of values l ≡ True → value_of values (negate l) ≡ False
negate_false values l is = negate_false_by l.positive (values l.var) is

negate_free_by : (b : Bool) (v : Value) → cond b v (opposite_of v) ≡ Free → cond (not b) v (opposite_of v) ≡ Free
negate_free_by true True is = cc
negate_free_by true False is = cc
negate_free_by true Free is = refl
negate_free_by false True is = cc
negate_free_by false False is = cc
negate_free_by false Free is = refl

pub negate_free : (values : ℕ → Value) (l : Literal) → value_of values l ≡ Free → value_of values (negate l) ≡ Free
negate_free values l is = negate_free_by l.positive (values l.var) is

-- Of n literals, the values are quiet over the rows and make true all that stand before a place, and none from there
-- on; from there on one alone is kept.
pub analysis_empowers : (rows : List Row) (n : ℕ) (lit : ℕ → Literal) (role : ℕ → Role) (values : ℕ → Value)
    (start point : ℕ) → IsQuiet values rows
    → ((j : ℕ) → j < start → j < n → value_of values (lit j) ≡ True) → value_of values (lit point) ≡ Free
    → start ≤ point → point < n → role point ≡ Kept → ((j : ℕ) → start ≤ j → j < n → role j ≡ Kept → j ≡ point)
    → IsEmpowering rows (clause_below lit role n)
analysis_empowers rows n lit role values start point quiet set free from within kept alone = (
  values,
  negate (lit point),
  quiet,
  clause_held lit role n point within kept,
  negate_free values (lit point) free,
  others,
)
  where
    others : (other : Literal) → Contains (clause_below lit role n) other → other ≢ negate (lit point)
        → value_of values other ≡ False
    others other there differs =
        let at : IsKeptAt lit role n other = clause_holds lit role n other there in
        elim (cases_lt at.0 start) [
          | inl early ↦
              ap (λ (l : Literal). value_of values l) at.3 ∙ negate_false values (lit at.0) (set at.0 early at.1)
          | inr late ↦
              absurd (differs (at.3 ∙ ap (λ (j : ℕ). negate (lit j)) (alone at.0 late at.1 at.2)))
        ]
