-- Literals that are made true, one after the other.
use Rattle.std.proofs.Common.{◌≡◌, ◌≢◌, ℕ, zero, suc, ◌+◌, ◌-◌, ◌<◌, ◌≤◌, ◌==◌, Bool, true, false, ◌&&◌, nat_lt, cond, List, [], ◌∷◌, ◌++◌, length, get_or, replicate, take, map}
use Rattle.std.proofs.Common.{refl, inl, inr, arith, ap, sym, subst, ◌∙◌, get_or-set_same, get_or-set_other}
use Rattle.std.specs.Prelude.{Contains, slice_set}
use Rattle.std.specs.List.{All, filter, fold}
use Rattle.std.proofs.lemmas.Bool.{cases_eq, cases_lt, eq-eqb, false≢true, ne_eqb}
use Rattle.std.proofs.lemmas.List.{append-nil, get_or_past, get_or-replicate, length-replicate, length-set, map-append}
use Rattle.std.proofs.lemmas.List.Elements.{All-nil, All-push, All-weaker, Contains-append_left, Contains-push, filter_more}
use Rattle.std.proofs.lemmas.List.Sums.{fold_push}
use mathlib.Core.Path.{fun_ext}
use Rattle.rows.specs.Forcing.{all_set, set_true}
use Rattle.rows.specs.Literals.{Literal}
use Rattle.rows.specs.Partials.{as_value, is_forced, is_free, opposite_of, reach, value_of}
use Rattle.rows.specs.Trails.{IsListed, set_if}
use Rattle.rows.specs.Values.{valued}
use Rattle.rows.specs.declared.lit.Term.{Term}
use Rattle.rows.specs.declared.partial.Value.{Value}
use Rattle.rows.specs.declared.partial.Value.TheVariants.{True, False, Free}

-- ---- values in a list

-- the value of a variable, from 1
pub valued-at : (values : List Value) (v : ℕ) → 1 ≤ v → valued values v ≡ get_or values (v - 1) Free
valued-at values zero from_one = absurd (omega arith)
valued-at values (suc v) from_one =
    let same : v ≡ suc v - 1 = omega arith in
    ap (λ (k : ℕ). get_or values k Free) same

-- another variable keeps its value
pub valued-set_other : (values : List Value) (v w : ℕ) (x : Value) → 1 ≤ v → w ≢ v → valued (slice_set values (v - 1) x) w ≡ valued values w
valued-set_other values v zero x from_one other = refl
valued-set_other values v (suc w) x from_one other =
    let apart : w ≢ v - 1 = omega arith in
    get_or-set_other values (v - 1) w x Free apart

pub valued-set_same : (values : List Value) (v : ℕ) (x : Value) → 1 ≤ v → v ≤ length values → valued (slice_set values (v - 1) x) v ≡ x
valued-set_same values v x from_one within =
    let there : v - 1 < length values = omega arith in
    valued-at (slice_set values (v - 1) x) v from_one ∙ get_or-set_same values (v - 1) x Free there

-- ---- one literal

-- a literal is free where its variable is
free_by_sign : (v : Value) (positive : Bool) → is_free (cond positive v (opposite_of v)) ≡ is_free v
free_by_sign v true = refl
free_by_sign True false = refl
free_by_sign False false = refl
free_by_sign Free false = refl

pub is_free-value_of : (values : ℕ → Value) (l : Literal) → is_free (value_of values l) ≡ is_free (values l.var)
is_free-value_of values l = free_by_sign (values l.var) l.positive

cond-and_false : (b free : Bool) (x y : Value) → free ≡ false → cond (b && free) x y ≡ y
cond-and_false true true x y taken = absurd (false≢true (sym taken))
cond-and_false true false x y taken = refl
cond-and_false false free x y taken = refl

-- a variable that isn't free keeps its value
set_true-taken : (values : ℕ → Value) (l : Literal) (v : ℕ) → is_free (values v) ≡ false → set_true values l v ≡ values v
set_true-taken values l v taken = cond-and_false (v == l.var) (is_free (values v)) (as_value l.positive) (values v) taken

-- another variable keeps its value
pub set_true-other : (values : ℕ → Value) (l : Literal) (v : ℕ) → v ≢ l.var → set_true values l v ≡ values v
set_true-other values l v other = ap (λ (b : Bool). cond (b && is_free (values v)) (as_value l.positive) (values v)) (ne_eqb v l.var other)

pub set_true-same : (values : ℕ → Value) (l : Literal) → is_free (values l.var) ≡ true → set_true values l l.var ≡ as_value l.positive
set_true-same values l free =
    ap (λ (b : Bool). cond (b && is_free (values l.var)) (as_value l.positive) (values l.var)) (eq-eqb l.var l.var refl)
    ∙ ap (λ (f : Bool). cond f (as_value l.positive) (values l.var)) free

kept_at : (values : ℕ → Value) (l : Literal) → is_free (values l.var) ≡ false → (v : ℕ) → set_true values l v ≡ values v
kept_at values l taken v =
    elim (cases_eq v l.var) [
      | inl same ↦ set_true-taken values l v (ap (λ (w : ℕ). is_free (values w)) same ∙ taken)
      | inr other ↦ set_true-other values l v other
    ]

-- a literal that isn't free changes nothing
pub set_true-kept : (values : ℕ → Value) (l : Literal) → is_free (value_of values l) ≡ false → set_true values l ≡ values
set_true-kept values l taken = fun_ext (kept_at values l (sym (is_free-value_of values l) ∙ taken))

set_at : (values : List Value) (l : Literal) → 1 ≤ l.var → l.var ≤ length values → is_free (valued values l.var) ≡ true → (v : ℕ) → valued (slice_set values (l.var - 1) (as_value l.positive)) v ≡ set_true (valued values) l v
set_at values l from_one within free v =
    elim (cases_eq v l.var) [
      | inl same ↦
          ap (λ (w : ℕ). valued (slice_set values (l.var - 1) (as_value l.positive)) w) same
          ∙ valued-set_same values l.var (as_value l.positive) from_one within
          ∙ sym (set_true-same (valued values) l free)
          ∙ ap (λ (w : ℕ). set_true (valued values) l w) (sym same)
      | inr other ↦
          valued-set_other values l.var v (as_value l.positive) from_one other
          ∙ sym (set_true-other (valued values) l v other)
    ]

-- a free literal is made true in a list by a write
pub valued-set : (values : List Value) (l : Literal) → 1 ≤ l.var → l.var ≤ length values → is_free (value_of (valued values) l) ≡ true → valued (slice_set values (l.var - 1) (as_value l.positive)) ≡ set_true (valued values) l
valued-set values l from_one within free = fun_ext (set_at values l from_one within (sym (is_free-value_of (valued values) l) ∙ free))

-- the variable of a literal that is made true joins the trail
pub IsListed-push : (values : List Value) (trail : List ℕ) (v : ℕ) (x : Value) → 1 ≤ v → v ≤ length values → IsListed values trail → IsListed (slice_set values (v - 1) x) (trail ++ v ∷ [])
IsListed-push values trail v x from_one within listed = record {
  set = λ w taken. elim (cases_eq w v) [
    | inl same ↦ subst (λ (u : ℕ). Contains (trail ++ v ∷ []) u) (sym same) (Contains-push trail v)
    | inr other ↦ Contains-append_left trail (v ∷ []) w (listed.set w (λ free. taken (valued-set_other values v w x from_one other ∙ free)))
  ];
  within = All-push (λ w. (1 ≤ w) × (w ≤ length (slice_set values (v - 1) x))) trail v
      (All-weaker (λ w. (1 ≤ w) × (w ≤ length values)) (λ w. (1 ≤ w) × (w ≤ length (slice_set values (v - 1) x)))
      (λ w is. (is.0, omega (arith, is.1, length-set values (v - 1) x))) trail listed.within)
      (from_one, omega (arith, length-set values (v - 1) x));
}

-- ---- the literals that a row forces

all_set-taken : (values : ℕ → Value) (literals : List Literal) (v : ℕ) → is_free (values v) ≡ false → all_set values literals v ≡ values v
all_set-taken values [] v taken = refl
all_set-taken values (l ∷ literals) v taken =
    let same = set_true-taken values l v taken in
    all_set-taken (set_true values l) literals v (ap is_free same ∙ taken) ∙ same

-- the literals that a row forces among its first terms
abbrev pub forced_so_far : (ℕ → Value) → List Term → ℕ → List Term → ℕ → Value
forced_so_far values terms degree front = all_set values (map (λ t. t.lit) (filter (is_forced values terms degree) front))

one_more : (values : ℕ → Value) (front : List Term) (t : Term) (free needed : Bool) → is_free (value_of values t.lit) ≡ free
    → set_if needed (all_set values (map (λ t. t.lit) front)) t.lit ≡ all_set values (map (λ t. t.lit) (front ++ cond (free && needed) (t ∷ []) []))
one_more values front t true true is =
    sym (ap (λ (ls : List Literal). all_set values ls) (map-append (λ (t : Term). t.lit) front (t ∷ []))
    ∙ fold_push set_true values (map (λ t. t.lit) front) t.lit)
one_more values front t false true is =
    set_true-kept (all_set values (map (λ t. t.lit) front)) t.lit
    (is_free-value_of (all_set values (map (λ t. t.lit) front)) t.lit
    ∙ ap is_free (all_set-taken values (map (λ t. t.lit) front) t.lit.var (sym (is_free-value_of values t.lit) ∙ is))
    ∙ sym (is_free-value_of values t.lit) ∙ is)
    ∙ ap (λ (ts : List Term). all_set values (map (λ t. t.lit) ts)) (sym (append-nil front))
one_more values front t true false is = ap (λ (ts : List Term). all_set values (map (λ t. t.lit) ts)) (sym (append-nil front))
one_more values front t false false is = ap (λ (ts : List Term). all_set values (map (λ t. t.lit) ts)) (sym (append-nil front))

-- a term more
pub forced_so_far-more : (values : ℕ → Value) (terms : List Term) (degree k : ℕ) (d : Term) → k < length terms
    → set_if (nat_lt (reach values terms) (degree + (get_or terms k d).coef)) (forced_so_far values terms degree (take k terms)) (get_or terms k d).lit
    ≡ forced_so_far values terms degree (take (k + 1) terms)
forced_so_far-more values terms degree k d there =
    one_more values (filter (is_forced values terms degree) (take k terms)) (get_or terms k d) (is_free (value_of values (get_or terms k d).lit)) (nat_lt (reach values terms) (degree + (get_or terms k d).coef)) refl
    ∙ ap (λ (ts : List Term). all_set values (map (λ t. t.lit) ts)) (sym (filter_more (is_forced values terms degree) terms k d there))

-- a term more, as a loop meets it
pub force_step : (values : ℕ → Value) (terms : List Term) (degree reached k : ℕ) (t : Term) (now next : ℕ → Value) → k < length terms → t ≡ get_or terms k t → reached ≡ reach values terms
    → now ≡ forced_so_far values terms degree (take k terms) → next ≡ set_if (nat_lt reached (degree + t.coef)) now t.lit → next ≡ forced_so_far values terms degree (take (k + 1) terms)
force_step values terms degree reached k t now next there is counted so_far is_next =
    is_next
    ∙ ap (λ (r : ℕ). set_if (nat_lt r (degree + t.coef)) now t.lit) counted
    ∙ ap (λ (w : ℕ → Value). set_if (nat_lt (reach values terms) (degree + t.coef)) w t.lit) so_far
    ∙ ap (λ (u : Term). set_if (nat_lt (reach values terms) (degree + u.coef)) (forced_so_far values terms degree (take k terms)) u.lit) is
    ∙ forced_so_far-more values terms degree k t there

-- ---- nothing set

free_at : (n v : ℕ) → valued (replicate n Free) v ≡ Free
free_at n zero = refl
free_at n (suc v) =
    elim (cases_lt v n) [
      | inl there ↦ get_or-replicate n v Free Free there
      | inr past ↦ get_or_past (replicate n Free) v Free (omega (arith, length-replicate n Free))
    ]

-- no variable has a value
pub valued-none : (n : ℕ) → valued (replicate n Free) ≡ (λ v. Free)
valued-none n = fun_ext (free_at n)

pub IsListed-none : (n : ℕ) → IsListed (replicate n Free) []
IsListed-none n = record {
  set = λ v taken. absurd (taken (free_at n v));
  within = All-nil (λ v. (1 ≤ v) × (v ≤ length (replicate n Free)));
}
