-- Clauses, literal by literal: where each literal that came is false, the value of the next one says whether it, or its
-- negation, came before.
use Rattle.std.proofs.Common.{◌≡◌, ◌⊎◌, ℕ, ◌+◌, ◌<◌, ◌==◌, ◌&&◌, ◌||◌, Bool, true, false, not, cond}
use Rattle.std.proofs.Common.{if◌then◌else◌, List, [], ◌∷◌, ◌++◌, map, length, take, drop, get_or, inl, inr, refl}
use Rattle.std.proofs.Common.{arith, ap, sym, subst, ◌∙◌}
use Rattle.std.specs.Bool.{beq}
use Rattle.std.specs.List.{filter}
use Rattle.std.proofs.lemmas.Bool.Decides.{nat_tests}
use Rattle.std.proofs.lemmas.List.{append-nil, map-append, take-append-drop, take_more}
use Rattle.std.proofs.lemmas.List.Elements.{filter-append}
use Rattle.std.proofs.lemmas.List.Folds.{list_any-append}
use Rattle.std.proofs.lemmas.List.Sums.{fold_push}
use Rattle.rows.specs.Literals.{Literal, negate}
use Rattle.rows.specs.Cardinality.{unit}
use Rattle.rows.specs.Partials.{as_value, is_free, opposite_of, value_of}
use Rattle.rows.specs.Forcing.{all_set, set_true}
use Rattle.rows.specs.declared.partial.Value.{Value}
use Rattle.rows.specs.declared.partial.Value.TheVariants.{True, False, Free}
use Rattle.rows.specs.Sums.{is_same}
use Rattle.rows.proofs.LiteralLemmas.{negate-twice, same_literal}
use Rattle.refutation.specs.Following.{all_free, denied, distinct, has, has_opposites}

-- ---- the same literal

apart : (here : Bool) (s : Bool) → here && beq (not s) s ≡ false
apart true true = refl
apart true false = refl
apart false s = refl

-- a literal isn't its negation
negate-apart : (l : Literal) → is_same (negate l) l ≡ false
negate-apart l = apart (l.var == l.var) l.positive

beq_comm : (s t : Bool) → beq s t ≡ beq t s
beq_comm true true = refl
beq_comm true false = refl
beq_comm false true = refl
beq_comm false false = refl

eq_comm : (v w : ℕ) → (v == w) ≡ (w == v)
eq_comm v w = grind (arith, nat_tests)

same_comm : (l m : Literal) → is_same l m ≡ is_same m l
same_comm l m =
    ap (λ (b : Bool). b && beq l.positive m.positive) (eq_comm l.var m.var)
    ∙ ap (λ (b : Bool). m.var == l.var && b) (beq_comm l.positive m.positive)

negated_signs : (s t : Bool) → beq (not s) t ≡ beq (not t) s
negated_signs true true = refl
negated_signs true false = refl
negated_signs false true = refl
negated_signs false false = refl

negate-comm : (l m : Literal) → is_same (negate l) m ≡ is_same (negate m) l
negate-comm l m =
    ap (λ (b : Bool). b && beq (not l.positive) m.positive) (eq_comm l.var m.var)
    ∙ ap (λ (b : Bool). m.var == l.var && b) (negated_signs l.positive m.positive)

-- ---- what a literal's value says of the literals that came

-- one literal a more: the value of l, which is of its variable or not, and had the value x
true_step : (here : Bool) (x : Value) (s t : Bool)
    → (if s then cond (here && is_free x) (as_value (not t)) x
    else opposite_of (cond (here && is_free x) (as_value (not t)) x)) ≡ True
    → ((if s then x else opposite_of x) ≡ True) ⊎ (here && beq (not s) t ≡ true)
true_step false x s t is = inl is
true_step true True s t is = inl is
true_step true False s t is = inl is
true_step true Free true true is = absurd (cc)
true_step true Free true false is = inr refl
true_step true Free false true is = inr refl
true_step true Free false false is = absurd (cc)

false_step : (here : Bool) (x : Value) (s t : Bool)
    → (if s then cond (here && is_free x) (as_value (not t)) x
    else opposite_of (cond (here && is_free x) (as_value (not t)) x)) ≡ False
    → ((if s then x else opposite_of x) ≡ False) ⊎ (here && beq s t ≡ true)
false_step false x s t is = inl is
false_step true True s t is = inl is
false_step true False s t is = inl is
false_step true Free true true is = inr refl
false_step true Free true false is = absurd (cc)
false_step true Free false true is = absurd (cc)
false_step true Free false false is = inr refl

free_step : (here : Bool) (x : Value) (s t : Bool)
    → (if s then cond (here && is_free x) (as_value (not t)) x
    else opposite_of (cond (here && is_free x) (as_value (not t)) x)) ≡ Free
    → ((if s then x else opposite_of x) ≡ Free) × (here && beq s t ≡ false) × (here && beq (not s) t ≡ false)
free_step false x s t is = (is, refl, refl)
free_step true True true t is = absurd (cc)
free_step true True false t is = absurd (cc)
free_step true False true t is = absurd (cc)
free_step true False false t is = absurd (cc)
free_step true Free true true is = absurd (cc)
free_step true Free true false is = absurd (cc)
free_step true Free false true is = absurd (cc)
free_step true Free false false is = absurd (cc)

or_left : (a b : Bool) → a ≡ true → a || b ≡ true
or_left true b is = refl
or_left false b is = absurd (cc)

or_right : (a b : Bool) → b ≡ true → a || b ≡ true
or_right true b is = refl
or_right false b is = is

or_none : (a b : Bool) → a ≡ false → b ≡ false → a || b ≡ false
or_none true b p q = p
or_none false b p q = q

true_came : (clause : List Literal) (values : ℕ → Value) (l : Literal)
    → value_of (all_set values (map negate clause)) l ≡ True
    → (value_of values l ≡ True) ⊎ (has clause (negate l) ≡ true)
true_came [] values l is = inl is
true_came (a ∷ clause) values l is =
    elim (true_came clause (set_true values (negate a)) l is) [
      | inr later ↦ inr (or_right (is_same (negate l) a) (has clause (negate l)) later)
      | inl now ↦ elim (true_step (l.var == a.var) (values l.var) l.positive a.positive now) [
        | inl before ↦ inl before
        | inr same ↦ inr (or_left (is_same (negate l) a) (has clause (negate l)) same)
      ]
    ]

false_came : (clause : List Literal) (values : ℕ → Value) (l : Literal)
    → value_of (all_set values (map negate clause)) l ≡ False
    → (value_of values l ≡ False) ⊎ (has clause l ≡ true)
false_came [] values l is = inl is
false_came (a ∷ clause) values l is =
    elim (false_came clause (set_true values (negate a)) l is) [
      | inr later ↦ inr (or_right (is_same l a) (has clause l) later)
      | inl now ↦ elim (false_step (l.var == a.var) (values l.var) l.positive a.positive now) [
        | inl before ↦ inl before
        | inr same ↦ inr (or_left (is_same l a) (has clause l) same)
      ]
    ]

free_came : (clause : List Literal) (values : ℕ → Value) (l : Literal)
    → value_of (all_set values (map negate clause)) l ≡ Free
    → (value_of values l ≡ Free) × (has clause l ≡ false) × (has clause (negate l) ≡ false)
free_came [] values l is = (is, refl, refl)
free_came (a ∷ clause) values l is =
    let later = free_came clause (set_true values (negate a)) l is in
    let now = free_step (l.var == a.var) (values l.var) l.positive a.positive later.0 in (
      now.0,
      or_none (is_same l a) (has clause l) now.1 later.1,
      or_none (is_same (negate l) a) (has clause (negate l)) now.2 later.2,
    )

free_value : (s : Bool) → (if s then Free else opposite_of Free) ≡ Free
free_value true = refl
free_value false = refl

pub denied-true : (clause : List Literal) (l : Literal) → value_of (denied clause) l ≡ True
    → has clause (negate l) ≡ true
denied-true clause l is =
    elim (true_came clause all_free l is) [
      | inl at_first ↦ absurd (let e : Free ≡ True = sym (free_value l.positive) ∙ at_first in cc)
      | inr came ↦ came
    ]

pub denied-false : (clause : List Literal) (l : Literal) → value_of (denied clause) l ≡ False → has clause l ≡ true
denied-false clause l is =
    elim (false_came clause all_free l is) [
      | inl at_first ↦ absurd (let e : Free ≡ False = sym (free_value l.positive) ∙ at_first in cc)
      | inr came ↦ came
    ]

pub denied-free : (clause : List Literal) (l : Literal) → value_of (denied clause) l ≡ Free
    → (has clause l ≡ false) × (has clause (negate l) ≡ false)
denied-free clause l is = let came = free_came clause all_free l is in (came.1, came.2)

-- ---- one literal more

pub denied-push : (clause : List Literal) (l : Literal)
    → denied (clause ++ l ∷ []) ≡ set_true (denied clause) (negate l)
denied-push clause l =
    ap (λ (literals : List Literal). all_set all_free literals) (map-append negate clause (l ∷ []))
    ∙ fold_push set_true all_free (map negate clause) (negate l)

or_swap : (o m r n : Bool) → (o || (m || false)) || (r || n) ≡ (o || r) || (m || n)
or_swap true m r n = refl
or_swap false true true n = refl
or_swap false true false n = refl
or_swap false false r n = refl

has_opposites-push : (clause : List Literal) (l : Literal)
    → has_opposites (clause ++ l ∷ []) ≡ has_opposites clause || has clause (negate l)
has_opposites-push [] l = refl
has_opposites-push (a ∷ clause) l =
    ap (λ (b : Bool). b || has_opposites (clause ++ l ∷ [])) (list_any-append (is_same (negate a)) clause (l ∷ []))
    ∙ (ap (λ (b : Bool). (has clause (negate a) || (is_same (negate a) l || false)) || b)
    (has_opposites-push clause l)
    ∙ (or_swap (has clause (negate a)) (is_same (negate a) l) (has_opposites clause) (has clause (negate l))
    ∙ ap (λ (b : Bool). (has clause (negate a) || has_opposites clause) || (b || has clause (negate l)))
    (negate-comm a l)))

-- the literal that comes is dropped by what drops an equal one
kept_if : (came same : Bool) (l : Literal)
    → cond (not same) (cond came [] (l ∷ [])) (cond came [] []) ≡ cond (same || came) [] (l ∷ [])
kept_if true true l = refl
kept_if true false l = refl
kept_if false true l = refl
kept_if false false l = refl

none_either : (b : Bool) (none : List Literal) → none ≡ cond b none none
none_either true none = refl
none_either false none = refl

filter-if : (keep : Literal → Bool) (came : Bool) (l : Literal)
    → filter keep (cond came [] (l ∷ [])) ≡ cond (keep l) (cond came [] (l ∷ [])) (cond came [] [])
filter-if keep true l = none_either (keep l) []
filter-if keep false l = refl

-- a literal more is distinct unless it came before
distinct-push : (clause : List Literal) (l : Literal)
    → distinct (clause ++ l ∷ []) ≡ distinct clause ++ cond (has clause l) [] (l ∷ [])
distinct-push [] l = refl
distinct-push (a ∷ clause) l =
    let keep = λ (m : Literal). not (is_same a m) in
    let last : List Literal = cond (has clause l) [] (l ∷ []) in
    let filtered : filter keep last ≡ cond (is_same l a || has clause l) [] (l ∷ []) =
    filter-if keep (has clause l) l
    ∙ (kept_if (has clause l) (is_same a l) l
    ∙ ap (λ (b : Bool). cond (b || has clause l) [] (l ∷ [])) (same_comm a l)) in
    ap (λ (ls : List Literal). a ∷ filter keep ls) (distinct-push clause l)
    ∙ (ap (λ (ls : List Literal). a ∷ ls) (filter-append keep (distinct clause) last)
    ∙ ap (λ (ls : List Literal). a ∷ (filter keep (distinct clause) ++ ls)) filtered)

distinct-came : (clause : List Literal) (l : Literal) → has clause l ≡ true
    → distinct (clause ++ l ∷ []) ≡ distinct clause
distinct-came clause l came =
    distinct-push clause l
    ∙ (ap (λ (b : Bool). distinct clause ++ cond b [] (l ∷ [])) came ∙ append-nil (distinct clause))

distinct-fresh : (clause : List Literal) (l : Literal) → has clause l ≡ false
    → distinct (clause ++ l ∷ []) ≡ distinct clause ++ l ∷ []
distinct-fresh clause l fresh =
    distinct-push clause l ∙ ap (λ (b : Bool). distinct clause ++ cond b [] (l ∷ [])) fresh

-- ---- no opposites

one_sign : (same opposed came negation_came of_first others : Bool) → (same ≡ true → opposed ≡ false)
    → (same ≡ true → negation_came ≡ of_first) → (opposed ≡ true → came ≡ of_first)
    → (others ≡ false → came ≡ true → negation_came ≡ false) → of_first || others ≡ false → same || came ≡ true
    → opposed || negation_came ≡ false
one_sign same opposed came negation_came true others p q r induction plain is = absurd (cc)
one_sign true opposed came negation_came false others p q r induction plain is =
    or_none opposed negation_came (p refl) (q refl)
one_sign false false came negation_came false others p q r induction plain is = induction plain is
one_sign false true came negation_came false others p q r induction plain is =
    absurd (let e : came ≡ false = r refl in cc)

-- where a clause has no opposites, a literal and its negation aren't both in it
not_both : (clause : List Literal) (l : Literal) → has_opposites clause ≡ false → has clause l ≡ true
    → has clause (negate l) ≡ false
not_both [] l plain came = refl
not_both (a ∷ clause) l plain came =
    one_sign (is_same l a) (is_same (negate l) a) (has clause l) (has clause (negate l)) (has clause (negate a))
    (has_opposites clause)
    (λ same. ap (λ (m : Literal). is_same (negate m) a) (same_literal l a same) ∙ negate-apart a)
    (λ same. ap (λ (m : Literal). has clause (negate m)) (same_literal l a same))
    (λ opposed.
    let is : l ≡ negate a =
    sym (negate-twice l) ∙ ap (λ (m : Literal). negate m) (same_literal (negate l) a opposed) in
    ap (λ (m : Literal). has clause m) is)
    (not_both clause l) plain came

front_step : (came added others all : Bool) → (others ≡ true → all ≡ true) → came || others ≡ true
    → (came || added) || all ≡ true
front_step true added others all more is = refl
front_step false added others all more is = or_right added all (more is)

has_opposites-append : (front back : List Literal) → has_opposites front ≡ true
    → has_opposites (front ++ back) ≡ true
has_opposites-append [] back is = absurd (cc)
has_opposites-append (a ∷ front) back is =
    ap (λ (b : Bool). b || has_opposites (front ++ back)) (list_any-append (is_same (negate a)) front back)
    ∙ front_step (has front (negate a)) (has back (negate a)) (has_opposites front)
    (has_opposites (front ++ back)) (has_opposites-append front back) is

has_opposites-front : (clause : List Literal) (n : ℕ) → has_opposites (take n clause) ≡ true
    → has_opposites clause ≡ true
has_opposites-front clause n is =
    subst (λ (ls : List Literal). has_opposites ls ≡ true) (take-append-drop n clause)
    (has_opposites-append (take n clause) (drop n clause) is)

-- ---- a clause as far as a walk has come

next_is : (clause : List Literal) (i : ℕ) (l : Literal) → i < length clause → l ≡ get_or clause i l
    → take (i + 1) clause ≡ take i clause ++ l ∷ []
next_is clause i l there is =
    take_more clause i l there ∙ ap (λ (m : Literal). take i clause ++ m ∷ []) (sym is)

-- the next literal is true: its negation came before
pub opposed_next : (clause : List Literal) (i : ℕ) (l : Literal) (partial : ℕ → Value) → i < length clause
    → l ≡ get_or clause i l → partial ≡ denied (take i clause) → value_of partial l ≡ True
    → has_opposites clause ≡ true
opposed_next clause i l partial there is denies value =
    has_opposites-front clause (i + 1)
    (ap (λ (ls : List Literal). has_opposites ls) (next_is clause i l there is)
    ∙ (has_opposites-push (take i clause) l
    ∙ or_right (has_opposites (take i clause)) (has (take i clause) (negate l))
    (denied-true (take i clause) l
    (ap (λ (p : ℕ → Value). value_of p l) (sym denies) ∙ value))))

-- the next literal is false: it came before
pub came_next : (clause : List Literal) (i : ℕ) (l : Literal) (partial : ℕ → Value) → i < length clause
    → l ≡ get_or clause i l → partial ≡ denied (take i clause) → has_opposites (take i clause) ≡ false
    → value_of partial l ≡ False
    → (has_opposites (take (i + 1) clause) ≡ false) × (distinct (take (i + 1) clause) ≡ distinct (take i clause))
came_next clause i l partial there is denies plain value =
    let came : has (take i clause) l ≡ true =
    denied-false (take i clause) l (ap (λ (p : ℕ → Value). value_of p l) (sym denies) ∙ value) in (
      ap (λ (ls : List Literal). has_opposites ls) (next_is clause i l there is)
          ∙ (has_opposites-push (take i clause) l
          ∙ or_none (has_opposites (take i clause)) (has (take i clause) (negate l)) plain
          (not_both (take i clause) l plain came)),
      ap (λ (ls : List Literal). distinct ls) (next_is clause i l there is) ∙ distinct-came (take i clause) l came,
    )

-- the next literal is free: neither it nor its negation came before
pub fresh_next : (clause : List Literal) (i : ℕ) (l : Literal) (partial : ℕ → Value) → i < length clause
    → l ≡ get_or clause i l → partial ≡ denied (take i clause) → has_opposites (take i clause) ≡ false
    → value_of partial l ≡ Free
    → (has_opposites (take (i + 1) clause) ≡ false)
    × (map unit (distinct (take (i + 1) clause)) ≡ map unit (distinct (take i clause)) ++ unit l ∷ [])
fresh_next clause i l partial there is denies plain value =
    let fresh : (has (take i clause) l ≡ false) × (has (take i clause) (negate l) ≡ false) =
    denied-free (take i clause) l (ap (λ (p : ℕ → Value). value_of p l) (sym denies) ∙ value) in (
      ap (λ (ls : List Literal). has_opposites ls) (next_is clause i l there is)
          ∙ (has_opposites-push (take i clause) l
          ∙ or_none (has_opposites (take i clause)) (has (take i clause) (negate l)) plain fresh.1),
      ap (λ (ls : List Literal). map unit (distinct ls)) (next_is clause i l there is)
          ∙ (ap (λ (ls : List Literal). map unit ls) (distinct-fresh (take i clause) l fresh.0)
          ∙ map-append unit (distinct (take i clause)) (l ∷ [])),
    )

pub denied_next : (clause : List Literal) (i : ℕ) (l : Literal) (partial next : ℕ → Value) → i < length clause
    → l ≡ get_or clause i l → partial ≡ denied (take i clause) → next ≡ set_true partial (negate l)
    → next ≡ denied (take (i + 1) clause)
denied_next clause i l partial next there is denies step =
    step
    ∙ (ap (λ (p : ℕ → Value). set_true p (negate l)) denies
    ∙ (sym (denied-push (take i clause) l)
    ∙ ap (λ (ls : List Literal). denied ls) (sym (next_is clause i l there is))))
