-- Marks, term by term.
use Rattle.std.proofs.Common.{◌≡◌, ◌≢◌, ℕ, zero, suc, ◌+◌, ◌<◌, ◌≤◌, Bool, true, false, not, cond, List, length, get_or}
use Rattle.std.proofs.Common.{refl, inl, inr, arith, ap, sym, subst, ◌∙◌, get_or-set_same, get_or-set_other}
use Rattle.std.specs.Prelude.{◌⊎◌, slice_set}
use Rattle.std.proofs.lemmas.Bool.{cases_eq, cases_lt}
use Rattle.std.proofs.lemmas.List.{get_or_default, length-set, take_all}
use Rattle.rows.specs.Forcing.{set_true}
use Rattle.rows.specs.Literals.{Literal, negate}
use Rattle.rows.specs.Partials.{opposite_of, value_of}
use Rattle.rows.specs.declared.lit.Term.{Term}
use Rattle.rows.specs.declared.partial.Value.{Value}
use Rattle.rows.specs.declared.partial.Value.TheVariants.{False, Free}
use Rattle.rows.proofs.LiteralLemmas.{negate-twice}
use Rattle.propagate.specs.Trails.{EachEntry, IsNew, values_of}
use Rattle.propagate.specs.declared.entry.Entry.{Entry}
use Rattle.propagate.proofs.ValueLemmas.{value_of-other, value_of-same}
use Rattle.propagate.proofs.ClauseLemmas.{free_not_false, true_not_false}
use Rattle.clause_search.specs.Analysis.{IsMarked}
use Rattle.clause_search.specs.Marks.{Marks, role_at}
use Rattle.clause_search.specs.Trails.{before, lit_at}
use Rattle.clause_search.specs.declared.role.Role.{Role}
use Rattle.clause_search.specs.declared.role.Role.TheVariants.{Apart, Kept, Used}
use Rattle.clause_search.proofs.EmpoweringLemmas.{negate_false}
use Rattle.clause_search.proofs.TrailLaws.{before-more, trail_free_at, trail_fresh, trail_true}

-- ---- where a false literal's negation stands

other_sign : (l m : Literal) (p q : Bool) → l.positive ≡ p → m.positive ≡ q → l.var ≡ m.var → (p ≡ q → ⊥) → m ≡ negate l
other_sign l m true true l_is m_is same differ = absurd (differ refl)
other_sign l m false false l_is m_is same differ = absurd (differ refl)
other_sign l m true false l_is m_is same differ =
    ap (λ (v : ℕ). let x : Literal = record { var = v; positive = m.positive } in x) (sym same)
    ∙ ap (λ (s : Bool). let x : Literal = record { var = l.var; positive = s } in x) (m_is ∙ ap not (sym l_is))
other_sign l m false true l_is m_is same differ =
    ap (λ (v : ℕ). let x : Literal = record { var = v; positive = m.positive } in x) (sym same)
    ∙ ap (λ (s : Bool). let x : Literal = record { var = l.var; positive = s } in x) (m_is ∙ ap not (sym l_is))

same_lit : (l m : Literal) → l.var ≡ m.var → l.positive ≡ m.positive → l ≡ m
same_lit l m var sign =
    ap (λ (v : ℕ). let x : Literal = record { var = v; positive = l.positive } in x) var
    ∙ ap (λ (s : Bool). let x : Literal = record { var = m.var; positive = s } in x) sign

-- a literal that became false by the literal made true last is its negation
false_last : (values : ℕ → Value) (m l : Literal) → value_of values m
    ≡ Free → l.var ≡ m.var → value_of (set_true values m) l ≡ False → m ≡ negate l
false_last values m l free same is =
    other_sign l m l.positive m.positive refl refl same
    (λ sign. true_not_false
    (sym (value_of-same values m free) ∙ ap (λ (x : Literal). value_of (set_true values m) x)
    (sym (same_lit l m same sign)) ∙ is))

none_false_by : (b : Bool) → cond b Free (opposite_of Free) ≡ Free
none_false_by true = refl
none_false_by false = refl

-- a place before k at which the negation stands
abbrev pub StandsBefore : List Entry → ℕ → Literal → Type 0
StandsBefore es k l = (j : ℕ) × (j < k) × (lit_at es j ≡ negate l)

pub false_stands : (vars : ℕ) (es : List Entry) (k : ℕ) (l : Literal) → EachEntry (IsNew vars) es → k ≤ length es
    → value_of (before es k) l ≡ False → StandsBefore es k l
false_stands vars es zero l each within is = absurd (free_not_false (sym (none_false_by l.positive) ∙ is))
false_stands vars es (suc k) l each within is =
    let there : k < length es = omega (arith, within) in
    let one : k + 1 ≡ suc k = omega arith in
    let now : value_of (set_true (before es k) (lit_at es k)) l ≡ False =
    ap (λ (w : ℕ → Value). value_of w l) (sym (before-more es k there) ∙ ap (λ (n : ℕ). before es n) one) ∙ is in
    elim (cases_eq l.var (lit_at es k).var) [
      | inl same ↦
          (k, omega arith, false_last (before es k) (lit_at es k) l (trail_free_at vars es k each there) same now)
      | inr other ↦
          let earlier : StandsBefore es k l =
          false_stands vars es k l each (omega (arith, within))
          (sym (value_of-other (before es k) (lit_at es k) l other) ∙ now) in
          (earlier.0, omega (arith, earlier.1), earlier.2)
    ]

-- where the negation stands the literal is false behind it
pub stands_false : (vars : ℕ) (es : List Entry) (k : ℕ) (l : Literal) → EachEntry (IsNew vars) es → k ≤ length es
    → StandsBefore es k l → value_of (before es k) l ≡ False
stands_false vars es k l each within stands =
    subst (λ (x : Literal). value_of (before es k) x ≡ False) (ap negate stands.2 ∙ negate-twice l)
    (negate_false (before es k) (lit_at es stands.0) (trail_true vars es stands.0 k each stands.1 within))

-- no other place than that of its negation has a literal's variable
same_place : (vars : ℕ) (es : List Entry) (k p : ℕ) (l : Literal) → EachEntry (IsNew vars) es → k ≤ length es
    → p < length es → (lit_at es p).var ≡ l.var → (stands : StandsBefore es k l) → p ≡ stands.0
same_place vars es k p l each within inside same stands =
    let there : (lit_at es stands.0).var ≡ l.var = ap (λ (x : Literal). x.var) stands.2 in
    elim (cases_lt p stands.0) [
      | inl before ↦
          absurd (trail_fresh vars es each p stands.0 before (omega (arith, stands.1, within)) (same ∙ sym there))
      | inr past ↦ elim (cases_eq p stands.0) [
        | inl here ↦ here
        | inr other ↦
            absurd (trail_fresh vars es each stands.0 p (omega (arith, past, other)) inside (there ∙ sym same))
      ]
    ]

-- ---- roles

pub used_not_kept : Kept ≡ Used → ⊥
used_not_kept same = cc

pub kept_not_apart : Kept ≡ Apart → ⊥
kept_not_apart same = cc

pub role_set : (roles : List Role) (p : ℕ) (r : Role) → p < length roles → role_at (slice_set roles p r) p ≡ r
role_set roles p r within = get_or-set_same roles p r Apart within

pub role_other : (roles : List Role) (p j : ℕ) (r : Role) → j ≢ p → role_at (slice_set roles p r) j ≡ role_at roles j
role_other roles p j r other = get_or-set_other roles p j r Apart other

only_kept : (r : Role) → r ≢ Apart → r ≢ Used → Kept ≡ r
only_kept Apart some unused = absurd (some refl)
only_kept Used some unused = absurd (unused refl)
only_kept Kept some unused = refl

pub Marks-none : (es : List Entry) (terms : List Term) (limit start lowest : ℕ) (roles : List Role)
    → ((j : ℕ) → j < limit → role_at roles j ≢ Used)
    → Marks es terms 0 limit start lowest roles roles lowest
Marks-none es terms limit start lowest roles unused = record {
  same_length = refl;
  keeps = λ j some. refl;
  above = λ j past. refl;
  unused = unused;
  marked = λ i d below is. absurd (omega (arith, below));
  low = omega arith;
  late = λ j from below. refl;
  at = inl refl;
}

-- what holds of the terms up to k, and of the one at k
below_one : (terms : List Term) (k : ℕ) (t : Term) (P : Term → Type 0) → t ≡ get_or terms k t → k < length terms
    → ((i : ℕ) (d : Term) → i < k → P (get_or terms i d)) → P t → (i : ℕ) (d : Term) → i < k + 1 → P (get_or terms i d)
below_one terms k t P is within front here = λ i d below.
    elim (cases_lt i k) [
      | inl before ↦ front i d before
      | inr past ↦
          let same : k ≡ i = omega (arith, below, past) in
          subst P (is ∙ get_or_default terms k t d within ∙ ap (λ (j : ℕ). get_or terms j d) same) here
    ]

-- a term whose literal wasn't false there
pub Marks-pass : (es : List Entry) (terms : List Term) (k limit start lowest now : ℕ) (t : Term) (old mid : List Role)
    → Marks es terms k limit start lowest old mid now
    → k < length terms → t ≡ get_or terms k t → value_of (before es limit) t.lit ≢ False
    → Marks es terms (k + 1) limit start lowest old mid now
Marks-pass es terms k limit start lowest now t old mid marks within is not_false = record {
  same_length = marks.same_length;
  keeps = marks.keeps;
  above = marks.above;
  unused = marks.unused;
  marked =
      below_one terms k t (λ u. value_of (before es limit) u.lit ≡ False → IsMarked (lit_at es) (role_at mid) limit
      u.lit) is within marks.marked
      (λ is_false. absurd (not_false is_false));
  low = marks.low;
  late = marks.late;
  at = marks.at;
}

-- a term whose negation stands at a place
pub Marks-mark : (es : List Entry) (terms : List Term) (k limit start lowest now next p : ℕ) (t : Term)
    (old mid new : List Role) → Marks es terms k limit start lowest old mid now
    → k < length terms → t ≡ get_or terms k t → p < limit → p < length mid → lit_at es p ≡ negate t.lit
    → new ≡ slice_set mid p Kept
    → (start ≤ p → p < now → next ≡ p) → ((start ≤ p → now ≤ p) → next ≡ now)
    → Marks es terms (k + 1) limit start lowest old new next
Marks-mark es terms k limit start lowest now next p t old mid new marks within is early inside stands set lower same =
    subst (λ (roles : List Role). Marks es terms (k + 1) limit start lowest old roles next) (sym set) (record {
      same_length = length-set mid p Kept ∙ marks.same_length;
      keeps = λ j some. elim (cases_eq j p) [
        | inl here ↦
            let kept_mid : role_at mid j ≡ role_at old j = marks.keeps j some in
            ap (λ (i : ℕ). role_at (slice_set mid p Kept) i) here ∙ role_set mid p Kept inside
            ∙ only_kept (role_at mid j) (λ apart. some (sym kept_mid ∙ apart))
            (marks.unused j (omega (arith, here, early)))
            ∙ kept_mid
        | inr other ↦ role_other mid p j Kept other ∙ marks.keeps j some
      ];
      above = λ j past. role_other mid p j Kept (λ here. omega (arith, here, past, early)) ∙ marks.above j past;
      unused = λ j below. elim (cases_eq j p) [
        | inl here ↦
            λ used. used_not_kept
            (sym (ap (λ (i : ℕ). role_at (slice_set mid p Kept) i) here ∙ role_set mid p Kept inside) ∙ used)
        | inr other ↦ λ used. marks.unused j below (sym (role_other mid p j Kept other) ∙ used)
      ];
      marked =
          below_one terms k t (λ u. value_of (before es limit) u.lit
          ≡ False → IsMarked (lit_at es) (role_at (slice_set mid p Kept)) limit u.lit) is within
          (λ i d below is_false. still (get_or terms i d).lit (marks.marked i d below is_false))
          (λ is_false. (p, early, (λ apart. kept_not_apart (sym (role_set mid p Kept inside) ∙ apart)), stands));
      low = omega (arith, marks.low, next_low);
      late =
          λ j from below. role_other mid p j Kept (λ here. not_here j from below here)
          ∙ marks.late j from (omega (arith, below, next_low));
      at = where_next;
    })
  where
    still : (l : Literal) → IsMarked (lit_at es) (role_at mid) limit l
        → IsMarked (lit_at es) (role_at (slice_set mid p Kept)) limit l
    still l mark = (mark.0, mark.1, part, mark.3)
      where
        part : role_at (slice_set mid p Kept) mark.0 ≢ Apart
        part apart =
            elim (cases_eq mark.0 p) [
              | inl here ↦
                  kept_not_apart (sym (ap (λ (i : ℕ). role_at (slice_set mid p Kept) i) here
                  ∙ role_set mid p Kept inside) ∙ apart)
              | inr other ↦ mark.2 (sym (role_other mid p mark.0 Kept other) ∙ apart)
            ]

    by_case : (start ≤ p) × (p < now) × (next ≡ p) ⊎ (start ≤ p → now ≤ p) × (next ≡ now)
    by_case =
        elim (cases_lt p start) [
          | inl early_on ↦
              let none : start ≤ p → now ≤ p = λ from. absurd (omega (arith, from, early_on)) in inr (none, same none)
          | inr from ↦ elim (cases_lt p now) [
            | inl below ↦ inl (from, below, lower from below)
            | inr past ↦ let none : start ≤ p → now ≤ p = λ f. past in inr (none, same none)
          ]
        ]

    next_low : next ≤ now
    next_low = elim by_case [ inl low ↦ omega (arith, low.1, low.2) | inr kept ↦ omega (arith, kept.1) ]

    not_here : (j : ℕ) → start ≤ j → j < next → j ≡ p → ⊥
    not_here j from below here =
        elim by_case [
          | inl low ↦ absurd (omega (arith, low.2, below, here))
          | inr kept ↦ absurd (omega (arith, kept.0 (omega (arith, from, here)), kept.1, below, here))
        ]

    where_next : (next ≡ lowest) ⊎ ((start ≤ next) × (next < limit) × (role_at (slice_set mid p Kept) next ≡ Kept))
    where_next =
        elim by_case [
          | inl low ↦
              inr (
                omega (arith, low.0, low.2),
                omega (arith, low.2, early),
                ap (λ (i : ℕ). role_at (slice_set mid p Kept) i) low.2 ∙ role_set mid p Kept inside,
              )
          | inr kept ↦ elim marks.at [
            | inl first ↦ inl (kept.1 ∙ first)
            | inr found ↦
                inr (
                  omega (arith, found.0, kept.1),
                  omega (arith, found.1, kept.1),
                  elim (cases_eq next p) [
                    | inl here ↦ ap (λ (i : ℕ). role_at (slice_set mid p Kept) i) here ∙ role_set mid p Kept inside
                    | inr other ↦ role_other mid p next Kept other ∙ ap (λ (i : ℕ). role_at mid i) kept.1 ∙ found.2
                  ],
                )
          ]
        ]

-- ---- what the code finds

at_end : (es : List Entry) (l : Literal) (v : Value) → value_of (values_of es) l
    ≡ v → value_of (before es (length es)) l ≡ v
at_end es l v is = ap (λ (xs : List Entry). value_of (values_of xs) l) (take_all (length es) es (omega arith)) ∙ is

-- the literal is false at the end, and its negation stands at the place of its variable
pub place_stands : (vars : ℕ) (es : List Entry) (l : Literal) (p : ℕ) → EachEntry (IsNew vars) es → p < length es
    → (lit_at es p).var ≡ l.var → value_of (values_of es) l ≡ False → lit_at es p ≡ negate l
place_stands vars es l p each inside same is =
    let stands : StandsBefore es (length es) l =
    false_stands vars es (length es) l each (omega arith) (at_end es l False is) in
    ap (λ (k : ℕ). lit_at es k) (same_place vars es (length es) p l each (omega arith) inside same stands) ∙ stands.2

-- a literal became false before a limit only if the place of its variable is before the limit
pub place_early : (vars : ℕ) (es : List Entry) (l : Literal) (p limit : ℕ) → EachEntry (IsNew vars) es → p < length es
    → (lit_at es p).var ≡ l.var → limit ≤ length es → value_of (before es limit) l ≡ False → p < limit
place_early vars es l p limit each inside same within is =
    let stands : StandsBefore es limit l = false_stands vars es limit l each within is in
    omega (arith, stands.1, same_place vars es limit p l each within inside same stands)

-- what is false before a place is false at the end
pub false_at_end : (vars : ℕ) (es : List Entry) (l : Literal) (limit : ℕ) → EachEntry (IsNew vars) es
    → limit ≤ length es → value_of (before es limit) l ≡ False
    → value_of (values_of es) l ≡ False
false_at_end vars es l limit each within is =
    let stands : StandsBefore es limit l = false_stands vars es limit l each within is in
    ap (λ (xs : List Entry). value_of (values_of xs) l) (sym (take_all (length es) es (omega arith)))
    ∙ stands_false vars es (length es) l each (omega arith) (stands.0, omega (arith, stands.1, within), stands.2)
