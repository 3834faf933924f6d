-- A learnt clause leaves the levels quiet to which a search goes back: before each decision there two of its literals
-- are
-- free.
use Rattle.std.proofs.Common.{◌≡◌, ◌≢◌, ℕ, zero, suc, ◌+◌, ◌<◌, ◌≤◌, Bool, true, cond, List, [], ◌∷◌, length, get_or}
use Rattle.std.proofs.Common.{take, map}
use Rattle.std.proofs.Common.{refl, inl, inr, arith, ap, sym, subst, ◌∙◌}
use Rattle.std.specs.Prelude.{Contains, ◌⊎◌}
use Rattle.std.proofs.lemmas.Bool.{cases_lt}
use Rattle.std.proofs.lemmas.List.{get_or_default, take-take, take_more}
use Rattle.std.proofs.lemmas.List.Sums.{sum_by-cons}
use Rattle.rows.specs.Cardinality.{at_least, unit}
use Rattle.rows.specs.Literals.{Literal, negate}
use Rattle.rows.specs.Rows.{Row}
use Rattle.rows.specs.Partials.{IsQuietRow, is_false, reach, value_of}
use Rattle.rows.specs.declared.lit.Term.{Term}
use Rattle.rows.specs.declared.partial.Value.{Value}
use Rattle.rows.specs.declared.partial.Value.TheVariants.{Free}
use Rattle.propagate.specs.Trails.{AreLawful, EachEntry, IsBackTo, IsNew, IsQuietRowBelow, SeenTrail, is_decision}
use Rattle.propagate.specs.Trails.{level_of, values_of}
use Rattle.propagate.specs.declared.entry.Entry.{Entry}
use Rattle.propagate.proofs.EntryLemmas.{each-take, level_of-push, level_of-take_le}
use Rattle.propagate.proofs.LookLemmas.{news}
use Rattle.clause_search.specs.Analysis.{clause_below}
use Rattle.clause_search.specs.Marks.{IsBackLevel, role_at}
use Rattle.clause_search.specs.Trails.{before, entry_at, lit_at, no_entry}
use Rattle.clause_search.specs.Turns.{IsLearnable, IsQuietRowUpTo}
use Rattle.clause_search.specs.declared.role.Role.{Role}
use Rattle.clause_search.specs.declared.role.Role.TheVariants.{Kept}
use Rattle.clause_search.proofs.CountLemmas.{part}
use Rattle.clause_search.proofs.EmpoweringLemmas.{clause_held, negate_free}
use Rattle.clause_search.proofs.TrailLaws.{trail_free, trail_fresh}

-- ---- two literals that are free

part_free : (values : ℕ → Value) (m : Literal) → value_of values m ≡ Free → part values (unit m) ≡ 1
part_free values m is = ap (λ (v : Value). cond (is_false v) 0 1) is

part_free_at : (values : ℕ → Value) (x l : Literal) → x ≡ l → value_of values l ≡ Free → part values (unit x) ≡ 1
part_free_at values x l same free =
    part_free values x (subst (λ (y : Literal). value_of values y ≡ Free) (sym same) free)

one_free : (values : ℕ → Value) (c : List Literal) (l : Literal) (k : ℕ) → k < length c → get_or c k l ≡ l
    → value_of values l ≡ Free → 1 ≤ reach values (map unit c)
one_free values [] l k within is free = absurd (omega (arith, within))
one_free values (x ∷ c) l zero within is free =
    omega (arith, sum_by-cons (part values) (unit x) (map unit c), part_free_at values x l is free)
one_free values (x ∷ c) l (suc k) within is free =
    omega (
      arith,
      sum_by-cons (part values) (unit x) (map unit c),
      one_free values c l k (omega (arith, within)) is
          free,
    )

two_free : (values : ℕ → Value) (c : List Literal) (l m : Literal) (i j : ℕ) → l.var ≢ m.var → i < length c
    → j < length c
    → get_or c i l ≡ l → get_or c j m ≡ m → value_of values l ≡ Free → value_of values m ≡ Free
    → 2 ≤ reach values (map unit c)
two_free values [] l m i j differ i_in j_in i_is j_is l_free m_free = absurd (omega (arith, i_in))
two_free values (x ∷ c) l m zero zero differ i_in j_in i_is j_is l_free m_free =
    absurd (differ (ap (λ (y : Literal). y.var) (sym i_is ∙ j_is)))
two_free values (x ∷ c) l m zero (suc j) differ i_in j_in i_is j_is l_free m_free =
    omega (
      arith,
      sum_by-cons (part values) (unit x) (map unit c),
      part_free_at values x l i_is l_free,
      one_free values c m j (omega (arith, j_in)) j_is m_free,
    )
two_free values (x ∷ c) l m (suc i) zero differ i_in j_in i_is j_is l_free m_free =
    omega (
      arith,
      sum_by-cons (part values) (unit x) (map unit c),
      part_free_at values x m j_is m_free,
      one_free values c l i (omega (arith, i_in)) i_is l_free,
    )
two_free values (x ∷ c) l m (suc i) (suc j) differ i_in j_in i_is j_is l_free m_free =
    omega (
      arith,
      sum_by-cons (part values) (unit x) (map unit c),
      two_free values c l m i j differ (omega (arith, i_in)) (omega (arith, j_in)) i_is j_is l_free m_free,
    )

unit_coef : (c : List Literal) (k : ℕ) (d : Term) → k < length (map unit c) → (get_or (map unit c) k d).coef ≡ 1
unit_coef [] k d within = absurd (omega (arith, within))
unit_coef (x ∷ c) zero d within = refl
unit_coef (x ∷ c) (suc k) d within = unit_coef c k d (omega (arith, within))

-- a clause is quiet where two of its literals are free
quiet_two : (values : ℕ → Value) (c : List Literal) (l m : Literal) → l.var ≢ m.var → Contains c l → Contains c m
    → value_of values l ≡ Free → value_of values m ≡ Free → IsQuietRow values (at_least 1 c)
quiet_two values c l m differ there also l_free m_free =
    let two : 2 ≤ reach values (map unit c) =
    two_free values c l m there.0 also.0 differ there.1 also.1 there.2 also.2 l_free m_free in
    record {
      no_conflict = omega (arith, two);
      none_forced = λ k d within free. omega (arith, two, unit_coef c k d within);
    }

-- ---- the levels of places

level_is : (vars : ℕ) (es : List Entry) (k : ℕ) → EachEntry (IsNew vars) es → k < length es
    → (entry_at es k).level ≡ level_of (take (k + 1) es)
level_is vars es k each within = (each k no_entry within).level ∙ ap level_of (sym (take_more es k no_entry within))

level_up : (es : List Entry) (i j : ℕ) → i ≤ j → level_of (take i es) ≤ level_of (take j es)
level_up es i j up =
    subst (λ (xs : List Entry). level_of xs ≤ level_of (take j es)) (take-take i j es up)
    (level_of-take_le (take j es) i)

level_within : (vars : ℕ) (es : List Entry) (k : ℕ) → EachEntry (IsNew vars) es → k < length es
    → (entry_at es k).level ≤ level_of es
level_within vars es k each within = omega (arith, level_is vars es k each within, level_of-take_le es (k + 1))

decision_level : (vars : ℕ) (es : List Entry) (k : ℕ) → EachEntry (IsNew vars) es → k < length es
    → is_decision (entry_at es k) ≡ true → (entry_at es k).level ≡ level_of (take k es) + 1
decision_level vars es k each within decision =
    (each k no_entry within).level ∙ level_of-push (take k es) (entry_at es k)
    ∙ ap (λ (b : Bool). level_of (take k es) + cond b 1 0) decision

-- a decision of a level stands before each later place of it, and of the levels above
decided_before : (vars : ℕ) (es : List Entry) (k m : ℕ) → EachEntry (IsNew vars) es → k < length es → m < length es
    → is_decision (entry_at es k) ≡ true → (entry_at es k).level ≤ (entry_at es m).level → k ≤ m
decided_before vars es k m each within inside decision low =
    elim (cases_lt m k) [
      | inl early ↦
          absurd (omega (
            arith,
            low,
            level_is vars es m each inside,
            level_up es (m + 1) k (omega (arith, early)),
            decision_level vars es k each within decision,
          ))
      | inr past ↦ past
    ]

-- ---- the levels to which a search goes back

pub back_within : (vars : ℕ) (es : List Entry) (roles : List Role) (start level : ℕ) → EachEntry (IsNew vars) es
    → start ≤ length es → IsBackLevel es roles start level → level ≤ level_of es
back_within vars es roles start level each inside (inl root) = omega (arith, root)
back_within vars es roles start level each inside (inr (k, early, kept, low)) =
    omega (arith, low, level_within vars es k each (omega (arith, early, inside)))

-- before a decision of such a level the last literal and another of the clause are free
kept_calm_at : (vars : ℕ) (es : List Entry) (roles : List Role) (start lowest level k : ℕ) → EachEntry (IsNew vars) es
    → start ≤ lowest → lowest < length es → role_at roles lowest ≡ Kept → IsBackLevel es roles start level
    → k < length es
    → is_decision (entry_at es k) ≡ true → (entry_at es k).level ≤ level
    → IsQuietRow (before es k) (at_least 1 (clause_below (lit_at es) (role_at roles) (length es)))
kept_calm_at vars es roles start lowest level k each above inside kept (inl root) within decision low =
    absurd (omega (arith, root, low, decision_level vars es k each within decision))
kept_calm_at vars es roles start lowest level k each above inside kept (inr (m, early, m_kept, m_low)) within decision
    low =
    let m_in : m < length es = omega (arith, early, above, inside) in
    let first : k ≤ m = decided_before vars es k m each within m_in decision (omega (arith, low, m_low)) in
    quiet_two (before es k) (clause_below (lit_at es) (role_at roles) (length es)) (negate (lit_at es m))
    (negate (lit_at es lowest))
    (trail_fresh vars es each m lowest (omega (arith, early, above)) inside)
    (clause_held (lit_at es) (role_at roles) (length es) m m_in m_kept)
    (clause_held (lit_at es) (role_at roles) (length es) lowest inside kept)
    (negate_free (before es k) (lit_at es m) (trail_free vars es m k each first m_in))
    (negate_free (before es k) (lit_at es lowest)
    (trail_free vars es lowest k each (omega (arith, first, early, above)) inside))

pub kept_calm : (vars : ℕ) (es : List Entry) (roles : List Role) (start lowest level : ℕ) → EachEntry (IsNew vars) es
    → start ≤ lowest → lowest < length es → role_at roles lowest ≡ Kept → IsBackLevel es roles start level
    → IsQuietRowUpTo level (at_least 1 (clause_below (lit_at es) (role_at roles) (length es))) es
kept_calm vars es roles start lowest level each above inside kept back = λ k d within decision low.
    let same : get_or es k d ≡ entry_at es k = get_or_default es k d no_entry within in
    kept_calm_at vars es roles start lowest level k each above inside kept back within
    (ap is_decision (sym same) ∙ decision)
    (omega (arith, low, ap (λ (e : Entry). e.level) same))

-- no decision is at level 0
calm_root : (vars : ℕ) (es : List Entry) (row : Row) → EachEntry (IsNew vars) es → IsQuietRowUpTo 0 row es
calm_root vars es row each = λ k d within decision low.
    let same : get_or es k d ≡ entry_at es k = get_or_default es k d no_entry within in
    absurd (omega (
      arith,
      low,
      ap (λ (e : Entry). e.level) same,
      decision_level vars es k each within (ap is_decision (sym same) ∙ decision),
    ))

-- ---- the level that is taken

pub learnable_at : (t : SeenTrail) (clause : List Literal) (hints : List ℕ) (back level : ℕ)
    → AreLawful t.rows t.vars t.entries
    → (level ≡ back) ⊎ (level ≡ 0) → IsLearnable t clause hints back → IsLearnable t clause hints level
learnable_at t clause hints back level lawful (inl same) is =
    subst (λ (n : ℕ). IsLearnable t clause hints n) (sym same) is
learnable_at t clause hints back level lawful (inr root) is =
    subst (λ (n : ℕ). IsLearnable t clause hints n) (sym root) (record {
      is_news = is.is_news;
      tidy = is.tidy;
      within = omega arith;
      calm = calm_root t.vars t.entries (at_least 1 clause) (news t.rows t.vars t.entries lawful);
    })

-- where the search went back, the clause is quiet before each decision that is left
pub calm_below : (vars level : ℕ) (row : Row) (old new : List Entry) → EachEntry (IsNew vars) old
    → IsBackTo level old new
    → IsQuietRowUpTo level row old → IsQuietRowBelow row new
calm_below vars level row old new each back calm = λ k d within decision.
    calm_new k d within decision
    (omega (
      arith,
      level_within vars new k each_new within,
      back.level_is,
      ap (λ (e : Entry). e.level) (get_or_default new k d no_entry within),
    ))
  where
    each_new : EachEntry (IsNew vars) new
    each_new =
        subst (λ (es : List Entry). EachEntry (IsNew vars) es) (sym back.front)
        (each-take (IsNew vars) old (length new) back.shorter each)

    calm_new : IsQuietRowUpTo level row new
    calm_new =
        subst (λ (es : List Entry). IsQuietRowUpTo level row es) (sym back.front)
        (each-take (λ front e. is_decision e ≡ true → e.level ≤ level → IsQuietRow (values_of front) row) old
        (length new)
        back.shorter calm)
