-- Literals that weren't false before any decision.
use Rattle.std.proofs.Common.{◌≡◌, ◌≢◌, ℕ, zero, suc, ◌+◌, ◌-◌, ◌<◌, ◌≤◌, Bool, true, false, cond, List, [], ◌∷◌, ◌++◌, length, get_or, take}
use Rattle.std.proofs.Common.{refl, inl, inr, arith, ap, sym, subst, ◌∙◌}
use Rattle.std.proofs.lemmas.Bool.{cases_lt, false≢true}
use Rattle.std.proofs.lemmas.List.{take-take, take_all, take_more}
use Rattle.rows.specs.Forcing.{set_true}
use Rattle.rows.specs.Literals.{Literal}
use Rattle.rows.specs.Partials.{is_free, opposite_of, value_of}
use Rattle.rows.specs.declared.partial.Value.{Value}
use Rattle.rows.specs.declared.partial.Value.TheVariants.{True, False, Free}
use Rattle.rows.proofs.TrailLemmas.{set_true-other}
use Rattle.propagate.specs.Trails.{EachEntry, IsNew, level_of, values_of}
use Rattle.propagate.specs.Watches.{WasOpen}
use Rattle.propagate.specs.declared.entry.Entry.{Entry}
use Rattle.propagate.proofs.EntryLemmas.{level_of-more, level_of-take_le, no_entry, values_of-push}
use Rattle.propagate.proofs.ValueLemmas.{is_free_var}

-- a variable keeps its value while entries come
pub value_kept : (vars : ℕ) (es : List Entry) (v m n : ℕ) → EachEntry (IsNew vars) es → m + n ≤ length es → values_of (take m es) v ≢ Free
    → values_of (take (m + n) es) v ≡ values_of (take m es) v
value_kept vars es v m zero each within set =
    let same : m + zero ≡ m = omega arith in
    ap (λ (k : ℕ). values_of (take k es) v) same
value_kept vars es v m (suc n) each within set =
    let there : m < length es = omega arith in
    let e : Entry = get_or es m no_entry in
    let step : values_of (take (m + 1) es) v ≡ set_true (values_of (take m es)) e.lit v =
    ap (λ (xs : List Entry). values_of xs v) (take_more es m no_entry there) ∙ ap (λ (w : ℕ → Value). w v) (values_of-push (take m es) e) in
    let other : v ≢ e.lit.var = λ same. taken (values_of (take m es)) v e.lit same set (each m no_entry there).free in
    let kept : values_of (take (m + 1) es) v ≡ values_of (take m es) v = step ∙ set_true-other (values_of (take m es)) e.lit v other in
    let sums : m + suc n ≡ m + 1 + n = omega arith in
    ap (λ (k : ℕ). values_of (take k es) v) sums
    ∙ value_kept vars es v (m + 1) n each (omega arith) (λ free. set (sym kept ∙ free)) ∙ kept where
      free_of : (x : Value) → is_free x ≡ true → x ≡ Free
      free_of True is = absurd (false≢true is)
      free_of False is = absurd (false≢true is)
      free_of Free is = refl

      taken : (values : ℕ → Value) (v : ℕ) (l : Literal) → v ≡ l.var → values v ≢ Free → value_of values l ≡ Free → ⊥
      taken values v l same set free = set (ap (λ (w : ℕ). values w) same ∙ free_of (values l.var) (is_free_var values l free))

-- a false literal's variable has a value
pub false_is_set : (values : ℕ → Value) (l : Literal) → value_of values l ≡ False → values l.var ≢ Free
false_is_set values l is free = by l.positive (values l.var) is free where
  clash : False ≡ Free → ⊥
  clash same = cc

  by : (p : Bool) (v : Value) → cond p v (opposite_of v) ≡ False → v ≡ Free → ⊥
  by true v is free = clash (sym is ∙ free)
  by false v is free = clash (sym is ∙ ap opposite_of free)

pub value_of-kept : (before now : ℕ → Value) (l : Literal) → now l.var ≡ before l.var → value_of now l ≡ value_of before l
value_of-kept before now l same = ap (λ (v : Value). cond l.positive v (opposite_of v)) same

-- a literal that isn't false now never was
pub WasOpen-now : (vars : ℕ) (es : List Entry) (l : Literal) → EachEntry (IsNew vars) es → value_of (values_of es) l ≢ False → WasOpen l es
WasOpen-now vars es l each open_now = λ k d within decided is.
    let sums : k + (length es - k) ≡ length es = omega arith in
    let kept : values_of es l.var ≡ values_of (take k es) l.var =
    ap (λ (xs : List Entry). values_of xs l.var) (sym (take_all (length es) es (omega arith)))
    ∙ ap (λ (n : ℕ). values_of (take n es) l.var) (sym sums)
    ∙ value_kept vars es l.var k (length es - k) each (omega arith) (false_is_set (values_of (take k es)) l is) in
    open_now (value_of-kept (values_of (take k es)) (values_of es) l kept ∙ is)

-- a literal that became false at the last level wasn't false before a decision
pub WasOpen-level : (vars : ℕ) (es : List Entry) (l : Literal) (place : ℕ) (e : Entry) → EachEntry (IsNew vars) es → place < length es → e ≡ get_or es place e → e.lit.var ≡ l.var
    → e.level ≡ level_of es → WasOpen l es
WasOpen-level vars es l place e each there at var level = λ k d within decided is.
    let new : IsNew vars (take place es) e = subst (λ (x : Entry). IsNew vars (take place es) x) (sym at) (each place e there) in
    let whole : take (place + 1) es ≡ take place es ++ e ∷ [] = take_more es place e there ∙ ap (λ (x : Entry). take place es ++ x ∷ []) (sym at) in
    let level_is : level_of (take (place + 1) es) ≡ level_of es = ap level_of whole ∙ sym new.level ∙ level in
    let more : level_of (take (k + 1) es) ≡ level_of (take k es) + 1 =
    level_of-more es k d within ∙ ap (λ (b : Bool). level_of (take k es) + cond b 1 0) decided in
    elim (cases_lt place k) [
      | inl before ↦
          absurd (omega (
            arith,
            more,
            level_is,
            level_of-take_le es (k + 1),
            level_of-take_le (take k es) (place + 1),
            ap level_of (take-take (place + 1) k es (omega arith)),
          ))
      | inr past ↦
          let sums : k + (place - k) ≡ place = omega arith in
          let set : values_of (take k es) l.var ≢ Free = false_is_set (values_of (take k es)) l is in
          let kept : values_of (take place es) l.var ≡ values_of (take k es) l.var =
          ap (λ (n : ℕ). values_of (take n es) l.var) (sym sums) ∙ value_kept vars es l.var k (place - k) each (omega arith) set in
          let free : is_free (values_of (take place es) l.var) ≡ true =
          ap (λ (v : ℕ). is_free (values_of (take place es) v)) (sym var) ∙ is_free_var (values_of (take place es)) e.lit new.free in
          set (sym kept ∙ free_of (values_of (take place es) l.var) free)
    ] where
      free_of : (x : Value) → is_free x ≡ true → x ≡ Free
      free_of True is = absurd (false≢true is)
      free_of False is = absurd (false≢true is)
      free_of Free is = refl
