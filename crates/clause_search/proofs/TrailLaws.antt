-- What a lawful trail says of the values before each place.
use Rattle.std.proofs.Common.{◌≡◌, ℕ, zero, suc, ◌+◌, ◌-◌, ◌<◌, ◌≤◌, true, false, List, length, take, Option, Some}
use Rattle.std.proofs.Common.{None}
use Rattle.std.proofs.Common.{refl, arith, ap, sym, subst, ◌∙◌}
use Rattle.std.specs.Prelude.{is_none, is_some, slice_get}
use Rattle.std.proofs.lemmas.Bool.{false≢true}
use Rattle.std.proofs.lemmas.List.{take_more}
use Rattle.std.proofs.lemmas.Option.{get_or_from_slice_get, slice_get_within}
use Rattle.rows.specs.Forcing.{set_true}
use Rattle.rows.specs.Rows.{Row}
use Rattle.rows.specs.Partials.{is_free, value_of}
use Rattle.rows.specs.declared.partial.Value.{Value}
use Rattle.rows.specs.declared.partial.Value.TheVariants.{True, Free}
use Rattle.rows.proofs.TrailLemmas.{is_free-value_of}
use Rattle.propagate.specs.Trails.{AreLawful, EachEntry, IsNew, values_of}
use Rattle.propagate.specs.declared.entry.Entry.{Entry}
use Rattle.propagate.proofs.EntryLemmas.{values_of-push}
use Rattle.propagate.proofs.ValueLemmas.{value_of-same, was_free}
use Rattle.clause_search.proofs.ReplayLemmas.{stays_true}
use Rattle.clause_search.proofs.AnalysisLemmas.{AreFresh}
use Rattle.clause_search.specs.Trails.{before, entry_at, lit_at, no_entry}

-- one place more
pub before-more : (es : List Entry) (k : ℕ) → k < length es → before es (k + 1) ≡ set_true (before es k) (lit_at es k)
before-more es k within = ap values_of (take_more es k no_entry within) ∙ values_of-push (take k es) (entry_at es k)

-- a literal is free before its place
pub trail_free_at : (vars : ℕ) (es : List Entry) (j : ℕ) → EachEntry (IsNew vars) es → j < length es
    → value_of (before es j) (lit_at es j) ≡ Free
trail_free_at vars es j each within = (each j no_entry within).free

free_down : (vars : ℕ) (es : List Entry) (j : ℕ) → EachEntry (IsNew vars) es → j < length es → (gap k : ℕ) → k + gap
    ≡ j → value_of (before es k) (lit_at es j) ≡ Free
free_down vars es j each within zero k at =
    let same : j ≡ k = omega (arith, at) in
    subst (λ (i : ℕ). value_of (before es i) (lit_at es j) ≡ Free) same (trail_free_at vars es j each within)
free_down vars es j each within (suc gap) k at =
    let there : k < length es = omega (arith, at) in
    was_free (before es k) (lit_at es k) (lit_at es j) (trail_free_at vars es k each there)
    (ap (λ (w : ℕ → Value). value_of w (lit_at es j)) (sym (before-more es k there))
    ∙ free_down vars es j each within gap (k + 1) (omega (arith, at)))

-- a literal is free before any place earlier than its own
pub trail_free : (vars : ℕ) (es : List Entry) (j k : ℕ) → EachEntry (IsNew vars) es → k ≤ j → j < length es
    → value_of (before es k) (lit_at es j) ≡ Free
trail_free vars es j k each earlier within = free_down vars es j each within (j - k) k (omega (arith, earlier))

true_up : (vars : ℕ) (es : List Entry) (j : ℕ) → EachEntry (IsNew vars) es → (gap k : ℕ) → j + 1 + gap
    ≡ k → k ≤ length es → value_of (before es k) (lit_at es j) ≡ True
true_up vars es j each zero k at within =
    let there : j < length es = omega (arith, at, within) in
    let same : j + 1 ≡ k = omega (arith, at) in
    subst (λ (i : ℕ). value_of (before es i) (lit_at es j) ≡ True) same
    (ap (λ (w : ℕ → Value). value_of w (lit_at es j)) (before-more es j there)
    ∙ value_of-same (before es j) (lit_at es j) (trail_free_at vars es j each there))
true_up vars es j each (suc gap) k at within =
    let there : j + 1 + gap < length es = omega (arith, at, within) in
    let same : j + 1 + gap + 1 ≡ k = omega (arith, at) in
    subst (λ (i : ℕ). value_of (before es i) (lit_at es j) ≡ True) same
    (ap (λ (w : ℕ → Value). value_of w (lit_at es j)) (before-more es (j + 1 + gap) there)
    ∙ stays_true (before es (j + 1 + gap)) (lit_at es (j + 1 + gap)) (lit_at es j)
    (true_up vars es j each gap (j + 1 + gap) refl (omega (arith, there))))

-- a literal is true behind its place
pub trail_true : (vars : ℕ) (es : List Entry) (j k : ℕ) → EachEntry (IsNew vars) es → j < k → k ≤ length es
    → value_of (before es k) (lit_at es j) ≡ True
trail_true vars es j k each earlier within = true_up vars es j each (k - (j + 1)) k (omega (arith, earlier)) within

-- the literals of a trail have different variables
pub trail_fresh : (vars : ℕ) (es : List Entry) → EachEntry (IsNew vars) es → AreFresh (length es) (lit_at es)
trail_fresh vars es each = λ j k earlier within same.
    let set : value_of (before es k) (lit_at es j) ≡ True =
    trail_true vars es j k each earlier (omega (arith, within)) in
    let free : value_of (before es k) (lit_at es k) ≡ Free = trail_free_at vars es k each within in
    absurd (false≢true
    (ap is_free (sym set) ∙ is_free-value_of (before es k) (lit_at es j)
    ∙ ap (λ (v : ℕ). is_free (before es k v)) same
    ∙ sym (is_free-value_of (before es k) (lit_at es k)) ∙ ap is_free free))

-- an entry with a reason is no decision
pub some_by : (o : Option ℕ) → is_some o ≡ true → is_none o ≡ false
some_by None some = absurd (false≢true some)
some_by (Some n) some = refl

-- the variable of an entry is known
pub known_entry : (rows : List Row) (vars : ℕ) (es : List Entry) (k : ℕ) (e : Entry) → AreLawful rows vars es
    → slice_get es k ≡ Some e → e.lit.var ≤ vars
known_entry rows vars es k e lawful read =
    subst (λ (x : Entry). x.lit.var ≤ vars) (get_or_from_slice_get es k e no_entry read)
    (lawful k no_entry (slice_get_within es k e read)).new.known
