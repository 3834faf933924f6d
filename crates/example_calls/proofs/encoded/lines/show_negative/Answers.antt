use Rattle.std.proofs.Common.{◌≡◌, ◌<◌, ◌≤◌, ℕ, List, [], ◌∷◌, zero, suc, length, slice_get, IfSome, arith, subst, sym}
use Rattle.std.specs.List.{All}
use Rattle.std.proofs.lemmas.List.Elements.{All-head, All-tail, All-weaker}
use Rattle.encoding.specs.Known.{AreKnown, IsKnown}
use Rattle.rows.specs.Rows.{Row}
use Rattle.rows.specs.declared.lit.Term.{Term}
use Rattle.example_calls.proofs.encoded.lines.show_negative.Goals as goal

-- the terms of a row at a place speak of the variables that there are
known_terms : (vars : ℕ) (rows : List Row) (k : ℕ) (terms : List Term) → k < length rows
    → IfSome (slice_get rows k) (λ row. terms ≡ row.terms) → AreKnown vars rows → All (λ t. t.lit.var ≤ vars) terms
known_terms vars [] k terms there are known = absurd (omega arith)
known_terms vars (row ∷ rows) zero terms there are known =
    subst (λ (ts : List Term). All (λ t. t.lit.var ≤ vars) ts) (sym are)
    (All-weaker (λ t. (1 ≤ t.lit.var) × (t.lit.var ≤ vars)) (λ t. t.lit.var ≤ vars) (λ t both. both.1) row.terms
    (All-head (IsKnown vars) row rows known))
known_terms vars (row ∷ rows) (suc k) terms there are known =
    known_terms vars rows k terms (omega arith) are (All-tail (IsKnown vars) row rows known)

pub slack-slack-requires : goal.slack-slack-requires
slack-slack-requires c =
    known_terms (length c.args.values.now) c.args.rows.now c.loop-place.place c.terms.result.now (omega arith) c.terms.ensures
    c.requires
