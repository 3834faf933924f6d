-- Rows that were written are those that were to be.
use Rattle.std.proofs.Common.{◌≡◌, ℕ, List, None, Some, ap, ◌∙◌}
use Rattle.rows.specs.Rows.{Row}
use Rattle.rows.specs.declared.lit.Term.{Term}
use Rattle.opb_forms.specs.Systems.{System}

-- rows and variables that are equal make one system
pub same-system : (vars wanted_vars : ℕ) (rows wanted : List Row) → vars ≡ wanted_vars → rows ≡ wanted
    → let one : System = record { vars = vars; least = None; rows = rows } in
    let other : System = record { vars = wanted_vars; least = None; rows = wanted } in one ≡ other
same-system vars wanted_vars rows wanted first second =
    ap (λ (v : ℕ). let one : System = record { vars = v; least = None; rows = rows } in one) first
    ∙ ap (λ (rs : List Row). let one : System = record { vars = wanted_vars; least = None; rows = rs } in one) second

-- the same with prices
pub same-priced : (vars wanted_vars : ℕ) (terms wanted_terms : List Term) (rows wanted : List Row)
    → vars ≡ wanted_vars → terms ≡ wanted_terms → rows ≡ wanted
    → let one : System = record { vars = vars; least = Some terms; rows = rows } in
    let other : System = record { vars = wanted_vars; least = Some wanted_terms; rows = wanted } in one ≡ other
same-priced vars wanted_vars terms wanted_terms rows wanted first second third =
    ap (λ (v : ℕ). let one : System = record { vars = v; least = Some terms; rows = rows } in one) first
    ∙ ap (λ (ts : List Term). let one : System = record { vars = wanted_vars; least = Some ts; rows = rows } in one) second
    ∙ ap (λ (rs : List Row). let one : System = record { vars = wanted_vars; least = Some wanted_terms; rows = rs } in one)
    third
