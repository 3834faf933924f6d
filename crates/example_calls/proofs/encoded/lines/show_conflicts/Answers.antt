use Rattle.std.proofs.Common.{ℕ, List, ap, length, subst, sym, ◌∙◌}
use Rattle.std.proofs.lemmas.List.{length-replicate}
use Rattle.encoding.specs.Encoding.{rows_of}
use Rattle.encoding.specs.Known.{AreKnown}
use Rattle.encoding.specs.Variables.{var_count}
use Rattle.rows.specs.Rows.{Row}
use Rattle.rows.specs.declared.partial.Value.{Value}
use Rattle.example_calls.proofs.encoded.lines.show_conflicts.Goals as goal

-- the rows speak of the variables that there are
pub show_negative-requires : goal.show_negative-requires
show_negative-requires c =
    subst (λ (n : ℕ). AreKnown n c.rows.result.now)
    (sym (ap (λ (values : List Value). length values) c.in_ok-free.ensures ∙ length-replicate _ _ ∙ c.vars.ensures.vars))
    (subst (λ (rows : List Row). AreKnown (var_count c.args.encoding.now) rows) (sym c.rows.ensures) c.vars.ensures.known)
