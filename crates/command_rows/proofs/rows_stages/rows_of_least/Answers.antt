use Rattle.std.proofs.Common.{List, Some, inl, ap, ◌∙◌}
use Rattle.rows.specs.declared.lit.Term.{Term}
use Rattle.bound_rows.specs.BoundRows.{bound_rows, bound_vars}
use Rattle.bound_rows.specs.Bounded.{Bounded}
use Rattle.opb_forms.specs.Systems.{System}
use Rattle.command_rows.specs.Rowed.{prices, rows_answer}
use Rattle.command_rows.proofs.rows_stages.rows_of_least.Goals as goal

-- bound rows with these prices
abbrev priced : Bounded → List Term → System
priced b terms = record { vars = bound_vars b.league; least = Some terms; rows = bound_rows b.league b.bound }

pub returns-clause-rows : goal.returns-clause-rows
returns-clause-rows c =
    c.in_ok-of_least.ensures
    ∙ ap (λ (ts : List Term). priced c.in_ok-system.system ts) c.in_ok-prices.ensures.prices
    ∙ ap (λ (b : Bounded). priced b (prices b.league)) c.in_ok-system.ensures

pub returns-clause-answer : goal.returns-clause-answer
returns-clause-answer c =
    inl (
      c.in_ok-terms.ensures.few,
      ap rows_answer (c.in_ok-of_least.ensures
          ∙ ap (λ (ts : List Term). priced c.in_ok-system.system ts) c.in_ok-prices.ensures.prices
          ∙ ap (λ (b : Bounded). priced b (prices b.league)) c.in_ok-system.ensures),
    )
