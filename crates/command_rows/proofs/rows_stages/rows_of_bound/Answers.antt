use Rattle.std.proofs.Common.{inl, ap, ◌∙◌}
use Rattle.bound_rows.specs.Bounded.{Bounded}
use Rattle.command_rows.specs.Rowed.{bound_system, rows_answer}
use Rattle.command_rows.proofs.rows_stages.rows_of_bound.Goals as goal

pub returns-clause-answer : goal.returns-clause-answer
returns-clause-answer c =
    inl (
      c.in_ok-terms.ensures.few,
      ap rows_answer (c.in_ok-of_bound.ensures
          ∙ ap (λ (b : Bounded). bound_system b.league b.bound) c.in_ok-system.ensures),
    )

pub returns-clause-rows : goal.returns-clause-rows
returns-clause-rows c =
    c.in_ok-of_bound.ensures ∙ ap (λ (b : Bounded). bound_system b.league b.bound) c.in_ok-system.ensures
