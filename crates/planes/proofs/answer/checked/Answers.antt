use Rattle.std.proofs.Common.{◌≡◌, ◌∙◌, Ok, ap, rules, sym}
use Rattle.refutation.specs.declared.verdict.Verdict.TheVariants.{Accepted}
use Rattle.planes.proofs.answer.checked.Goals as goal

pub returns-then-names_rows : goal.returns-then-names_rows
returns-then-names_rows c =
    let accepted : c.in_ok-verdict.verdict ≡ Accepted = search rules in
    record {
      accepted = sym c.in_ok-verdict.ensures.verdict ∙ accepted;
      unsatisfied = c.in_ok-verdict.ensures.refuted (ap Ok accepted);
      named = c.names_rows.ensures.0 c.if-names_rows.true;
    }
