use Rattle.std.proofs.Common.{sym, ◌∙◌}
use Rattle.std.specs.Prelude.{bytes_eq}
use Rattle.robinx.specs.Elements.{element_name}
use Rattle.robinx.proofs.SearchLemmas.{found_later}
use Rattle.robinx.proofs.element.find_row.Goals as goal

pub loop-row-preserved : goal.loop-row-preserved
loop-row-preserved c =
    sym (found_later (λ row. bytes_eq (element_name row.element) c.args.name.now) c.args.rows.now c.loop-row.row-index _ c.loop-row-test.true (sym c.has_name.ensures ∙ c.if-has_name.false)) ∙ c.loop-row.invariant
