use Rattle.std.proofs.Common.{◌≡◌, drop}
use Rattle.std.specs.Prelude.{bytes_eq}
use Rattle.std.specs.List.{find}
use Rattle.robinx.specs.Elements.{element_name}
use Rattle.robinx.proofs.element.find_row.Given as goal

abbrev pub invariant-loop-row : goal.invariant-loop-row
invariant-loop-row l = find (λ row. bytes_eq (element_name row.element) l.name) (drop l.row-index l.rows) ≡ find (λ row. bytes_eq (element_name row.element) l.name) l.rows
