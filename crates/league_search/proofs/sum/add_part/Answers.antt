use Rattle.std.proofs.Common.{arith}
use Rattle.rows.specs.Tables.{totals_of}
use Rattle.league_search.proofs.SumLemmas.{row_added}
use Rattle.league_search.proofs.sum.add_part.Goals as goal

pub returns-in-Ok : goal.returns-in-Ok
returns-in-Ok c = λ added others.
    row_added c.args.rows.now c.args.part.row _ c.args.part.factor (totals_of c.args.sum.now)
    (totals_of c.add.new.self) c.terms.result.now c.degree.result others (omega arith) (omega arith) c.terms.ensures
    c.degree.ensures c.in-Ok.ensures.ok c.in-Ok.ensures.narrow
