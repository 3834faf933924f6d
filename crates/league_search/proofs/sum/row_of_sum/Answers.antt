use Rattle.std.proofs.Common.{ap, rules, sym, ◌∙◌}
use Rattle.rows.specs.Sums.{Totals}
use Rattle.rows.specs.Tables.{totals_of}
use Rattle.refutation.specs.Following.{add_parts}
use Rattle.league_search.proofs.SumLemmas.{sum_judged}
use Rattle.league_search.proofs.sum.row_of_sum.Goals as goal

pub returns : goal.returns
returns c = λ vars.
    sum_judged c.args.rows.now vars c.args.divisor c.args.parts.now (totals_of c.add_all.new.sum) c.in_ok-row.row
    (ap (λ (s : Totals). add_parts c.args.rows.now c.args.parts.now s) (sym c.requires.nothing) ∙ c.in_ok-add_all.ensures (search rules))
    c.in_ok-row.ensures
