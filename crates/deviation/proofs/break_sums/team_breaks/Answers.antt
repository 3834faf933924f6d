use Rattle.std.proofs.Common.{◌≡◌, ◌+◌, arith, ap}
use Rattle.league.specs.Breaks.{breaks_among, is_away_break, is_home_break}
use Rattle.league.specs.declared.class.Side.{Side}
use Rattle.league.specs.declared.class.Side.TheVariants.{A, Both, H}
use Rattle.league.proofs.RangeLemmas.{one_if}
use Rattle.league.proofs.SumLemmas.{sum_by-add}
use Rattle.rule_core.specs.Table.{table_counts}
use Rattle.deviation.proofs.break_sums.team_breaks.Goals as goal

pub returns-in-Both-clause-breaks : goal.returns-in-Both-clause-breaks
returns-in-Both-clause-breaks c =
    let n = c.args.cells.now.n in
    let m = table_counts c.args.cells.now in
    let i = c.args.team.0 in
    let slots = c.args.scope.now.slots in
    let split : breaks_among n m Both slots i ≡ breaks_among n m H slots i + breaks_among n m A slots i =
    sum_by-add (λ s. one_if (is_home_break n m i s)) (λ s. one_if (is_away_break n m i s)) slots in
    omega (
      arith,
      c.home_breaks-in-Both.ensures.breaks,
      c.away_breaks-in-Both.ensures.breaks,
      ap (λ (side : Side). breaks_among n m side slots i) c.in-Both.is,
      split,
    )
