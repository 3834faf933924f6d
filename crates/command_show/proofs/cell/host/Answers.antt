use Rattle.std.proofs.Common.{◌≡◌, not, nat_lt, ap, arith}
use Rattle.rule_core.specs.Table.{table_counts}
use Rattle.command_show.specs.Cell.{opponent}
use Rattle.command_show.proofs.RangeLemmas.{passed_one}
use Rattle.command_show.proofs.cell.host.Goals as goal

pub loop-number-preserved : goal.loop-number-preserved
loop-number-preserved c =
    let none : table_counts c.args.cells.now c.loop-number.number c.args.team.0 c.args.slot.0 ≡ 0 = omega (arith, c.at.ensures.count, c.if-at-gt0.false) in
    passed_one (λ j. not (nat_lt 0 (table_counts c.args.cells.now j c.args.team.0 c.args.slot.0))) c.loop-number.number c.args.cells.now.n
    (opponent c.args.cells.now.n (λ j. table_counts c.args.cells.now j c.args.team.0 c.args.slot.0))
    (omega (arith, c.n-n.ensures.n, c.loop-number-test.true)) (ap (λ k. not (nat_lt 0 k)) none) c.loop-number.invariant
