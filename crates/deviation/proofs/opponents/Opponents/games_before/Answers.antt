use Rattle.std.proofs.Common.{ℕ, ◌<◌, List, get_or, refl, arith}
use Rattle.league.specs.Capacity.{meetings_with}
use Rattle.rule_core.specs.Table.{table_counts}
use Rattle.deviation.proofs.BeforeLemmas.{AreBefore-more, AreBefore-none}
use Rattle.deviation.proofs.opponents.Opponents.games_before.Goals as goal

pub loop-slot-init : goal.loop-slot-init
loop-slot-init c = AreBefore-none (table_counts c.args.cells.now) (meetings_with c.args.self.now.side (get_or c.args.self.now.teams1 c.args.key 0) c.args.self.now.teams2)

pub loop-slot-preserved : goal.loop-slot-preserved
loop-slot-preserved c =
    let meetings : List (ℕ × ℕ) = meetings_with c.args.self.now.side (get_or c.args.self.now.teams1 c.args.key 0) c.args.self.now.teams2 in
    let small : c.loop-slot.slot < 78 = omega arith in
    AreBefore-more (table_counts c.args.cells.now) meetings c.loop-slot.slot _ _ c.games_at.result c.loop-slot.before small refl refl c.games_at.ensures.games c.games_at.ensures.at_most c.loop-slot.invariant
