use Rattle.std.proofs.Common.{◌≡◌, length, arith}
use Rattle.patterns.specs.HomeTable.{table_pattern}
use Rattle.patterns.proofs.PatternLemmas.{length-made, made-more}
use Rattle.patterns.proofs.pattern_set.patterns_from.Goals as goal

pub push-requires : goal.push-requires
push-requires c =
    let so_many : length c.loop-team.patterns ≡ c.loop-team.team = length-made (table_pattern c.args.slots c.args.table.now) c.loop-team.team c.loop-team.patterns c.loop-team.invariant in
    omega (arith, so_many, c.loop-team-test.true, c.requires.teams)

pub loop-team-preserved : goal.loop-team-preserved
loop-team-preserved c =
    made-more (table_pattern c.args.slots c.args.table.now) c.loop-team.team c.loop-team.patterns _ _ c.loop-team.invariant c.in_ok-push.ensures.ok c.in_ok-pattern_from.ensures
