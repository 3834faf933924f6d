use Rattle.std.proofs.Common.{arith}
use Rattle.std.proofs.lemmas.List.Sums.{sum_by_more}
use Rattle.rule_core.specs.Spare.{spare_counts}
use Rattle.rule_core.proofs.spare.copies_at_home.Goals as goal

pub loop-other-preserved : goal.loop-other-preserved
loop-other-preserved c = record {
  counted = omega (
    arith,
    c.loop-other.invariant.counted,
    c.copies-games.ensures.count,
    sum_by_more (λ j. spare_counts c.args.spare.now.items c.args.team.0 j c.args.slot.0)
        c.args.others.now c.loop-other.other-index 0 c.loop-other-test.true,
  );
  bounded = omega (arith, c.loop-other.invariant.bounded, c.copies-games.ensures.at_most);
}
