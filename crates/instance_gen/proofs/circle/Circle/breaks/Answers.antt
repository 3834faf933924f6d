use Rattle.std.proofs.Common.{arith, refl}
use Rattle.instance_gen.proofs.MadeLemmas.{breaks-next, patterns_count}
use Rattle.instance_gen.proofs.circle.Circle.breaks.Goals as goal

pub pattern-requires : goal.pattern-requires
pattern-requires c = omega (arith, patterns_count c.args.self.now.n c.args.self.now.patterns c.args.self.now.venues)

pub loop-team-preserved : goal.loop-team-preserved
loop-team-preserved c = record {
  counted = breaks-next c.args.self.now.n c.loop-team.team c.loop-team.breaks _ c.breaks_of-breaks.result
      c.args.self.now.patterns c.pattern.result.now c.args.self.now.teams (omega arith) c.args.self.now.venues
      c.pattern.ensures c.breaks_of-breaks.ensures.breaks c.loop-team.invariant.counted refl;
  bounded = omega (arith, c.loop-team.invariant.bounded, c.breaks_of-breaks.ensures.at_most);
}
