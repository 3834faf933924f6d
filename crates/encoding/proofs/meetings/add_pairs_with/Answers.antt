use Rattle.std.proofs.Common.{arith, map, refl}
use Rattle.encoding.proofs.GrownLemmas.{grown_by_all, grown_by_one}
use Rattle.encoding.proofs.meetings.add_pairs_with.Goals as goal

pub loop-second-preserved : goal.loop-second-preserved
loop-second-preserved c =
    grown_by_one (λ j. (c.args.first, j)) c.args.pairs.now.items c.loop-second.pairs.items c.push.new.self.items _
    c.args.later.now c.loop-second.second-index 0 c.loop-second-test.true c.loop-second.invariant
    c.in_ok-push.ensures.items refl

pub returns : goal.returns
returns c =
    grown_by_all (map (λ j. (c.args.first, j))) c.args.pairs.now.items c.loop-second.pairs.items c.args.later.now
    c.loop-second.second-index (omega arith) c.loop-second.invariant
