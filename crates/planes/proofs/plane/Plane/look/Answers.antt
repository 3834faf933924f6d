use Rattle.std.proofs.Common.{◌≡◌, ℕ, ◌<◌, List, length, get_or, arith, rules}
use Rattle.rows.specs.Literals.{Literal}
use Rattle.planes.specs.Slack.{free_at, not_false_at}
use Rattle.planes.proofs.SlackLemmas.{most_more, sum_more}
use Rattle.planes.proofs.plane.Plane.look.Goals as goal

pub loop-lit-preserved : goal.loop-lit-preserved
loop-lit-preserved c =
    let k : ℕ = c.loop-lit.lit-index in
    let lits : List Literal = c.args.self.now.counts.touched.items in
    let there : k < length lits = omega arith in
    let is : c.lit-item.result ≡ get_or lits k c.lit-item.result = search rules in
    record {
      sum = omega (
        arith,
        sum_more (not_false_at c.args.self.now.counts.coefs.items c.args.trail.now c.args.level) lits k c.lit-item.result
            c.loop-lit.sum c.share-share.result.not_false there is c.share-share.ensures.not_false
            c.loop-lit.invariant.sum,
      );
      most = omega (
        arith,
        most_more (free_at c.args.self.now.counts.coefs.items c.args.trail.now c.args.level) lits k c.lit-item.result
            c.loop-lit.most c.share-share.result.free there is c.share-share.ensures.free
            c.loop-lit.invariant.most,
      );
      fits = omega (arith, c.share-share.ensures.free_fits, c.loop-lit.invariant.fits);
    }
