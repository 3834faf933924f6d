use Rattle.std.proofs.Common.{◌<◌, ◌≤◌, pos, length, get_or, subst, arith}
use Rattle.rows.specs.Literals.{Literal}
use Rattle.planes.specs.Numbers.{size_of}
use Rattle.planes.proofs.CoefLemmas.{more_within}
use Rattle.planes.proofs.counts.greatest.Goals as goal

pub loop-lit-preserved : goal.loop-lit-preserved
loop-lit-preserved c =
    let i = c.loop-lit.lit-index in
    let lit = c.lit-item.result in
    let there : i < length c.args.touched.now = omega arith in
    let below : c.loop-lit.most ≤ c.max-most.result = omega arith in
    let P : Literal → Type 0 = λ l. size_of (get_or c.args.coefs.now l.var (pos 0)) ≤ c.max-most.result in
    let fits : P lit = omega (arith, c.size_at.ensures) in
    more_within c.loop-lit.most c.max-most.result c.args.coefs.now c.args.touched.now i lit there below
    (subst P c.lit-item.is fits) c.loop-lit.invariant
