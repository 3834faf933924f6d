use Rattle.std.proofs.Common.{◌≡◌, None, ap, arith, length, rules}
use Rattle.explain.specs.Parts.{first_other}
use Rattle.explain.proofs.PartLemmas.{part-few, part-fit}
use Rattle.explain.proofs.maker.part.Goals as goal

pub new-requires-clause-few : goal.new-requires-clause-few
new-requires-clause-few c =
    let none : first_other c.constraints-constraints.result.now c.args.members.now ≡ None = search rules in
    let few = part-few c.constraints-constraints.result.now c.args.members.now 20000 c.requires.ascending none
    (omega (arith, ap length c.constraints-constraints.ensures, c.n.ensures.instance.few)) in
    omega (arith, few, ap length c.in_ok-taken.ensures)

pub new-requires-clause-fit : goal.new-requires-clause-fit
new-requires-clause-fit c =
    part-fit c.args.league.now.n c.n.result c.args.league.now.constraints c.constraints-constraints.result.now
    c.args.members.now c.in_ok-taken.taken.items c.n.ensures.n c.constraints-constraints.ensures c.in_ok-taken.ensures
    c.n.ensures.instance.fit
