use Rattle.std.proofs.Common.{◌<◌, ◌-◌, arith, get_or, refl}
use Rattle.league.proofs.SetLemmas.{less_than}
use Rattle.explain.proofs.PartLemmas.{ascending_steps}
use Rattle.explain.proofs.maker.is_ascending.Goals as goal

pub returns-then-members-place : goal.returns-then-members-place
returns-then-members-place c = (
  λ yes. absurd (cc),
  λ ascends.
      let rises : get_or c.args.members.now (c.loop-place.place - 1) 0
      < get_or c.args.members.now c.loop-place.place 0 =
      less_than (get_or c.args.members.now (c.loop-place.place - 1) 0) (get_or c.args.members.now c.loop-place.place 0)
      (ascends (c.loop-place.place - 1) c.loop-place.place 0 (omega arith) (omega arith)) in
      absurd (omega arith),
)

pub returns : goal.returns
returns c = (
  λ yes.
      ascending_steps c.args.members.now (λ k within. c.loop-place.invariant k (omega (arith, within))),
  λ ascends. refl,
)
