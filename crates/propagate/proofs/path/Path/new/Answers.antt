use Rattle.std.proofs.Common.{arith}
use Rattle.std.specs.Vec.{vec_capacity}
use Rattle.propagate.proofs.PathLemmas.{IsPath-none}
use Rattle.propagate.proofs.path.Path.new.Goals as goal

pub invariant_of-result : goal.invariant_of-result
invariant_of-result c =
    IsPath-none c.args.vars (vec_capacity c.in_ok-with_capacity.field-0) c.in_ok-new.field-0.values c.in_ok-with_capacity.field-0.items c.in_ok-vec.field-0.items
    c.in_ok-new.ensures.values c.in_ok-with_capacity.ensures.items (omega (arith, c.in_ok-vec.ensures.len, c.in_ok-vec.field-0.ok)) (omega arith)
    (omega (arith, c.in_ok-with_capacity.ensures.exact))
