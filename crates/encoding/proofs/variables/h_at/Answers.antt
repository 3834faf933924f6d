-- The place of a team in a slot is below their number.
use Rattle.std.proofs.Common.{◌≡◌, ◌+◌, ◌*◌, arith}
use Rattle.encoding.specs.Variables.{h_var}
use Rattle.encoding.proofs.PlaceLemmas.{h_place-below, h_var-place}
use Rattle.encoding.proofs.variables.h_at.Goals as goal

pub returns-clause-at_most : goal.returns-clause-at_most
returns-clause-at_most c =
    let a = c.args in
    let r = c.requires in
    let same : 1 + c.x_count.result + c.from.result * c.from-2.result + c.from-3.result ≡ h_var a.n a.team a.slot = cc
    in
    omega (arith, same, h_var-place a.n a.team a.slot, h_place-below a.n a.team a.slot r.team r.slot)
