-- A game's place is below the number of games.
use Rattle.std.proofs.Common.{◌≡◌, ◌+◌, ◌*◌, arith}
use Rattle.encoding.specs.Variables.{x_var}
use Rattle.encoding.proofs.NumberLemmas.{x_count-few}
use Rattle.encoding.proofs.PlaceLemmas.{x_place-below, x_var-place}
use Rattle.encoding.proofs.variables.x_at.Goals as goal

pub returns-clause-at_most : goal.returns-clause-at_most
returns-clause-at_most c =
    let a = c.args in
    let r = c.requires in
    let same : 1 + (c.from.result * c.from-2.result + c.from-3.result) * c.from-4.result + c.from-5.result ≡ x_var a.n
    a.home a.away a.slot = cc in
    omega (
      arith,
      same,
      x_var-place a.n a.home a.away a.slot,
      x_place-below a.n a.home a.away a.slot r.home r.away
          r.differ r.slot,
    )

pub returns-clause-few : goal.returns-clause-few
returns-clause-few c =
    let a = c.args in
    let r = c.requires in
    let same : 1 + (c.from.result * c.from-2.result + c.from-3.result) * c.from-4.result + c.from-5.result ≡ x_var a.n
    a.home a.away a.slot = cc in
    omega (
      arith,
      same,
      x_var-place a.n a.home a.away a.slot,
      x_place-below a.n a.home a.away a.slot r.home r.away
          r.differ r.slot,
      x_count-few a.n r.at_most,
    )
