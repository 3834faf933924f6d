use Rattle.std.proofs.Common.{arith, bit_and, ◌<◌, ◌^◌, ◌*◌, ◌%◌}
use Rattle.std.proofs.lemmas.Nat.{and_le_l, ones-le}
use Rattle.deviation.proofs.BreakLemmas.{twice_counted}
use Rattle.deviation.proofs.break_sums.breaks_of.Goals as goal

pub returns-clause-breaks : goal.returns-clause-breaks
returns-clause-breaks c season games within told =
    let twice = bit_and c.args.played (c.args.played * 2 ^ 1 % 2 ^ 128) in
    omega (
      arith,
      c.from.ensures,
      c.args.scope.now.set twice,
      twice_counted c.args.played games season c.args.scope.now.slots c.requires.small within told,
    )

pub returns-clause-at_most : goal.returns-clause-at_most
returns-clause-at_most c =
    let twice = bit_and c.args.played (c.args.played * 2 ^ 1 % 2 ^ 128) in
    let small : bit_and twice c.args.scope.now.bits < 2 ^ 78 =
    omega (arith, and_le_l twice c.args.scope.now.bits, and_le_l c.args.played (c.args.played * 2 ^ 1 % 2 ^ 128), c.requires.small) in
    omega (arith, c.from.ensures, ones-le 78 (bit_and twice c.args.scope.now.bits) small)
