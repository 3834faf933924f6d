use Rattle.std.proofs.Common.{◌<◌, length, string_bytes, ap, arith}
use Rattle.std.proofs.lemmas.List.{length-map}
use Rattle.robinx.specs.Names.{Names}
use Rattle.robinx.proofs.LabelLemmas.{plain_read}
use Rattle.robinx.proofs.names.Names.slot.Goals as goal

pub returns-clause-plain : goal.returns-clause-plain
returns-clause-plain c =
    let items = c.self.inside.slots.items in
    let within : c.from.result < length items = omega (arith, length-map items string_bytes, ap (λ (n : Names). length n.slots) c.self.view_is, c.from.ensures, c.requires) in
    plain_read string_bytes items c.from.result c.index.result.now c.deref.result.now c.self.invariant.plain.slots within c.index.ensures c.deref.ensures
