use Rattle.std.proofs.Common.{string_bytes}
use Rattle.std.proofs.lemmas.List.{map-set}
use Rattle.robinx.proofs.roll.put.Goals as goal

pub returns-then-place-len : goal.returns-then-place-len
returns-then-place-len c = map-set string_bytes c.args.names.now.items c.args.number c.args.name
