use Rattle.robinx.proofs.AttributeLemmas.{value_in}
use Rattle.robinx.proofs.attribute.Attrs.get.Goals as goal

pub returns : goal.returns
returns c = rw (← c.self.view_is, value_in c.args.name.now c.self.inside.list.items, ← c.as_slice.ensures) c.value_in.ensures
