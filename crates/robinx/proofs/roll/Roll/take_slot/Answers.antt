use Rattle.std.proofs.Common.{map, string_bytes, sym, subst}
use Rattle.std.specs.List.{All}
use Rattle.std.proofs.lemmas.List.Elements.{All-set}
use Rattle.robinx.specs.Plain.{IsPlain}
use Rattle.robinx.proofs.roll.Roll.take_slot.Goals as goal

pub invariant_of-self : goal.invariant_of-self
invariant_of-self c = record {
  slots = subst (All IsPlain) (sym c.put.ensures) (All-set IsPlain (map string_bytes c.self.inside.slots.items) c.in_ok-id.id (string_bytes c.in_ok-name.name) c.in_ok-name.ensures.plain c.self.invariant.slots);
  teams = c.self.invariant.teams;
}
