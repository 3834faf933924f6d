use Rattle.std.proofs.Common.{◌≡◌}
use Rattle.rule_core.specs.KeyPlaces.{ArePlaces}
use Rattle.rule_core.proofs.key_places.Places.of.Given as goal

abbrev pub invariant-loop-number : goal.invariant-loop-number
invariant-loop-number l = record {
  counted : l.next ≡ l.number-index;
  are : ArePlaces l.number-index l.numbers l.places;
}
