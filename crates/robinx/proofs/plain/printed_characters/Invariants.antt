use Rattle.std.proofs.Common.{◌≡◌, map}
use Rattle.robinx.specs.Plain.{printed}
use Rattle.robinx.proofs.plain.printed_characters.Given as goal

abbrev pub invariant-loop-c : goal.invariant-loop-c
invariant-loop-c l = l.characters.items ≡ map printed l.yielded
