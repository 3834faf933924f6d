use Rattle.std.proofs.Common.{◌≡◌, ◌++◌, drop}
use Rattle.std.specs.List.{flat_map}
use Rattle.command_show.specs.Csv.{doubled}
use Rattle.command_show.proofs.csv.push_doubled.Given as goal

-- the text so far, and then what is left, is the whole
abbrev pub invariant-loop-byte : goal.invariant-loop-byte
invariant-loop-byte l = l.text.items ++ flat_map doubled (drop l.byte-index l.field) ≡ l.fn.text.items ++ flat_map doubled l.field
