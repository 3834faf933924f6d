use Rattle.std.proofs.Common.{◌≡◌, ◌++◌, take}
use Rattle.std.specs.List.{flat_map}
use Rattle.refutation.specs.Texts.{number_text}
use Rattle.refutation.proofs.text.put_numbers.Given as goal

-- what is written so far
abbrev pub invariant-loop-number : goal.invariant-loop-number
invariant-loop-number l =
    l.text.items ≡ l.fn.text.items ++ flat_map number_text (take l.number-index l.numbers)
