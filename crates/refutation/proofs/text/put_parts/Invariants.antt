use Rattle.std.proofs.Common.{◌≡◌, ◌++◌, take}
use Rattle.std.specs.List.{All, flat_map}
use Rattle.refutation.specs.Texts.{part_text}
use Rattle.refutation.specs.Written.{IsFactored}
use Rattle.refutation.proofs.text.put_parts.Given as goal

-- what is written so far
abbrev pub invariant-loop-part : goal.invariant-loop-part
invariant-loop-part l =
    (l.text.items ≡ l.fn.text.items ++ flat_map part_text (take l.part-index l.parts)) × All IsFactored
    (take l.part-index l.parts)
