use Rattle.std.proofs.Common.{◌≡◌, ◌++◌, take}
use Rattle.std.specs.List.{All, flat_map}
use Rattle.refutation.specs.Texts.{literal_text}
use Rattle.refutation.specs.Written.{IsVariable}
use Rattle.refutation.proofs.text.put_literals.Given as goal

-- what is written so far
abbrev pub invariant-loop-lit : goal.invariant-loop-lit
invariant-loop-lit l =
    (l.text.items ≡ l.fn.text.items ++ flat_map literal_text (take l.lit-index l.lits)) × All IsVariable
    (take l.lit-index l.lits)
