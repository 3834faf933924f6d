use Rattle.std.proofs.Common.{◌≡◌, ◌++◌, drop, map, string_bytes}
use Rattle.answers.specs.Input.{named_from}
use Rattle.answers.specs.declared.input.Place.TheVariants.{Argument}
use Rattle.answers.proofs.input.with_input.Given as goal

-- the words so far, and then those that are left to come, are the whole
abbrev pub invariant-loop-word : goal.invariant-loop-word
invariant-loop-word l =
    map string_bytes l.read.items ++ named_from l.command l.place (map string_bytes (drop l.word-index l.words))
    ≡ named_from l.command (Argument 0) (map string_bytes l.words)
