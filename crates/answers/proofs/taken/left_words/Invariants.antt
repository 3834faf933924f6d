use Rattle.std.proofs.Common.{◌≡◌, ◌++◌, None, drop, map, string_bytes}
use Rattle.answers.specs.Own.{left_from}
use Rattle.answers.proofs.taken.left_words.Given as goal

-- the words so far, and then those that are left to come, are the whole
abbrev pub invariant-loop-word : goal.invariant-loop-word
invariant-loop-word l =
    map string_bytes l.left.items ++ left_from l.before (map string_bytes (drop l.word-index l.words))
    ≡ left_from None (map string_bytes l.words)
