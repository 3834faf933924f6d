use Rattle.std.proofs.Common.{◌≡◌, ◌++◌, drop}
use Rattle.robinx.specs.Plain.{expanded_from, expanded}
use Rattle.robinx.proofs.plain.expanded.Given as goal

-- the text so far, and then what is left, is the whole
abbrev pub invariant-loop-place : goal.invariant-loop-place
invariant-loop-place l = l.text.items ++ expanded_from l.inside (drop l.place l.bytes) ≡ expanded l.bytes
