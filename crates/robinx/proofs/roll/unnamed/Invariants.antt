use Rattle.std.proofs.Common.{◌≡◌, [], map, replicate, string_bytes}
use Rattle.robinx.proofs.roll.unnamed.Given as goal

abbrev pub invariant-loop-place : goal.invariant-loop-place
invariant-loop-place l = map string_bytes l.names.items ≡ replicate l._place []
