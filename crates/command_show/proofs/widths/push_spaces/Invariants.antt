use Rattle.std.proofs.Common.{◌≡◌, ◌++◌}
use Rattle.command_show.specs.Widths.{spaces}
use Rattle.command_show.proofs.widths.push_spaces.Given as goal

abbrev pub invariant-loop-space : goal.invariant-loop-space
invariant-loop-space l = l.text.items ≡ l.fn.text.items ++ spaces l._space
