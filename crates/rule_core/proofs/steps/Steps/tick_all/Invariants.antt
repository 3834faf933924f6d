use Rattle.std.proofs.Common.{◌≡◌, ◌+◌}
use Rattle.rule_core.proofs.steps.Steps.tick_all.Given as goal

abbrev pub invariant-loop-counted : goal.invariant-loop-counted
invariant-loop-counted g l = l.self ≡ l.fn.self + l._counted
