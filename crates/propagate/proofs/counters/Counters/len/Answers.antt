use Rattle.std.proofs.Common.{subst}
use Rattle.std.specs.List.{All}
use Rattle.rows.specs.Rows.{IsRow}
use Rattle.propagate.specs.Counters.{SeenCounters}
use Rattle.propagate.proofs.counters.Counters.len.Goals as goal

pub returns-clause-proper : goal.returns-clause-proper
returns-clause-proper c = subst (λ (s : SeenCounters). All IsRow s.rows) c.self.view_is c.self.invariant.proper
