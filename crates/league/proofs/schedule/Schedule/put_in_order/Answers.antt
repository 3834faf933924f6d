use Rattle.std.proofs.Common.{rules}
use Rattle.league.proofs.OrderLemmas.{IsInOrder-from_sort_by_key}
use Rattle.league.proofs.schedule.Schedule.put_in_order.Goals as goal

pub returns-clause-in_order : goal.returns-clause-in_order
returns-clause-in_order c = IsInOrder-from_sort_by_key c.sort_unstable_by_key.new.self.items c.sort_unstable_by_key.ensures.sorted (λ f a r q h. search rules)
