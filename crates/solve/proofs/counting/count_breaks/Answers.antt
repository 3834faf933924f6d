use Rattle.std.proofs.Common.{List, Option, subst}
use Rattle.std.specs.Prelude.{IfSome}
use Rattle.refutation.specs.Steps.{Step}
use Rattle.venue_counts.specs.CountLogs.{IsRefuting}
use Rattle.solve.proofs.CountingLemmas.{any_refuted, refuted_by}
use Rattle.solve.proofs.counting.count_breaks.Goals as goal

pub returns-in-Some-clause-refuted : goal.returns-in-Some-clause-refuted
returns-in-Some-clause-refuted c =
    refuted_by c.args.league.now c.in-Some.log c.in_ok-log.ensures.instance
    (subst (λ (found : Option (List Step)). IfSome found (IsRefuting c.args.league.now)) c.in-Some.is
    c.in_ok-log.ensures.refuting)

pub returns-clause-refuted : goal.returns-clause-refuted
returns-clause-refuted c =
    any_refuted c.args.league.now c.in_ok-sum.sum c.in_ok-sum.ensures.instance c.in_ok-sum.ensures.refuting
