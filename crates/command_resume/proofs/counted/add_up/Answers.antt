use Rattle.std.proofs.Common.{List, Option, inr, subst}
use Rattle.std.specs.Prelude.{IfSome}
use Rattle.refutation.specs.Steps.{Step}
use Rattle.break_counts.specs.Sums.{AddUp}
use Rattle.command_resume.proofs.CountLemmas.{counts-season}
use Rattle.command_resume.proofs.counted.add_up.Goals as goal

pub returns : goal.returns
returns c =
    counts-season c.args.league.now c.args.played.now c.args.k c.in_ok-season.season c.in_ok-log.log
    (inr (subst (λ (found : Option (List Step)). IfSome found (λ log. AddUp c.args.league.now)) c.in-Some.is
    c.in_ok-added.ensures.few))
    c.in_ok-season.ensures c.in_ok-log.ensures
