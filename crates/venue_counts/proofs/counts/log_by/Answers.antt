use Rattle.std.proofs.Common.{subst, sym}
use Rattle.league.specs.Instance.{Instance}
use Rattle.venue_counts.specs.Groups.{IsGroup}
use Rattle.venue_counts.proofs.CountedLemmas.{adds-of}
use Rattle.venue_counts.proofs.counts.log_by.Goals as goal

pub log_of-requires : goal.log_of-requires
log_of-requires c =
    subst (λ (league : Instance). IsGroup c.args.limit league.n league.constraints c.args.group.now)
    (sym c.in_ok-encoding.ensures) c.requires.group

pub returns-clause-adds_up : goal.returns-clause-adds_up
returns-clause-adds_up c =
    adds-of c.args.limit c.args.league.now c.in_ok-encoding.encoding c.args.group.now c.in_ok-log.log
    c.in_ok-encoding.ensures c.in_ok-log.ensures.adds_up
