use Rattle.rule_core.specs.Table.{table_counts}
use Rattle.league.specs.Counts.{counts_of}
use Rattle.resume.proofs.WalkLemmas.{IsWalkOn-from, nearest-at, open-at}
use Rattle.resume.proofs.nearest.is_settled_at.Goals as goal

pub is_settled-requires : goal.is_settled-requires
is_settled-requires g c = record {
  walk = IsWalkOn-from _ c.args.plan (counts_of c.args.season.now) c.in_ok-walk.walk c.args.tally.now
      c.in_ok-walk.ensures c.requires.rules c.requires.teams c.requires.counts c.requires.plan_fit;
}

pub returns-clause-settled : goal.returns-clause-settled
returns-clause-settled g c said =
    nearest-at c.args.plan c.in_ok-walk.walk.ground.plan (counts_of c.args.season.now)
    (table_counts c.args.tally.now.table) c.in_ok-walk.ensures.same c.requires.counts
    (c.is_settled.ensures.settled said)

pub returns-clause-open_yet : goal.returns-clause-open_yet
returns-clause-open_yet g c said =
    open-at c.args.plan c.in_ok-walk.walk.ground.plan _ (counts_of c.args.season.now)
    (table_counts c.args.tally.now.table) c.in_ok-walk.ensures.same c.requires.counts
    (c.is_settled.ensures.open_yet said)
