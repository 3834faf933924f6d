use Rattle.season_misses.proofs.PairLemmas.{fa2-below, se1-below}
use Rattle.season_misses.proofs.classes.push_of_pair.Goals as goal

pub push_lead-requires-clause-first : goal.push_lead-requires-clause-first
push_lead-requires-clause-first c =
    (fa2-below c.args.season.now.cells.now.n c.args.class.now c.in-Fa2.teams c.in-Fa2.intp c.in-Fa2.slots c.args.key c.pair_at.result.0.0 c.pair_at.result.1.0 c.in-Fa2.is c.requires.fits c.requires.key c.pair_at.ensures).0

pub push_lead-requires-clause-second : goal.push_lead-requires-clause-second
push_lead-requires-clause-second c =
    (fa2-below c.args.season.now.cells.now.n c.args.class.now c.in-Fa2.teams c.in-Fa2.intp c.in-Fa2.slots c.args.key c.pair_at.result.0.0 c.pair_at.result.1.0 c.in-Fa2.is c.requires.fits c.requires.key c.pair_at.ensures).1

pub push_gaps-requires-clause-team : goal.push_gaps-requires-clause-team
push_gaps-requires-clause-team c =
    (se1-below c.args.season.now.cells.now.n c.args.class.now c.in-Se1.teams c.in-Se1.min c.args.key c.pair_at-in-Se1.result.0.0 c.pair_at-in-Se1.result.1.0 c.in-Se1.is c.requires.fits c.requires.key c.pair_at-in-Se1.ensures).0
