use Rattle.std.proofs.Common.{◌-◌, ◌&&◌, ◌==◌, arith}
use Rattle.league.specs.Counts.{slot_count}
use Rattle.league.proofs.CountLemmas.{games_of-push_in, games_of-push_out, games_on-push}
use Rattle.league.proofs.RangeLemmas.{one_if-le}
use Rattle.league.proofs.wrongs.Tables.add.Goals as goal

pub returns-then-slot-n-clause-counted : goal.returns-then-slot-n-clause-counted
returns-then-slot-n-clause-counted c = λ games was. record {
  meetings = λ i j. omega (arith, c.add.ensures i j, was.meetings i j, games_of-push_in games c.args.game i j (slot_count c.args.n) c.requires.fits.slot);
  cells = λ i s. omega (arith, c.add-2.ensures i s, c.add-3.ensures i s, was.cells i s, games_on-push c.args.n games c.args.game i s c.requires.fits);
  halves = λ i j. omega (arith, c.add-then-slot-n.ensures i j, was.halves i j, games_of-push_in games c.args.game i j (c.args.n - 1) (omega arith));
}

pub returns-else-slot-n-clause-counted : goal.returns-else-slot-n-clause-counted
returns-else-slot-n-clause-counted c = λ games was. record {
  meetings = λ i j. omega (arith, c.add.ensures i j, was.meetings i j, games_of-push_in games c.args.game i j (slot_count c.args.n) c.requires.fits.slot);
  cells = λ i s. omega (arith, c.add-2.ensures i s, c.add-3.ensures i s, was.cells i s, games_on-push c.args.n games c.args.game i s c.requires.fits);
  halves = λ i j. omega (arith, was.halves i j, games_of-push_out games c.args.game i j (c.args.n - 1) (omega arith));
}

pub returns-then-slot-n-clause-growth : goal.returns-then-slot-n-clause-growth
returns-then-slot-n-clause-growth c = λ most was. record {
  meetings = λ i j. omega (arith, c.add.ensures i j, was.meetings i j, one_if-le ((c.args.game.home.0 == i) && (c.args.game.away.0 == j)));
  cells = λ i s. omega (arith, c.add-2.ensures i s, c.add-3.ensures i s, was.cells i s, one_if-le ((c.args.game.home.0 == i) && (c.args.game.slot.0 == s)), one_if-le ((c.args.game.away.0 == i) && (c.args.game.slot.0 == s)));
  halves = λ i j. omega (arith, c.add-then-slot-n.ensures i j, was.halves i j, one_if-le ((c.args.game.home.0 == i) && (c.args.game.away.0 == j)));
}

pub returns-else-slot-n-clause-growth : goal.returns-else-slot-n-clause-growth
returns-else-slot-n-clause-growth c = λ most was. record {
  meetings = λ i j. omega (arith, c.add.ensures i j, was.meetings i j, one_if-le ((c.args.game.home.0 == i) && (c.args.game.away.0 == j)));
  cells = λ i s. omega (arith, c.add-2.ensures i s, c.add-3.ensures i s, was.cells i s, one_if-le ((c.args.game.home.0 == i) && (c.args.game.slot.0 == s)), one_if-le ((c.args.game.away.0 == i) && (c.args.game.slot.0 == s)));
  halves = λ i j. omega (arith, was.halves i j);
}
