use Rattle.std.proofs.Common.{arith}
use Rattle.league.specs.Counts.{slots_of}
use Rattle.league.specs.Structure.{first_half}
use Rattle.league.proofs.CountLemmas.{games_of-none, games_on-none}
use Rattle.league.proofs.wrongs.Tables.of.Goals as goal

pub loop-game-init : goal.loop-game-init
loop-game-init c = record {
  counted = record {
    meetings = λ i j. omega (arith, c.new.ensures i j, games_of-none i j (slots_of c.args.n));
    cells = λ i s. omega (arith, c.new-2.ensures i s, games_on-none c.args.n i s);
    halves = λ i j. omega (arith, c.new-3.ensures i j, games_of-none i j (first_half c.args.n));
  };
  bounded = record {
    meetings = λ i j. omega (arith, c.new.ensures i j);
    cells = λ i s. omega (arith, c.new-2.ensures i s);
    halves = λ i j. omega (arith, c.new-3.ensures i j);
  };
}
