use Rattle.std.proofs.Common.{◌+◌, arith, ◌∙◌}
use Rattle.moves.proofs.RestLemmas.{from_part_teams-start, part_rounds-from, part_rounds-none}
use Rattle.moves.proofs.neighbours.after_team_of_part_rounds.Goals as goal

pub returns-then-i-n : goal.returns-then-i-n
returns-then-i-n c = record {
  listed = (c.if-i-n.true, omega arith, omega (arith, c.requires.teams.at_least));
  rest = part_rounds-from c.args.n (c.args.i.0 + 1) c.if-i-n.true c.requires.teams.at_least;
}

pub returns-else-i-n : goal.returns-else-i-n
returns-else-i-n c = record {
  listed = (omega arith, omega (arith, c.requires.teams.at_least), omega (arith, c.requires.teams.at_least));
  rest = part_rounds-none c.args.n c.args.i.0 c.if-i-n.false ∙ from_part_teams-start c.args.n c.requires.teams.at_least;
}
