use Rattle.std.proofs.Common.{arith, ap, ◌∙◌}
use Rattle.moves.specs.Rest.{part_team_swaps}
use Rattle.moves.proofs.RestLemmas.{part_teams-from}
use Rattle.moves.proofs.neighbours.after_pair_of_part_teams.Goals as goal

pub returns-in-Some : goal.returns-in-Some
returns-in-Some c = record {
  listed = (c.in-Some.ensures.1, c.in-Some.ensures.2, omega (arith, c.requires.teams.at_least));
  rest = ap (part_team_swaps c.args.n) c.in-Some.ensures.0 ∙ part_teams-from c.args.n c.in-Some.pair.0 c.in-Some.pair.1 c.in-Some.ensures.2;
}
