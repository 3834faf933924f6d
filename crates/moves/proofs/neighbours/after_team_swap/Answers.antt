use Rattle.std.proofs.Common.{◌++◌, ℕ, List, map, arith, ap, ◌∙◌}
use Rattle.moves.specs.Neighbours.{team_swap}
use Rattle.moves.specs.Rest.{from_part_rounds}
use Rattle.moves.proofs.RestLemmas.{from_part_rounds-start}
use Rattle.moves.proofs.neighbours.after_team_swap.Goals as goal

pub returns-in-None : goal.returns-in-None
returns-in-None c = record {
  listed = (omega (arith, c.requires.teams.at_least), omega arith, omega (arith, c.requires.teams.at_least));
  rest = ap (λ (ps : List (ℕ × ℕ)). map team_swap ps ++ from_part_rounds c.args.n) c.in-None.ensures ∙ from_part_rounds-start c.args.n c.requires.teams.at_least;
}
