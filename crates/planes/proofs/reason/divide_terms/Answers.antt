use Rattle.std.proofs.Common.{w64, of_z, to_z, arith, rules}
use Rattle.std.proofs.lemmas.Grind.{common_steps}
use Rattle.std.proofs.lemmas.Int.{to_z-of_z}
use Rattle.std.proofs.lemmas.List.Edits.{map_over_more}
use Rattle.planes.specs.Dividing.{divided_term}
use Rattle.planes.proofs.reason.divide_terms.Goals as goal

pub loop-term-preserved : goal.loop-term-preserved
loop-term-preserved c = first_of (
  search (rules, map_over_more (divided_term c.args.divisor)),
  search (rules, map_over_more (divided_term (to_z w64 (of_z w64 c.args.divisor)))),
  grind (arith, common_steps, to_z-of_z, map_over_more (divided_term c.args.divisor)),
)
