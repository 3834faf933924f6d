use Rattle.std.proofs.Common.{arith, rules}
use Rattle.std.proofs.lemmas.Grind.{common_steps}
use Rattle.std.proofs.lemmas.Int.{to_z-of_z}
use Rattle.std.proofs.lemmas.List.Sums.{fold_more}
use Rattle.planes.proofs.counts.divide_counts.Goals as goal

pub loop-lit-preserved : goal.loop-lit-preserved
loop-lit-preserved c = first_of (search (rules, fold_more), grind (arith, common_steps, to_z-of_z, fold_more))
