use Rattle.std.proofs.Common.{sym}
use Rattle.refutation.proofs.LineLemmas.{are_pairs-length}
use Rattle.refutation.proofs.line.is_paired.Goals as goal

pub returns : goal.returns
returns c = sym (are_pairs-length c.args.numbers.now)
