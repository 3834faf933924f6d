use Rattle.std.proofs.Common.{arith}
use Rattle.std.proofs.lemmas.Bool.Decides.{nat_tests}
use Rattle.bounds.proofs.ReadLemmas.{log_behind-empty}
use Rattle.bounds.proofs.reading.log_behind.Goals as goal

pub returns-then-not-is_empty : goal.returns-then-not-is_empty
returns-then-not-is_empty c =
    log_behind-empty c.args.bound c.args.rest.now c.if-bound-gt0.false (λ empty. grind (arith, nat_tests))
