use Rattle.std.proofs.Common.{arith}
use Rattle.std.proofs.lemmas.Bool.Decides.{nat_tests}
use Rattle.command_line.proofs.StandingLemmas.{plain-few, plain-many}
use Rattle.command_line.proofs.plain_words.read_plain.Goals as goal
use Rattle.command_line.proofs.plain_words.read_plain.Goals.{in_default-via-then-words-lt1, in_default-via-else-words-lt1+else-words-lt2+else-words-lt3}

pub returns-in_default : goal.returns-in_default
returns-in_default c =
    elim c.in_default.branch [
      | in_default-via-then-words-lt1 w ↦ plain-few c.args.command.now c.args.words.now (grind (arith, nat_tests))
      | in_default-via-else-words-lt1+else-words-lt2+else-words-lt3 w ↦
          plain-many c.args.command.now c.args.words.now (grind (arith, nat_tests))
    ]
