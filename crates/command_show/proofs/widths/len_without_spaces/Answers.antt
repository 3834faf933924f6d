use Rattle.std.proofs.Common.{◌==◌, arith}
use Rattle.std.specs.Str.{byte}
use Rattle.command_show.proofs.JoinedTexts.{run_back}
use Rattle.command_show.proofs.widths.len_without_spaces.Goals as goal

pub returns-after-loop-len-clause-value : goal.returns-after-loop-len-clause-value
returns-after-loop-len-clause-value c =
    run_back (λ b. b == byte " ") c.args.line.now c.loop-len.len c.loop-len.invariant.within c.loop-len.invariant.after (λ some. absurd (omega (arith, c.loop-len-test.false)))
