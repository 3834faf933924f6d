use Rattle.command_solve.proofs.PatternTexts.{lines-more}
use Rattle.command_solve.proofs.pattern_lines.patterns_text.Goals as goal

pub loop-team-preserved : goal.loop-team-preserved
loop-team-preserved c =
    lines-more c.args.patterns.now c.loop-team.team c.pattern.result.now c.loop-team.text.items
    c.put_pattern.new.text.items c.pattern.ensures c.in_ok-put_pattern.ensures c.loop-team.invariant
