use Rattle.std.proofs.Common.{rules}
use Rattle.explain.proofs.UsedLemmas.{noted-clause, noted-sum}
use Rattle.explain.proofs.used.note_step.Goals as goal

pub returns-in-Clause : goal.returns-in-Clause
returns-in-Clause c =
    noted-clause c.args.limit c.args.k c.args.log.now c.hints.result.now c.args.flags.now c.note_hints.new.flags
    (search rules) c.hints.ensures c.note_hints.ensures

pub returns-in-Linear : goal.returns-in-Linear
returns-in-Linear c =
    noted-sum c.args.limit c.args.k c.args.log.now c.parts.result.now c.args.flags.now c.note_rows.new.flags
    (search rules) c.parts.ensures.parts c.note_rows.ensures
