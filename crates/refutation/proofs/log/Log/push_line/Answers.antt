use Rattle.std.proofs.Common.{sym, ◌∙◌}
use Rattle.refutation.proofs.FrontLemmas.{none-taken}
use Rattle.refutation.proofs.log.Log.push_line.Goals as goal

pub returns-in-One : goal.returns-in-One
returns-in-One c =
    none-taken c.args.version c.args.bytes.now c.in_ok-read.read _ _ (sym c.is_some.ensures ∙ c.if-is_some.false)
    c.in_ok-read.ensures
