use Rattle.std.proofs.Common.{codes}
use Rattle.command_explain.specs.Texts.{minimal_line}
use Rattle.command_explain.proofs.TextLemmas.{minimal-no, minimal-yes, put_so}
use Rattle.command_explain.proofs.texts.put_minimal.Goals as goal

pub returns-then-are_decided : goal.returns-then-are_decided
returns-then-are_decided c =
    put_so c.extend_from_slice.result c.args.text.now.items c.extend_from_slice.new.self.items
    (codes "minimal yes\n") (minimal_line c.args.cases.now) c.extend_from_slice.ensures.items
    (minimal-yes c.args.cases.now c.are_decided.result c.are_decided.ensures c.if-are_decided.true)

pub returns-else-are_decided : goal.returns-else-are_decided
returns-else-are_decided c =
    put_so c.extend_from_slice-else-are_decided.result c.args.text.now.items
    c.extend_from_slice-else-are_decided.new.self.items (codes "minimal no\n") (minimal_line c.args.cases.now)
    c.extend_from_slice-else-are_decided.ensures.items
    (minimal-no c.args.cases.now c.are_decided.result c.are_decided.ensures c.if-are_decided.false)
