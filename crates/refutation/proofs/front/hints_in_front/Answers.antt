use Rattle.refutation.specs.Texts.{number_text}
use Rattle.refutation.specs.Fronts.{IsHint}
use Rattle.refutation.proofs.FrontLemmas.{hint-shorter, stand-more, stand-pushed, stand-start, stand-zero}
use Rattle.refutation.proofs.front.hints_in_front.Goals as goal

pub hints-init : goal.hints-init
hints-init c = stand-start number_text IsHint c.args.bytes.now c.args.hints.now.items

pub returns-in_default : goal.returns-in_default
returns-in_default c =
    stand-zero number_text IsHint c.args.bytes.now c.args.hints.now.items c.hints.rest.now c.hints.hints.items
    c.behind.result c.hints.invariant c.behind.ensures

pub returns-then-is_err : goal.returns-then-is_err
returns-then-is_err c =
    stand-pushed number_text IsHint c.args.bytes.now c.args.hints.now.items c.hints.rest.now c.hints.hints.items _
    c.in-Some.found.0 _ c.hints.invariant c.push.ensures.items

pub hints-preserved : goal.hints-preserved
hints-preserved c =
    let pushed = rw c.if-is_err.ensures.negation at c.push.ensures.items in
    rw pushed (stand-more number_text IsHint c.args.bytes.now c.args.hints.now.items c.hints.rest.now
    c.in-Some.found.1.now c.hints.hints.items c.in-Some.found.0 c.hints.invariant
    c.in-Some.ensures.written c.in-Some.ensures.is)

pub hints-smaller : goal.hints-smaller
hints-smaller c = hint-shorter c.hints.rest.now c.in-Some.found.1.now c.in-Some.found.0 c.in-Some.ensures
