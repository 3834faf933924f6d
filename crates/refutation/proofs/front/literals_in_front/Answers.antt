use Rattle.refutation.specs.Texts.{literal_text}
use Rattle.refutation.specs.Written.{IsVariable}
use Rattle.refutation.proofs.FrontLemmas.{literal-shorter, stand-more, stand-pushed, stand-start, stand-zero}
use Rattle.refutation.proofs.front.literals_in_front.Goals as goal

pub literals-init : goal.literals-init
literals-init c = stand-start literal_text IsVariable c.args.bytes.now c.args.literals.now.items

pub returns-in_default : goal.returns-in_default
returns-in_default c =
    stand-zero literal_text IsVariable c.args.bytes.now c.args.literals.now.items c.literals.rest.now
    c.literals.literals.items c.behind.result c.literals.invariant c.behind.ensures

pub returns-then-is_err : goal.returns-then-is_err
returns-then-is_err c =
    stand-pushed literal_text IsVariable c.args.bytes.now c.args.literals.now.items c.literals.rest.now
    c.literals.literals.items _ c.in-Some.found.0 _ c.literals.invariant c.push.ensures.items

pub literals-preserved : goal.literals-preserved
literals-preserved c =
    let pushed = rw c.if-is_err.ensures.negation at c.push.ensures.items in
    rw pushed (stand-more literal_text IsVariable c.args.bytes.now c.args.literals.now.items c.literals.rest.now
    c.in-Some.found.1.now c.literals.literals.items c.in-Some.found.0 c.literals.invariant
    c.in-Some.ensures.written c.in-Some.ensures.is)

pub literals-smaller : goal.literals-smaller
literals-smaller c = literal-shorter c.literals.rest.now c.in-Some.found.1.now c.in-Some.found.0 c.in-Some.ensures
