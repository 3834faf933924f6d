use Rattle.refutation.specs.Texts.{part_text}
use Rattle.refutation.specs.Fronts.{ArePartHints}
use Rattle.refutation.proofs.FrontLemmas.{part-shorter, stand-more, stand-pushed, stand-start, stand-zero}
use Rattle.refutation.proofs.front.parts_in_front.Goals as goal

pub parts-init : goal.parts-init
parts-init c = stand-start part_text ArePartHints c.args.bytes.now c.args.parts.now.items

pub returns-in_default : goal.returns-in_default
returns-in_default c =
    stand-zero part_text ArePartHints c.args.bytes.now c.args.parts.now.items c.parts.rest.now c.parts.parts.items
    c.behind.result c.parts.invariant c.behind.ensures

pub returns-then-is_err : goal.returns-then-is_err
returns-then-is_err c =
    stand-pushed part_text ArePartHints c.args.bytes.now c.args.parts.now.items c.parts.rest.now c.parts.parts.items _
    c.in-Some.found.0 _ c.parts.invariant c.push.ensures.items

pub parts-preserved : goal.parts-preserved
parts-preserved c =
    let pushed = rw c.if-is_err.ensures.negation at c.push.ensures.items in
    rw pushed (stand-more part_text ArePartHints c.args.bytes.now c.args.parts.now.items c.parts.rest.now
    c.in-Some.found.1.now c.parts.parts.items c.in-Some.found.0 c.parts.invariant
    c.in-Some.ensures.written c.in-Some.ensures.are)

pub parts-smaller : goal.parts-smaller
parts-smaller c = part-shorter c.parts.rest.now c.in-Some.found.1.now c.in-Some.found.0 c.in-Some.ensures
