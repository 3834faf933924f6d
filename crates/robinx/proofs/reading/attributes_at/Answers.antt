use Rattle.std.proofs.Common.{◌∷◌, [], length-append, sym, arith, ◌∙◌}
use Rattle.std.proofs.lemmas.Result.{err_from_is_err_and}
use Rattle.robinx.specs.SeenAttr.{attribute_of}
use Rattle.robinx.proofs.AttributeLemmas.{attributes_at-end, attributes_at-fault, attributes_at-too_many, attributes_at-bad, attributes_at-more, more_attributes-more}
use Rattle.robinx.proofs.reading.attributes_at.Goals as goal

pub returns-in_err-end-clause-tag : goal.returns-in_err-end-clause-tag
returns-in_err-end-clause-tag c =
    let p = err_from_is_err_and c.from_residual.result c.from_residual.ensures.1 in
    rw (p.1, p.2) (sym c.attributes.invariant.tag ∙ attributes_at-fault c.attributes.left c.attributes.attrs c.attributes.rest.now c.in_err-end.field-0.0 c.in_err-end.ensures)

pub returns-in_err-end-clause-memory : goal.returns-in_err-end-clause-memory
returns-in_err-end-clause-memory c =
    let p = err_from_is_err_and c.from_residual.result c.from_residual.ensures.1 in
    λ wants. absurd (cc (p.1, p.2, wants))

pub returns-in-Some-clause-tag : goal.returns-in-Some-clause-tag
returns-in-Some-clause-tag c =
    let end = rw c.in-Some.is at c.in_ok-end.ensures in
    sym c.attributes.invariant.tag ∙ attributes_at-end c.attributes.left c.attributes.attrs c.attributes.rest.now c.in_ok-end.begin.now c.in-Some.kind end

pub returns-in-None-clause-tag : goal.returns-in-None-clause-tag
returns-in-None-clause-tag c =
    let end = rw c.in-None.is at c.in_ok-end.ensures in
    sym c.attributes.invariant.tag ∙ attributes_at-too_many c.attributes.left c.attributes.attrs c.attributes.rest.now c.in_ok-end.begin.now c.if-left-eq0.true end

pub returns-in_err-attr-in-None-2-clause-tag : goal.returns-in_err-attr-in-None-2-clause-tag
returns-in_err-attr-in-None-2-clause-tag c =
    let end = rw c.in-None.is at c.in_ok-end.ensures in
    let bad = attributes_at-bad c.attributes.left c.attributes.attrs c.attributes.rest.now c.in_ok-end.begin.now c.in_err-attr-in-None-2.field-0.0 c.if-left-eq0.false end c.in_err-attr-in-None-2.ensures in
    let p = err_from_is_err_and c.from_residual-in_err-attr-in-None-2.result c.from_residual-in_err-attr-in-None-2.ensures.1 in
    rw (p.1, p.2) (sym c.attributes.invariant.tag ∙ bad)

pub returns-in_err-attr-in-None-2-clause-memory : goal.returns-in_err-attr-in-None-2-clause-memory
returns-in_err-attr-in-None-2-clause-memory c =
    let p = err_from_is_err_and c.from_residual-in_err-attr-in-None-2.result c.from_residual-in_err-attr-in-None-2.ensures.1 in
    λ wants. absurd (cc (p.1, p.2, wants))

pub attributes-preserved : goal.attributes-preserved
attributes-preserved c =
    let end = rw c.in-None.is at c.in_ok-end.ensures in
    let tag = attributes_at-more c.attributes.left c.attributes.attrs c.attributes.rest.now c.in_ok-end.begin.now _ _ c.if-left-eq0.false end c.in_ok-attr-in-None-2.ensures in
    let more = more_attributes-more c.attributes.left c.attributes.attrs c.attributes.rest.now c.in_ok-end.begin.now _ _ c.if-left-eq0.false end c.in_ok-attr-in-None-2.ensures in
    record {
      tag = rw c.in_ok-push-in-None-2.ensures.ok (sym tag ∙ c.attributes.invariant.tag);
      count = rw c.in_ok-push-in-None-2.ensures.ok (omega (arith, length-append c.attributes.attrs (attribute_of c.in_ok-attr-in-None-2.attr ∷ []), more, c.attributes.invariant.count));
    }

pub returns-in_err-push-in-None-2-clause-tag : goal.returns-in_err-push-in-None-2-clause-tag
returns-in_err-push-in-None-2-clause-tag c =
    let p = err_from_is_err_and c.from_residual-in_err-push-in-None-2.result c.from_residual-in_err-push-in-None-2.ensures.1 in
    rw (p.1, p.2) tt

pub returns-in_err-push-in-None-2-clause-memory : goal.returns-in_err-push-in-None-2-clause-memory
returns-in_err-push-in-None-2-clause-memory c =
    let end = rw c.in-None.is at c.in_ok-end.ensures in
    let more = more_attributes-more c.attributes.left c.attributes.attrs c.attributes.rest.now c.in_ok-end.begin.now _ _ c.if-left-eq0.false end c.in_ok-attr-in-None-2.ensures in
    λ wants. omega (arith, more, c.attributes.invariant.count, c.in_err-push-in-None-2.ensures.memory)
