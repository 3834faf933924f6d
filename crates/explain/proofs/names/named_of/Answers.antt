use Rattle.std.proofs.Common.{◌≡◌, Bool, List, ℕ, length, ap, arith, subst, sym, ◌∙◌}
use Rattle.encoding.specs.Encoding.{rows_of}
use Rattle.rows.specs.Rows.{Row}
use Rattle.explain.specs.Used.{IsMarked}
use Rattle.explain.proofs.NamedLemmas.{AreNamedSoFar, named-all, named-flagged, named-none, named-unflagged}
use Rattle.explain.proofs.names.named_of.Goals as goal
use Rattle.explain.proofs.names.named_of.Goals.{then-has_flag+in_ok-push, else-has_flag}

pub loop-place-init : goal.loop-place-init
loop-place-init c =
    subst (λ (ks : List ℕ). AreNamedSoFar c.args.encoding.now c.args.numbers.now c.args.log.now ks 0)
    (sym c.new-named.ensures.items) (named-none c.args.encoding.now c.args.numbers.now c.args.log.now)

pub loop-place-preserved : goal.loop-place-preserved
loop-place-preserved c =
    let league = c.args.encoding.now in
    let flags : List Bool = c.deref.result.now in
    let marked : IsMarked c.len.result c.args.log.now flags =
    subst (λ (bs : List Bool). IsMarked c.len.result c.args.log.now bs) (sym c.deref.ensures.value) c.in_ok-flags.ensures in
    let all : c.len.result ≡ length (rows_of league) =
    c.len.ensures.len ∙ ap (λ (rows : List Row). length rows) c.rows.ensures in
    elim c.if-has_flag.branch [
      | then-has_flag+in_ok-push w ↦
          named-flagged league c.args.numbers.now c.args.log.now flags c.len.result c.loop-place.place
          c.rows_of_constraint.result.start c.rows_of_constraint.result.end c.loop-place.named.items
          c.if-has_flag.named.items marked all c.rows_of_constraint.ensures.start c.rows_of_constraint.ensures.end
          (omega (arith, c.requires, c.loop-place-test.true)) (omega (arith, c.loop-place-test.true))
          (c.has_flag.ensures.set w.if-has_flag.true)
          (ap (λ v. v.items) w.named-is ∙ w.in_ok-push.ensures.items) c.loop-place.invariant
      | else-has_flag w ↦
          named-unflagged league c.args.numbers.now c.args.log.now flags c.len.result c.loop-place.place
          c.rows_of_constraint.result.start c.rows_of_constraint.result.end c.loop-place.named.items
          c.if-has_flag.named.items marked all c.rows_of_constraint.ensures.start c.rows_of_constraint.ensures.end
          (c.has_flag.ensures.unset w.if-has_flag.false) (ap (λ v. v.items) w.named-is) c.loop-place.invariant
    ]

pub returns : goal.returns
returns c =
    named-all c.args.encoding.now c.args.numbers.now c.args.log.now c.loop-place.named.items c.loop-place.place
    c.loop-place.invariant (omega arith)
