use Rattle.std.proofs.Common.{◌≡◌, ◌+◌, ◌-◌, ◌<◌, ℕ, Bool, true, false, List, length, get_or, set, replicate, ap, arith, subst, sym, ◌∙◌}
use Rattle.std.proofs.lemmas.List.{get_or_read, with_items_is}
use Rattle.explain.specs.Used.{AreNoted, named_at}
use Rattle.explain.proofs.UsedLemmas.{IsMarking, all_marked, marked-unused, marked-used, marking-last, marking-none}
use Rattle.explain.proofs.used.marked.Goals as goal
use Rattle.explain.proofs.used.marked.Goals.{then-steps-gt0, else-steps-gt0, then-index, else-index}

pub loop-done-init : goal.loop-done-init
loop-done-init c =
    let count : ℕ = c.in-Some.count in
    let all : count ≡ c.args.rows + length c.args.log.now = omega (arith, c.in-Some.ensures.1, c.len-steps.ensures) in
    let unset : c.in_ok-flags.flags.items ≡ replicate count false =
    c.in_ok-flags.ensures.items_if_clones_equal (λ y is. is) in
    subst (λ (k : ℕ). IsMarking c.args.rows c.args.log.now k c.if-steps-gt0.flags.items)
    (let same : length c.args.log.now ≡ c.len-steps.result - 0 = omega (arith, c.len-steps.ensures) in same)
    (elim c.if-steps-gt0.branch [
      | then-steps-gt0 w ↦
          marking-last c.args.rows c.args.log.now count c.if-steps-gt0.flags.items all
          (omega (arith, c.len-steps.ensures, w.if-steps-gt0.true))
          (ap (λ v. v.items) w.flags-is ∙ ap (λ (bs : List Bool). set bs (count - 1) true) unset)
      | else-steps-gt0 w ↦
          marking-none c.args.rows c.args.log.now count c.if-steps-gt0.flags.items all
          (omega (arith, c.len-steps.ensures, w.if-steps-gt0.false)) (ap (λ v. v.items) w.flags-is ∙ unset)
    ])

pub loop-done-preserved : goal.loop-done-preserved
loop-done-preserved c =
    let rows : ℕ = c.args.rows in
    let k : ℕ = c.len-steps.result - 1 - c.loop-done.done in
    let flags : List Bool = c.loop-done.flags.items in
    let within : rows + k < length flags =
    omega (arith, c.loop-done.invariant.long, c.len-steps.ensures, c.loop-done-test.true) in
    let read : c.index.result.now ≡ get_or flags (rows + k) false =
    get_or_read flags (rows + k) c.index.result.now within c.index.ensures false in
    elim c.if-index.branch [
      | then-index w ↦
          let new : List Bool = w.note_step.new.flags in
          subst (λ (bs : List Bool). IsMarking rows c.args.log.now (c.len-steps.result - (c.loop-done.done + 1)) bs)
          (sym (ap (λ v. v.items) w.flags-is
          ∙ with_items_is c.loop-done.flags new (omega (arith, w.note_step.ensures.long, w.deref_mut.ensures.len))))
          (marked-used rows c.args.log.now c.len-steps.result c.loop-done.done k flags new c.loop-done.invariant
          c.len-steps.ensures c.loop-done-test.true (omega arith) (sym read ∙ w.if-index.true)
          (subst (λ (bs : List Bool). AreNoted (rows + k) (named_at c.args.log.now k) bs new) w.deref_mut.ensures.value
          w.note_step.ensures))
      | else-index w ↦
          subst (λ (bs : List Bool). IsMarking rows c.args.log.now (c.len-steps.result - (c.loop-done.done + 1)) bs)
          (sym (ap (λ v. v.items) w.flags-is))
          (marked-unused rows c.args.log.now c.len-steps.result c.loop-done.done k flags c.loop-done.invariant
          c.loop-done-test.true (omega arith) (sym read ∙ w.if-index.false))
    ]

pub returns : goal.returns
returns c =
    all_marked c.args.rows c.args.log.now (c.len-steps.result - c.loop-done.done) c.loop-done.flags.items
    c.loop-done.invariant (omega arith)
