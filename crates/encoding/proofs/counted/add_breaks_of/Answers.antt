use Rattle.std.proofs.Common.{ℕ, ap, arith, cond, get_or, map, nat_lt, ◌∙◌}
use Rattle.std.proofs.lemmas.Bool.{le-ltb, lt-ltb}
use Rattle.league.specs.Counts.{slot_count}
use Rattle.rows.specs.Literals.{Literal, yes}
use Rattle.encoding.specs.Lists.{after_first}
use Rattle.encoding.specs.Variables.{ab_var, hb_var}
use Rattle.encoding.proofs.AscendLemmas.{AscendsBy-below}
use Rattle.encoding.proofs.GrownLemmas.{grown_by_all, grown_by_passing, same_by_failing}
use Rattle.encoding.proofs.counted.add_breaks_of.Goals as goal
use Rattle.encoding.proofs.counted.add_breaks_of.Goals.{then-slot-gt0+in_ok-push, else-slot-gt0}

pub break_at-requires : goal.break_at-requires
break_at-requires c = record {
  n = c.requires.n;
  team = c.requires.team;
  later = c.if-slot-gt0.true;
  slot = AscendsBy-below (λ s. s) 0 c.args.slots.now (slot_count c.args.n) c.requires.slots c.loop-slot.slot-index 0
      c.loop-slot-test.true;
}

pub loop-slot-preserved : goal.loop-slot-preserved
loop-slot-preserved c =
    let break : ℕ → Literal = λ s.
    yes (cond c.args.home (hb_var c.args.n c.args.team s) (ab_var c.args.n c.args.team s)) in
    let slots = c.args.slots.now in
    let k = c.loop-slot.slot-index in
    let slot : ℕ = get_or slots k 0 in
    elim c.if-slot-gt0.branch [
      | then-slot-gt0+in_ok-push w ↦
          grown_by_passing (nat_lt 0) slots k 0 c.loop-slot-test.true break c.args.literals.now.items
          c.loop-slot.literals.items c.if-slot-gt0.literals.items w.break_at.result c.loop-slot.invariant
          (ap (λ v. v.items) w.literals-is ∙ w.in_ok-push.ensures.items) w.break_at.ensures
          (lt-ltb 0 slot w.if-slot-gt0.true)
      | else-slot-gt0 w ↦
          same_by_failing (nat_lt 0) slots k 0 c.loop-slot-test.true break c.args.literals.now.items
          c.loop-slot.literals.items c.if-slot-gt0.literals.items c.loop-slot.invariant
          (ap (λ v. v.items) w.literals-is) (le-ltb 0 slot w.if-slot-gt0.false)
    ]

pub returns : goal.returns
returns c =
    let break : ℕ → Literal = λ s.
    yes (cond c.args.home (hb_var c.args.n c.args.team s) (ab_var c.args.n c.args.team s)) in
    grown_by_all (λ ss. map break (after_first ss)) c.args.literals.now.items c.loop-slot.literals.items
    c.args.slots.now c.loop-slot.slot-index (omega arith) c.loop-slot.invariant
