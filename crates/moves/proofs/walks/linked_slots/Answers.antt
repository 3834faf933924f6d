use Rattle.std.proofs.Common.{◌≡◌, ℕ, ◌<◌, ◌≤◌, true, false, length, set, refl, arith, ◌∙◌}
use Rattle.std.proofs.lemmas.List.{length-set}
use Rattle.league.specs.Counts.{slot_count}
use Rattle.moves.specs.Round.{round_counts}
use Rattle.moves.specs.Walks.{IsSlotWalk, is_marked}
use Rattle.moves.proofs.StepLemmas.{IsSlotWalk-more, IsSlotWalk-none, slot_start, slot_walk_closed, slot_walk_end}
use Rattle.moves.proofs.WalkLemmas.{count-mark, marked-le}
use Rattle.moves.proofs.walks.linked_slots.Goals as goal

pub cycle-init : goal.cycle-init
cycle-init c = (IsSlotWalk-none c.args.board.now.n (round_counts c.args.board.now) c.args.i.0 c.args.j.0 c.args.slot.0 78 c.requires.slot c.requires.apart, refl)

pub cycle-preserved : goal.cycle-preserved
cycle-preserved c =
    let n : ℕ = c.args.board.now.n in
    let unmarked : is_marked c.cycle.marks c.cycle.next.0 ≡ false = grind arith in
    let most : slot_count n ≤ length c.cycle.marks = omega (arith, c.cycle.invariant.1, c.n-most.ensures.teams.at_most) in (
      IsSlotWalk-more n (round_counts c.args.board.now) c.args.i.0 c.args.j.0 c.args.slot.0 c.cycle.marks c.cycle.next.0 c.next_slot-next.result.0
          c.cycle.invariant.0 most unmarked c.next_slot-next.ensures.below c.next_slot-next.ensures.apart c.next_slot-next.ensures.follows,
      length-set c.cycle.marks c.cycle.next.0 true ∙ c.cycle.invariant.1,
    )

pub cycle-smaller : goal.cycle-smaller
cycle-smaller c =
    let n : ℕ = c.args.board.now.n in
    let unmarked : is_marked c.cycle.marks c.cycle.next.0 ≡ false = grind arith in
    let most : slot_count n ≤ length c.cycle.marks = omega (arith, c.cycle.invariant.1, c.n-most.ensures.teams.at_most) in
    let walk : IsSlotWalk n (round_counts c.args.board.now) c.args.i.0 c.args.j.0 c.args.slot.0 (set c.cycle.marks c.cycle.next.0 true) c.next_slot-next.result.0 =
    IsSlotWalk-more n (round_counts c.args.board.now) c.args.i.0 c.args.j.0 c.args.slot.0 c.cycle.marks c.cycle.next.0 c.next_slot-next.result.0
    c.cycle.invariant.0 most unmarked c.next_slot-next.ensures.below c.next_slot-next.ensures.apart c.next_slot-next.ensures.follows in
    let within : c.cycle.next.0 < length c.cycle.marks = omega (arith, c.cycle.invariant.0.way.below, most) in
    omega (arith, count-mark c.cycle.marks c.cycle.next.0 within unmarked, marked-le (set c.cycle.marks c.cycle.next.0 true) (slot_count n) walk.way.marked, c.n-most.ensures.teams.at_most)

pub returns-clause-linked : goal.returns-clause-linked
returns-clause-linked c =
    let marked : is_marked c.cycle.marks c.cycle.next.0 ≡ true = grind arith in
    slot_walk_end c.args.board.now.n (round_counts c.args.board.now) c.args.i.0 c.args.j.0 c.args.slot.0 c.cycle.marks c.cycle.next.0 c.cycle.invariant.0 marked c.requires.slot

pub returns-clause-closed : goal.returns-clause-closed
returns-clause-closed c =
    let marked : is_marked c.cycle.marks c.cycle.next.0 ≡ true = grind arith in
    record {
      closed = slot_walk_closed c.args.board.now.n (round_counts c.args.board.now) c.args.i.0 c.args.j.0 c.args.slot.0 c.cycle.marks c.cycle.next.0 c.cycle.invariant.0 marked;
      apart = λ r lt is. c.cycle.invariant.0.apart r is;
    }

pub returns-clause-start : goal.returns-clause-start
returns-clause-start c =
    let marked : is_marked c.cycle.marks c.cycle.next.0 ≡ true = grind arith in
    slot_start c.args.board.now.n (round_counts c.args.board.now) c.args.i.0 c.args.j.0 c.args.slot.0 c.cycle.marks c.cycle.next.0 c.cycle.invariant.0 marked
