use Rattle.std.proofs.Common.{◌≡◌, ℕ, ◌+◌, ◌<◌, ◌≤◌, get_or, arith, ap, ◌∙◌}
use Rattle.league.specs.Bounds.{difference, excess}
use Rattle.league.specs.Counts.{slot_count}
use Rattle.league.specs.Fairness.{home_played}
use Rattle.league.specs.Venues.{home_games}
use Rattle.rule_core.specs.Table.{table_counts}
use Rattle.deviation.proofs.LeadLemmas.{largest_more, next_left, played_more}
use Rattle.deviation.proofs.leads.largest_lead.Goals as goal

pub loop-slot-preserved : goal.loop-slot-preserved
loop-slot-preserved c =
    let n = c.args.cells.now.n in
    let m = table_counts c.args.cells.now in
    let slots = c.args.slots.now in
    let i = c.loop-slot.slot-index in
    let inside = c.loop-slot-test.true in
    let slot : ℕ = get_or slots i 0 in
    let next = c.loop-slot.next in
    let small : slot < slot_count n = c.requires.slots i 0 inside in
    let left : next ≤ slot = c.loop-slot.invariant.left inside in
    let le : next ≤ slot + 1 = omega arith in
    let x : ℕ = c.loop-slot.first_played + c.homes_in-first_played.result in
    let y : ℕ = c.loop-slot.second_played + c.homes_in-second_played.result in
    let first : x ≡ home_played n m c.args.first.0 slot = played_more (λ s. home_games n m c.args.first.0 s) next (slot + 1) c.loop-slot.first_played c.homes_in-first_played.result le c.loop-slot.invariant.first c.homes_in-first_played.ensures.games in
    let second : y ≡ home_played n m c.args.second.0 slot = played_more (λ s. home_games n m c.args.second.0 s) next (slot + 1) c.loop-slot.second_played c.homes_in-second_played.result le c.loop-slot.invariant.second c.homes_in-second_played.ensures.games in
    let beyond : ℕ → ℕ = λ s. excess (difference (home_played n m c.args.first.0 s) (home_played n m c.args.second.0 s)) c.args.intp in
    let value : c.lead.result ≡ beyond slot =
    c.lead.ensures
    ∙ ap (λ (a : ℕ). excess (difference a y) c.args.intp) first
    ∙ ap (λ (b : ℕ). excess (difference (home_played n m c.args.first.0 slot) b) c.args.intp) second in
    record {
      passed = omega arith;
      left = λ lt. next_left slots i c.requires.ascending lt;
      first = first;
      first_few = omega (arith, c.loop-slot.invariant.first_few, c.homes_in-first_played.ensures.at_most);
      second = second;
      second_few = omega (arith, c.loop-slot.invariant.second_few, c.homes_in-second_played.ensures.at_most);
      largest_so_far = largest_more beyond slots i c.loop-slot.most c.lead.result c.max-most.result inside c.loop-slot.invariant.largest_so_far value c.max-most.ensures;
    }
