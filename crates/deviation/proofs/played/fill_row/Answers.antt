use Rattle.std.proofs.Common.{◌≡◌, ℕ, ◌+◌, ◌*◌, ◌<◌, ◌≤◌, length, get_or, arith, ◌∙◌}
use Rattle.std.proofs.lemmas.List.{length-set}
use Rattle.league.specs.Counts.{slot_count}
use Rattle.league.specs.Fairness.{home_played}
use Rattle.league.specs.Venues.{home_games}
use Rattle.rule_core.specs.Table.{table_counts}
use Rattle.deviation.proofs.LeadLemmas.{next_left, played_more}
use Rattle.deviation.proofs.PlayedLemmas.{entry-set_other, played_to-more}
use Rattle.deviation.proofs.played.fill_row.Goals as goal

pub loop-place-preserved : goal.loop-place-preserved
loop-place-preserved c =
    let n = c.args.cells.now.n in
    let m = table_counts c.args.cells.now in
    let slots = c.args.slots.now in
    let i = c.loop-place.place in
    let inside : i < length slots = omega arith in
    let few : i < 78 = omega (arith, c.requires.few_slots) in
    let slot : ℕ = get_or slots i 0 in
    let next = c.loop-place.next in
    let small : slot < slot_count n = c.requires.slots i 0 inside in
    let left : next ≤ slot = c.loop-place.invariant.left inside in
    let le : next ≤ slot + 1 = omega arith in
    let games : ℕ = c.loop-place.games + c.homes_in-games.result in
    let total : games ≡ home_played n m c.args.team.0 slot = played_more (λ s. home_games n m c.args.team.0 s) next
    (slot + 1) c.loop-place.games c.homes_in-games.result le c.loop-place.invariant.counted
    c.homes_in-games.ensures.games in
    let within : c.args.team.0 * 78 + i < length c.loop-place.played =
    omega (arith, c.loop-place.invariant.size, c.requires.team, c.requires.few) in
    record {
      passed = omega arith;
      left = λ lt. next_left slots i c.requires.ascending lt;
      counted = total;
      few = omega (arith, c.loop-place.invariant.few, c.homes_in-games.ensures.at_most);
      size = length-set c.loop-place.played (c.args.team.0 * 78 + i) games ∙ c.loop-place.invariant.size;
      row = played_to-more n m slots c.loop-place.played c.args.team.0 i games few within total
          c.loop-place.invariant.row;
      others = λ k q differ. entry-set_other c.loop-place.played c.args.team.0 i games k q few
          (λ both. differ both.0) ∙ c.loop-place.invariant.others k q differ;
    }
