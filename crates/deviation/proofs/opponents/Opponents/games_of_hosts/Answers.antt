use Rattle.std.proofs.Common.{ℕ, List, [], ◌∷◌, arith}
use Rattle.std.proofs.lemmas.List.Sums.{sum_by_more}
use Rattle.std.specs.List.{filter}
use Rattle.league.specs.Capacity.{is_between}
use Rattle.league.specs.Meetings.{games_of, meetings_of}
use Rattle.rule_core.specs.Table.{table_counts}
use Rattle.deviation.proofs.OpponentSums.{games_of_slots}
use Rattle.deviation.proofs.opponents.Opponents.games_of_hosts.Goals as goal

pub loop-slot-preserved : goal.loop-slot-preserved
loop-slot-preserved c =
    let self = c.args.self.now in
    let meetings : List (ℕ × ℕ) = filter (is_between self.side self.teams1 self.teams2)
    (meetings_of c.args.cells.now.n) in
    let f : ℕ → ℕ = λ s. games_of (table_counts c.args.cells.now) meetings (s ∷ []) in
    record {
      counted = omega (
        arith,
        c.loop-slot.invariant.counted,
        c.games_in_slot-games.ensures.games,
        sum_by_more f c.args.slots.now c.loop-slot.slot-index 0 c.loop-slot-test.true,
      );
      bounded = omega (arith, c.loop-slot.invariant.bounded, c.games_in_slot-games.ensures.at_most);
    }

pub returns : goal.returns
returns c =
    games_of_slots (table_counts c.args.cells.now)
    (filter (is_between c.args.self.now.side c.args.self.now.teams1 c.args.self.now.teams2)
    (meetings_of c.args.cells.now.n)) c.args.slots.now c.loop-slot.slot-index c.loop-slot.games (omega arith)
    c.loop-slot.invariant.counted
