-- The games of all slots are those that the assignment decodes to.
use Rattle.std.proofs.Common.{◌≡◌, ℕ, List, [], ◌++◌, arith, ap, ◌∙◌}
use Rattle.std.specs.List.{flat_map, range_with_len}
use Rattle.league.specs.Counts.{slot_count}
use Rattle.league.specs.declared.game.Game.{Game}
use Rattle.rows.specs.Values.{assigned}
use Rattle.decoding.specs.TrueGames.{true_games_in}
use Rattle.decoding.proofs.DecodeLemmas.{flat_map-range_more, in_order, season-true}
use Rattle.decoding.proofs.decoder.decode_games.Goals as goal

pub loop-slot-preserved : goal.loop-slot-preserved
loop-slot-preserved c =
    let games : ℕ → List Game = true_games_in c.args.n (assigned c.args.assignment.now) in
    c.in_ok-add_slot.ensures
    ∙ ap (λ (xs : List Game). xs ++ games c.loop-slot.slot) c.loop-slot.invariant
    ∙ flat_map-range_more games [] c.loop-slot.slot

pub returns-clause-games : goal.returns-clause-games
returns-clause-games c =
    let games : ℕ → List Game = true_games_in c.args.n (assigned c.args.assignment.now) in
    let at_end : c.loop-slot.slot ≡ slot_count c.args.n = omega (arith, c.slot_count-slot-end.ensures) in
    c.loop-slot.invariant
    ∙ ap (λ (k : ℕ). flat_map games (range_with_len 0 k)) at_end
    ∙ season-true c.args.n (assigned c.args.assignment.now)

pub returns-clause-in_order : goal.returns-clause-in_order
returns-clause-in_order c =
    in_order c.args.n (assigned c.args.assignment.now) c.loop-slot.schedule (returns-clause-games c)
