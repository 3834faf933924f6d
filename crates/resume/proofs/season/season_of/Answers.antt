-- The games of all slots are those that the values stand for.
use Rattle.std.proofs.Common.{◌≡◌, ℕ, List, [], ◌++◌, arith, ap, ◌∙◌}
use Rattle.std.specs.List.{flat_map, range_with_len}
use Rattle.league.specs.Counts.{slot_count}
use Rattle.league.specs.Meetings.{meetings_of}
use Rattle.league.specs.declared.game.Game.{Game}
use Rattle.rows.specs.Values.{assigned}
use Rattle.decoding.proofs.DecodeLemmas.{flat_map-range_more}
use Rattle.resume.specs.Found.{game_if_true}
use Rattle.resume.proofs.SeasonLemmas.{season-true}
use Rattle.resume.proofs.season.season_of.Goals as goal

pub loop-slot-preserved : goal.loop-slot-preserved
loop-slot-preserved c =
    let n = c.args.n in
    let values = assigned c.args.values.now in
    let in_slot : ℕ → List Game = λ s. flat_map (game_if_true n values s) (meetings_of n) in
    c.in_ok-add_slot.ensures
    ∙ ap (λ (ms : List (ℕ × ℕ)). c.loop-slot.season ++ flat_map (game_if_true n values c.loop-slot.slot) ms)
    (c.deref.ensures.value ∙ c.in_ok-meetings.ensures.meetings)
    ∙ ap (λ (gs : List Game). gs ++ in_slot c.loop-slot.slot) c.loop-slot.invariant
    ∙ flat_map-range_more in_slot [] c.loop-slot.slot

pub returns : goal.returns
returns c =
    let n = c.args.n in
    let values = assigned c.args.values.now in
    let in_slot : ℕ → List Game = λ s. flat_map (game_if_true n values s) (meetings_of n) in
    let at_end : c.loop-slot.slot ≡ slot_count n = omega (arith, c.slot_count-slot-end.ensures) in
    c.loop-slot.invariant
    ∙ ap (λ (k : ℕ). flat_map in_slot (range_with_len 0 k)) at_end
    ∙ season-true n values
