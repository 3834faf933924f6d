use Rattle.std.proofs.Common.{◌≡◌, ℕ, length, ap, ◌∙◌, arith}
use Rattle.league.specs.Grid.{entry}
use Rattle.league.specs.declared.class.Side.{Side}
use Rattle.patterns.specs.PatternSet.{side_with}
use Rattle.patterns.proofs.PatternLemmas.{length-made, made-more}
use Rattle.patterns.proofs.pattern_set.pattern_from.Goals as goal

pub push-requires-clause-room : goal.push-requires-clause-room
push-requires-clause-room c =
    let side : ℕ → Side = λ s. side_with (entry c.args.table.now c.args.team s) in
    let so_many : length c.loop-slot.pattern ≡ c.loop-slot.slot = length-made side c.loop-slot.slot c.loop-slot.pattern c.loop-slot.invariant in
    omega (arith, so_many, c.loop-slot-test.true, c.requires.slots)

pub loop-slot-preserved : goal.loop-slot-preserved
loop-slot-preserved c =
    made-more (λ s. side_with (entry c.args.table.now c.args.team s)) c.loop-slot.slot c.loop-slot.pattern _ _ c.loop-slot.invariant c.in_ok-push.ensures.ok (c.side_at.ensures.side ∙ ap side_with c.at.ensures)
