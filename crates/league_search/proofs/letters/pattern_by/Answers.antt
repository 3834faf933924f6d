use Rattle.std.proofs.Common.{◌≡◌, ℕ, ◌-◌, length, arith, ap, ◌∙◌}
use Rattle.league.specs.declared.class.Side.{Side}
use Rattle.encoding.specs.Variables.{h_var}
use Rattle.patterns.proofs.PatternLemmas.{length-made, made-more}
use Rattle.rows.specs.Values.{assigned}
use Rattle.league_search.specs.Letters.{lowered, side_of}
use Rattle.league_search.proofs.letters.pattern_by.Goals as goal

pub push-requires-clause-room : goal.push-requires-clause-room
push-requires-clause-room c =
    let side : ℕ → Side =
    λ s. side_of (lowered c.args.games c.args.values.now (h_var c.args.encoding.now.n c.args.team.0 s)) in
    let so_many : length c.loop-slot.pattern ≡ c.loop-slot.slot =
    length-made side c.loop-slot.slot c.loop-slot.pattern c.loop-slot.invariant in
    omega (
      arith,
      so_many,
      c.loop-slot-test.true,
      c.slots-slot-end.ensures.slots,
      c.slots-slot-end.ensures.instance.teams.at_most,
    )

pub loop-slot-preserved : goal.loop-slot-preserved
loop-slot-preserved c =
    made-more
    (λ s. side_of (lowered c.args.games c.args.values.now (h_var c.args.encoding.now.n c.args.team.0 s)))
    c.loop-slot.slot c.loop-slot.pattern _ _ c.loop-slot.invariant c.in_ok-push.ensures.ok
    (c.side_of.ensures.side
    ∙ ap side_of
    (c.value.ensures ∙ ap (λ (v : ℕ). assigned c.args.values.now (v - c.args.games)) c.h-venue.ensures.var))
