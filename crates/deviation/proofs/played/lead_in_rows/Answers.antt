use Rattle.std.proofs.Common.{ℕ, ◌<◌, length, arith, ◌∙◌}
use Rattle.league.specs.Bounds.{difference, excess}
use Rattle.league.specs.Fairness.{home_played}
use Rattle.deviation.proofs.PlayedLemmas.{gap_is, lead_all, lead_more}
use Rattle.deviation.proofs.played.lead_in_rows.Goals as goal

pub loop-place-preserved : goal.loop-place-preserved
loop-place-preserved c = λ n m first second.
    let slots = c.args.slots.now in
    let i = c.loop-place.place in
    let inside : i < length slots = omega arith in
    let small : i < 78 = omega (arith, c.requires.few_slots) in
    let f : ℕ → ℕ = λ s. excess (difference (home_played n m c.args.first.0 s) (home_played n m c.args.second.0 s))
    c.args.intp in
    lead_more f slots i c.loop-place.most c.gap.result c.args.intp c.max-most.result inside
    (c.loop-place.invariant n m first second)
    (gap_is n m slots c.args.played.now c.args.first.0 c.args.second.0 i c.gap.result
    c.args.intp small inside first second c.gap.ensures) c.max-most.ensures

pub returns : goal.returns
returns c = λ n m first second.
    let slots = c.args.slots.now in
    let f : ℕ → ℕ = λ s. excess (difference (home_played n m c.args.first.0 s) (home_played n m c.args.second.0 s))
    c.args.intp in
    lead_all f slots c.loop-place.place c.loop-place.most c.args.intp c.from.result (omega arith)
    (c.loop-place.invariant n m first second) (c.from.ensures ∙ c.saturating_sub.ensures)
