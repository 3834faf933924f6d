use Rattle.std.proofs.Common.{ℕ, List, ◌+◌, ◌-◌, ◌++◌, refl, ap, ◌∙◌, append_assoc}
use Rattle.std.specs.Prelude.{codes, decimal}
use Rattle.command_show.specs.Widths.{at_right, spaces}
use Rattle.command_show.proofs.RangeLemmas.{part_after}
use Rattle.command_show.proofs.grid.push_slots.Goals as goal

pub loop-place-preserved : goal.loop-place-preserved
loop-place-preserved c =
    let places = c.args.columns.digits + 1 in
    let slot = c.args.block.first + c.loop-place.place in
    let line = c.loop-place.line.items in
    part_after (λ (t : ℕ). at_right places (decimal t) ++ codes " ") c.args.block.first c.loop-place.place slot
    (codes "slot" ++ spaces (c.args.columns.front - 4)) line c.push.new.self.items refl c.loop-place.invariant
    (c.in_ok-push.ensures.items
    ∙ ap (λ (x : List ℕ). x ++ codes " ") (c.in_ok-push_number.ensures ∙ ap (λ (k : ℕ). line ++ at_right places (decimal k)) c.from.ensures)
    ∙ append_assoc line (at_right places (decimal slot)) (codes " "))
