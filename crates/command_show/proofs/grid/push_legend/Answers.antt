use Rattle.std.proofs.Common.{Bool, List, ℕ, ◌++◌, sym, ap, ◌∙◌, append_assoc}
use Rattle.command_show.specs.Grid.{legend, phase_signs, signs}
use Rattle.command_show.proofs.grid.push_legend.Goals as goal

pub returns-in_ok-extend_from_slice-2 : goal.returns-in_ok-extend_from_slice-2
returns-in_ok-extend_from_slice-2 c =
    let old = c.args.text.now.items in
    c.in_ok-extend_from_slice-2.ensures.items
    ∙ ap (λ (x : List ℕ). x ++ phase_signs) c.in_ok-extend_from_slice.ensures.items
    ∙ append_assoc old signs phase_signs
    ∙ ap (λ (b : Bool). old ++ legend b) (sym c.if-phased.true)

pub returns-else-phased : goal.returns-else-phased
returns-else-phased c =
    let old = c.args.text.now.items in
    c.in_ok-extend_from_slice.ensures.items ∙ ap (λ (b : Bool). old ++ legend b) (sym c.if-phased.false)
