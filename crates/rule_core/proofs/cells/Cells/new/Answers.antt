use Rattle.std.proofs.Common.{ℕ, ◌*◌, List, replicate, ap, sym, arith, ◌∙◌}
use Rattle.rule_core.specs.declared.place.Place.TheVariants.{Free}
use Rattle.rule_core.proofs.MarkLemmas.{HasMarks-none}
use Rattle.rule_core.proofs.TableLemmas.{AreKept-none, AreOpponents-none, kept-counts, kept-none}
use Rattle.rule_core.proofs.cells.Cells.new.Goals as goal

pub invariant_of-result : goal.invariant_of-result
invariant_of-result c =
    let n = c.args.n in
    let season = c.slot_count-slots.ensures in
    let zeros : ℕ → List ℕ = λ slots. replicate (n * slots) 0 in (
      AreKept-none n c.in_ok-vec.field-0.items c.in_ok-with_capacity.field-0.items c.in_ok-new.field-0
          c.in_ok-new-2.field-0 c.requires.teams
          (c.in_ok-vec.ensures.items_if_clones_equal (λ y is. is) ∙ ap (λ (slots : ℕ). replicate (n * slots) Free)
          season)
          c.in_ok-with_capacity.ensures.items
          (c.in_ok-new.ensures.columns ∙ season) (c.in_ok-new.ensures.numbers ∙ ap zeros season)
          (c.in_ok-new-2.ensures.columns ∙ season) (c.in_ok-new-2.ensures.numbers ∙ ap zeros season),
      omega (arith, c.in_ok-with_capacity.ensures.exact, ap (λ (slots : ℕ). slots * 1600) season),
      HasMarks-none n (n * c.slot_count-slots.result) c.in_ok-new.field-0 c.in_ok-new.ensures.numbers
          c.in_ok-new.ensures.marks,
      HasMarks-none n (n * c.slot_count-slots.result) c.in_ok-new-2.field-0 c.in_ok-new-2.ensures.numbers
          c.in_ok-new-2.ensures.marks,
    )

pub returns-clause-counts : goal.returns-clause-counts
returns-clause-counts c =
    let n = c.args.n in
    let season = c.slot_count-slots.ensures in
    let free = c.in_ok-vec.ensures.items_if_clones_equal (λ y is. is) ∙
    ap (λ (slots : ℕ). replicate (n * slots) Free) season in
    let none = c.in_ok-with_capacity.ensures.items in
    kept-counts n c.in_ok-vec.field-0.items c.in_ok-with_capacity.field-0.items
    (AreOpponents-none n c.in_ok-vec.field-0.items c.in_ok-with_capacity.field-0.items free none)
    ∙ kept-none n c.in_ok-vec.field-0.items c.in_ok-with_capacity.field-0.items free none

pub returns-clause-total : goal.returns-clause-total
returns-clause-total c =
    let n = c.args.n in
    let season = c.slot_count-slots.ensures in
    let zeros : ℕ → List ℕ = λ slots. replicate (n * slots) 0 in
    sym
    (AreKept-none n c.in_ok-vec.field-0.items c.in_ok-with_capacity.field-0.items c.in_ok-new.field-0
    c.in_ok-new-2.field-0 c.requires.teams
    (c.in_ok-vec.ensures.items_if_clones_equal (λ y is. is) ∙ ap (λ (slots : ℕ). replicate (n * slots) Free) season)
    c.in_ok-with_capacity.ensures.items
    (c.in_ok-new.ensures.columns ∙ season) (c.in_ok-new.ensures.numbers ∙ ap zeros season)
    (c.in_ok-new-2.ensures.columns ∙ season) (c.in_ok-new-2.ensures.numbers ∙ ap zeros season)).total
