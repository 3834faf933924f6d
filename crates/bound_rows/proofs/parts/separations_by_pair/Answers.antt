use Rattle.std.proofs.Common.{ℕ, List, [], ◌++◌, ap, arith, get_or, sym, take, ◌∙◌}
use Rattle.std.proofs.lemmas.List.{flat_map_more, take_all, take_more}
use Rattle.std.specs.List.{flat_map}
use Rattle.league.specs.declared.class.Class.{Class}
use Rattle.bound_rows.specs.Parts.{se1_parts}
use Rattle.bound_rows.proofs.parts.separations_by_pair.Goals as goal

pub add_numbers-requires : goal.add_numbers-requires
add_numbers-requires c = (c.requires c.loop-first.first-index (0, 0) c.loop-first-test.true).order

pub loop-first-preserved : goal.loop-first-preserved
loop-first-preserved c =
    let pairs = c.args.pairs.now in
    let k = c.loop-first.first-index in
    let parts : ℕ × ℕ → List Class = se1_parts c.args.min in
    c.in_ok-add_numbers.ensures
    ∙ ap (λ (made : List Class). made ++ parts (get_or pairs k (0, 0))) c.loop-first.invariant
    ∙ flat_map_more parts [] (take k pairs) (get_or pairs k (0, 0))
    ∙ ap (flat_map parts) (sym (take_more pairs k (0, 0) c.loop-first-test.true))

pub returns : goal.returns
returns c =
    c.loop-first.invariant
    ∙ ap (flat_map (se1_parts c.args.min)) (take_all c.loop-first.first-index c.args.pairs.now (omega arith))
