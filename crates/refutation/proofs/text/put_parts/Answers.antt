use Rattle.std.proofs.Common.{◌≤◌, ◌++◌, List, append-nil, get_or, length, ap, arith, subst, sym, ◌∙◌}
use Rattle.std.specs.List.{All, flat_map}
use Rattle.std.proofs.lemmas.List.{take_all}
use Rattle.std.proofs.lemmas.List.Elements.{All-nil}
use Rattle.std.proofs.lemmas.Option.{slice_get-get_or}
use Rattle.refutation.specs.Texts.{part_text}
use Rattle.refutation.specs.Written.{IsFactored}
use Rattle.refutation.specs.declared.step.Part.{Part}
use Rattle.refutation.proofs.StepLemmas.{All-got, text-got}
use Rattle.refutation.proofs.text.put_parts.Goals as goal

pub loop-part-init : goal.loop-part-init
loop-part-init c = (sym (append-nil c.args.text.now.items), All-nil IsFactored)

pub put_part-requires : goal.put_part-requires
put_part-requires c = c.requires c.loop-part.part-index _ c.loop-part-test.true

pub loop-part-preserved : goal.loop-part-preserved
loop-part-preserved c =
    let none : Part = record { factor = 0; row = 0 } in
    let part : Part = get_or c.args.parts.now c.loop-part.part-index none in
    let is = slice_get-get_or c.args.parts.now c.loop-part.part-index none c.loop-part-test.true in (
      text-got part_text c.args.parts.now c.loop-part.part-index part c.loop-part.text.items
          c.put_part.new.text.items c.args.text.now.items is c.in_ok-put_part.ensures.ok c.loop-part.invariant.0,
      All-got IsFactored c.args.parts.now c.loop-part.part-index part is c.loop-part.invariant.1
          c.in_ok-put_part.ensures.numbers,
    )

pub returns-clause-ok : goal.returns-clause-ok
returns-clause-ok c =
    let past : length c.args.parts.now ≤ c.loop-part.part-index = omega arith in
    c.loop-part.invariant.0
    ∙ ap (λ (ps : List Part). c.args.text.now.items ++ flat_map part_text ps)
    (take_all c.loop-part.part-index c.args.parts.now past)

pub returns-clause-numbers : goal.returns-clause-numbers
returns-clause-numbers c =
    let past : length c.args.parts.now ≤ c.loop-part.part-index = omega arith in
    subst (All IsFactored) (take_all c.loop-part.part-index c.args.parts.now past) c.loop-part.invariant.1
