use Rattle.std.proofs.Common.{◌<◌, ◌≤◌, ◌++◌, List, append-nil, length, ap, arith, subst, sym, ◌∙◌}
use Rattle.std.specs.List.{All, flat_map}
use Rattle.std.proofs.lemmas.List.{take_all}
use Rattle.std.proofs.lemmas.List.Elements.{All-nil}
use Rattle.refutation.specs.Steps.{Step}
use Rattle.refutation.specs.Texts.{step_line_text}
use Rattle.refutation.specs.Written.{HasSmallNumbers}
use Rattle.refutation.proofs.StepLemmas.{All-at, text-at}
use Rattle.refutation.proofs.text.put_steps.Goals as goal

pub loop-k-init : goal.loop-k-init
loop-k-init c = (sym (append-nil c.args.text.now.items), All-nil HasSmallNumbers)

pub loop-k-preserved : goal.loop-k-preserved
loop-k-preserved c =
    let there : c.loop-k.k < length c.args.log.now = omega arith in (
      text-at (step_line_text c.args.version) c.args.log.now c.loop-k.k c.loop-k.text.items
          c.put_step.new.text.items c.args.text.now.items there c.in_ok-put_step.ensures.ok c.loop-k.invariant.0,
      All-at HasSmallNumbers c.args.log.now c.loop-k.k there c.loop-k.invariant.1 c.in_ok-put_step.ensures.numbers,
    )

pub returns-clause-ok : goal.returns-clause-ok
returns-clause-ok c =
    let past : length c.args.log.now ≤ c.loop-k.k = omega arith in
    c.loop-k.invariant.0
    ∙ ap (λ (ss : List Step). c.args.text.now.items ++ flat_map (step_line_text c.args.version) ss)
    (take_all c.loop-k.k c.args.log.now past)

pub returns-clause-numbers : goal.returns-clause-numbers
returns-clause-numbers c =
    let past : length c.args.log.now ≤ c.loop-k.k = omega arith in
    subst (All HasSmallNumbers) (take_all c.loop-k.k c.args.log.now past) c.loop-k.invariant.1
