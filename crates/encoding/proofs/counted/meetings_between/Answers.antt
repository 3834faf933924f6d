use Rattle.std.proofs.Common.{ℕ, Bool, List, [], ◌∷◌, ◌++◌, ap, arith, get_or, sym, ◌∙◌}
use Rattle.std.proofs.lemmas.List.{take_all}
use Rattle.std.specs.List.{filter}
use Rattle.league.specs.Capacity.{is_between}
use Rattle.encoding.proofs.GrownLemmas.{passing_more, passing_same}
use Rattle.encoding.proofs.counted.meetings_between.Goals as goal
use Rattle.encoding.proofs.counted.meetings_between.Goals.{then-is_between+in_ok-push, else-is_between}

pub loop-home-preserved : goal.loop-home-preserved
loop-home-preserved c =
    let all = c.args.all.now in
    let k = c.loop-home.home-index in
    let between : ℕ × ℕ → Bool = is_between c.args.side c.args.teams1.now c.args.teams2.now in
    elim c.if-is_between.branch [
      | then-is_between+in_ok-push w ↦
          ap (λ v. v.items) w.made-is
          ∙ w.in_ok-push.ensures.items
          ∙ ap (λ (made : List (ℕ × ℕ)). made ++ get_or all k (0, 0) ∷ []) c.loop-home.invariant
          ∙ sym (passing_more between all k (0, 0) c.loop-home-test.true
          (sym c.is_between.ensures ∙ w.if-is_between.true))
      | else-is_between w ↦
          ap (λ v. v.items) w.made-is
          ∙ c.loop-home.invariant
          ∙ sym (passing_same between all k (0, 0) c.loop-home-test.true
          (sym c.is_between.ensures ∙ w.if-is_between.false))
    ]

pub returns : goal.returns
returns c =
    c.loop-home.invariant
    ∙ ap (filter (is_between c.args.side c.args.teams1.now c.args.teams2.now))
    (take_all c.loop-home.home-index c.args.all.now (omega arith))
