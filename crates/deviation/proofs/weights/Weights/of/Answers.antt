use Rattle.std.proofs.Common.{◌≡◌, ℕ, ◌+◌, ◌*◌, ◌^◌, List, [], ◌∷◌, ◌++◌, take, subst, sym, ap, ◌∙◌, arith}
use Rattle.std.proofs.lemmas.List.{take_more}
use Rattle.league.specs.Counts.{Counts}
use Rattle.rule_core.specs.Table.{table_counts}
use Rattle.league.specs.declared.class.Constraint.{Constraint}
use Rattle.deviation.specs.Assess.{AreAtMost, AreWeightsOf}
use Rattle.deviation.proofs.weights.Weights.of.Goals as goal

pub loop-constraint-init : goal.loop-constraint-init
loop-constraint-init c = record { weighed = c.new-weights.ensures.none c.n-n.result (table_counts c.args.cells.now); bounded = c.new-weights.ensures.zero }

pub loop-constraint-preserved : goal.loop-constraint-preserved
loop-constraint-preserved c =
    let listed : List Constraint = c.constraints-constraint-items.result.now in
    let i : ℕ = c.loop-constraint.constraint-index in
    let m : Counts = table_counts c.args.cells.now in
    let constraint : Constraint = c.constraint-item.result in
    let more : take i listed ++ constraint ∷ [] ≡ take (i + 1) listed = ap (λ (x : Constraint). take i listed ++ x ∷ []) c.constraint-item.is ∙ sym (take_more listed i constraint c.loop-constraint-test.true) in
    let grown : AreAtMost (i * 2 ^ 107 + 2 ^ 107) c.add.new.self = c.in_ok-add.ensures.growth (i * 2 ^ 107) c.loop-constraint.invariant.bounded in
    record {
      weighed = subst (λ (l : List Constraint). AreWeightsOf c.n-n.result m l c.add.new.self) more (c.in_ok-add.ensures.added c.n-n.result m (take i listed) c.in_ok-entries.ensures.exact c.loop-constraint.invariant.weighed);
      bounded = record {
        infeasibility = omega (arith, grown.infeasibility);
        objective = omega (arith, grown.objective);
        hard_deviation = omega (arith, grown.hard_deviation);
      };
    }
