use Rattle.std.proofs.Common.{◌≡◌, ℕ, ◌≤◌, List, length, get_or, refl, arith, subst}
use Rattle.std.specs.List.{All}
use Rattle.std.proofs.lemmas.List.{length-set, take_all}
use Rattle.rows.specs.Values.{valued}
use Rattle.rows.specs.declared.partial.Value.TheVariants.{Free}
use Rattle.refutation_check.proofs.UndoLemmas.{all_freed, free_stays, freed_next}
use Rattle.refutation_check.proofs.trail.free_all.Goals as goal

pub loop-var-preserved : goal.loop-var-preserved
loop-var-preserved c =
    let i = c.loop-var.var-index in
    let var = get_or c.args.vars.now i 0 in
    let within = c.requires.within i 0 c.loop-var-test.true in
    let from_one : 1 ≤ var = within.0 in
    let known : var ≤ length c.loop-var.partial = omega (arith, within.1, c.loop-var.invariant.same) in
    rw c.unset.ensures
    (record {
      freed = freed_next c.loop-var.partial c.args.vars.now i var c.loop-var-test.true refl from_one known
          c.loop-var.invariant.freed;
      kept = λ v taken. c.loop-var.invariant.kept v
          (λ free. taken (free_stays c.loop-var.partial var v from_one known free));
      same = simp length-set c.loop-var.invariant.same;
    })

pub returns-clause-values : goal.returns-clause-values
returns-clause-values c =
    all_freed c.args.partial.now c.loop-var.partial c.args.vars.now c.requires
    (subst (λ (vars : List ℕ). All (λ v. valued c.loop-var.partial v ≡ Free) vars)
    (take_all c.loop-var.var-index c.args.vars.now (omega arith)) c.loop-var.invariant.freed)
    c.loop-var.invariant.kept
