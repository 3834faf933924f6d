use Rattle.std.proofs.Common.{◌≡◌, ℕ, ◌+◌, nat_lt, List, arith, rules, ap, ◌∙◌}
use Rattle.std.proofs.lemmas.List.{take_all}
use Rattle.rows.specs.Trails.{set_if}
use Rattle.rows.specs.Values.{valued}
use Rattle.rows.specs.declared.lit.Term.{Term}
use Rattle.rows.proofs.TrailLemmas.{force_step, forced_so_far}
use Rattle.rows.proofs.forcing.force.Goals as goal

pub loop-term-preserved : goal.loop-term-preserved
loop-term-preserved c =
    let sum : c.from.result + c.from-in-loop-term.result ≡ c.args.degree + c.term-item.result.coef = omega (arith, c.from.ensures, c.from-in-loop-term.ensures) in
    let next =
    c.in_ok-make_true_if.ensures.values
    ∙ ap (λ (n : ℕ). set_if (nat_lt c.args.reached n) (valued c.loop-term.partial) c.term-item.result.lit) sum in
    record {
      so_far = force_step (valued c.args.partial.now) c.args.terms.now c.args.degree c.args.reached c.loop-term.term-index c.term-item.result (valued c.loop-term.partial) (valued c.make_true_if.new.partial)
          (omega arith) c.term-item.is c.requires.reached c.loop-term.invariant.so_far next;
      kept = omega arith;
      listed = search rules;
    }

pub returns-clause-values : goal.returns-clause-values
returns-clause-values c =
    c.loop-term.invariant.so_far
    ∙ ap (λ (front : List Term). forced_so_far (valued c.args.partial.now) c.args.terms.now c.args.degree front) (take_all c.loop-term.term-index c.args.terms.now (omega arith))
