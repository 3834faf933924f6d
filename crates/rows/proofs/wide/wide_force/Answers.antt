use Rattle.std.proofs.Common.{◌≡◌, ◌<◌, Bool, List, length, get_or, arith, rules, ap, ◌∙◌}
use Rattle.std.proofs.lemmas.List.{get_or_read, take_all}
use Rattle.rows.specs.Trails.{set_if}
use Rattle.rows.specs.Values.{valued}
use Rattle.rows.specs.declared.lit.Term.{Term}
use Rattle.rows.proofs.TrailLemmas.{force_step, forced_so_far}
use Rattle.rows.proofs.wide.wide_force.Goals as goal

pub loop-term-preserved : goal.loop-term-preserved
loop-term-preserved c =
    let t : Term = record { coef = c.term.inside.coef; lit = c.term.inside.lit } in
    let there : c.loop-term.term-index < length c.args.terms.now = omega arith in
    let is : t ≡ get_or c.args.terms.now c.loop-term.term-index t =
    c.term.view_is ∙ get_or_read c.args.terms.now c.loop-term.term-index c.term-item.result there c.term-item.is t in
    let next =
    c.in_ok-make_true_if.ensures.values
    ∙ ap (λ (b : Bool). set_if b (valued c.loop-term.partial) t.lit) c.is_needed-needed.ensures in
    record {
      so_far = force_step (valued c.args.partial.now) c.args.terms.now c.args.degree c.args.reached c.loop-term.term-index t (valued c.loop-term.partial) (valued c.make_true_if.new.partial)
          there is c.requires.reached c.loop-term.invariant.so_far next;
      kept = omega arith;
      listed = search rules;
    }

pub returns-clause-values : goal.returns-clause-values
returns-clause-values c =
    c.loop-term.invariant.so_far
    ∙ ap (λ (front : List Term). forced_so_far (valued c.args.partial.now) c.args.terms.now c.args.degree front) (take_all c.loop-term.term-index c.args.terms.now (omega arith))
