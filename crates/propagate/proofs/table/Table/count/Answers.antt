use Rattle.std.proofs.Common.{◌≡◌, ℕ, ◌+◌, ◌^◌, ◌<◌, ◌≤◌, List, [], length, get_or, arith, ap, subst, ◌∙◌}
use Rattle.std.specs.List.{All}
use Rattle.rows.specs.Partials.{reach}
use Rattle.rows.specs.Values.{valued}
use Rattle.rows.specs.declared.lit.Term.{Term}
use Rattle.rows.specs.declared.partial.Value.{Value}
use Rattle.rows.specs.declared.partial.Value.TheVariants.{Free}
use Rattle.propagate.specs.Numbered.{row_at}
use Rattle.propagate.proofs.CountLemmas.{AreCounted-more}
use Rattle.propagate.proofs.FewLemmas.{few-terms}
use Rattle.propagate.proofs.ReachLemmas.{code_of-below}
use Rattle.propagate.proofs.table.Table.count.Goals as goal

pub overflow_cast-reached : goal.overflow_cast-reached
overflow_cast-reached c =
    let from_one : All (λ t. 1 ≤ t.lit.var) (row_at c.args.numbered.now c.args.k).terms =
    subst (λ (ts : List Term). All (λ t. 1 ≤ t.lit.var) ts) c.terms-terms.ensures c.see_variables.ensures in
    let few : length (row_at c.args.numbered.now c.args.k).terms ≤ length c.args.values.now =
    few-terms (length c.args.values.now) (row_at c.args.numbered.now c.args.k).terms
    (c.requires.proper c.args.k (record { terms = []; degree = 0 }) c.requires.there).variables
    (λ j d inside. (from_one j d inside, c.requires.known j d inside)) in
    omega (
      arith,
      c.reach-reached.ensures.at_most,
      c.requires.few_variables,
      few,
      ap (λ (ts : List Term). length ts) c.terms-terms.ensures,
    )

pub link_terms-requires-clause-linked : goal.link_terms-requires-clause-linked
link_terms-requires-clause-linked c = c.requires.counted.linked

pub link_terms-requires-clause-slots : goal.link_terms-requires-clause-slots
link_terms-requires-clause-slots c = λ j d inside.
    omega (arith, code_of-below (get_or (row_at c.args.numbered.now c.args.k).terms j d).lit (length c.args.values.now) (c.requires.known j d inside), c.requires.slots)

pub returns-clause-counted : goal.returns-clause-counted
returns-clause-counted c =
    let from_one : All (λ t. 1 ≤ t.lit.var) (row_at c.args.numbered.now c.args.k).terms =
    subst (λ (ts : List Term). All (λ t. 1 ≤ t.lit.var) ts) c.terms-terms.ensures c.see_variables.ensures in
    let few : length (row_at c.args.numbered.now c.args.k).terms ≤ length c.args.values.now =
    few-terms (length c.args.values.now) (row_at c.args.numbered.now c.args.k).terms
    (c.requires.proper c.args.k (record { terms = []; degree = 0 }) c.requires.there).variables
    (λ j d inside. (from_one j d inside, c.requires.known j d inside)) in
    let is : c.reach-reached.result ≡ reach (λ v. Free) (row_at c.args.numbered.now c.args.k).terms =
    c.reach-reached.ensures.reach
    ∙ ap (λ (w : ℕ → Value). reach w c.terms-terms.result.now) c.requires.free
    ∙ ap (λ (ts : List Term). reach (λ v. Free) ts) c.terms-terms.ensures in
    let fits : reach (λ v. Free) (row_at c.args.numbered.now c.args.k).terms + 1 < 2 ^ 64 =
    omega (
      arith,
      is,
      c.reach-reached.ensures.at_most,
      c.requires.few_variables,
      few,
      ap (λ (ts : List Term). length ts) c.terms-terms.ensures,
    ) in
    AreCounted-more c.args.numbered.now c.args.k (valued c.args.values.now) c.args.self.now _ c.terms-terms.result.now
    c.degree.result c.reach-reached.result c.enough_of-enough.result c.requires.counted c.terms-terms.ensures
    c.degree.ensures c.in_ok-link_terms.ensures.linked c.in_ok-push.ensures.items c.reach-reached.ensures.reach
    c.in_ok-push-2.ensures.items c.enough_of-enough.ensures fits
