use Rattle.std.proofs.Common.{◌≡◌, ◌^◌, ◌<◌, ℕ, List, ap, subst, ◌∙◌, arith}
use Rattle.std.specs.List.{All}
use Rattle.league.specs.declared.class.Constraint.{Constraint}
use Rattle.bound_rows.specs.Sizes.{paid_size}
use Rattle.bound_rows.proofs.SizeLemmas.{bound_size-paid}
use Rattle.bound_rows.proofs.count.bound_terms.Goals as goal

pub returns-clause-terms : goal.returns-clause-terms
returns-clause-terms c =
    let league = c.args.league.now in
    let same : paid_size c.n.result c.constraints.result.now ≡ paid_size league.n league.constraints =
    ap (λ (k : ℕ). paid_size k c.constraints.result.now) c.n.ensures.n
    ∙ ap (paid_size league.n) c.constraints.ensures in
    omega (
      arith,
      c.encoding_size.ensures.terms,
      c.more_terms.ensures.terms,
      c.paid_terms-paid.ensures.terms,
      bound_size-paid league,
      same,
    )

pub returns-clause-counted : goal.returns-clause-counted
returns-clause-counted c = λ few.
    let count = returns-clause-terms c in
    record {
      instance = c.n.ensures.instance;
      count = count;
      few = omega (arith, count, few);
      penalties = subst (λ (cs : List Constraint). All (λ x. x.penalty < 2 ^ 32) cs) c.constraints.ensures
          c.paid_terms-paid.ensures.small;
    }
