use Rattle.std.proofs.Common.{◌≡◌, ◌+◌, ◌*◌, ℕ, List, length, replicate, ap, sym, subst, ◌∙◌}
use Rattle.std.specs.List.{All}
use Rattle.rows.specs.Rows.{IsRow, Row}
use Rattle.propagate.specs.Trails.{KnowsVariables}
use Rattle.propagate.proofs.TrailLemmas.{IsTrail-none}
use Rattle.propagate.proofs.trail.Trail.new.Goals as goal

pub invariant_of-result : goal.invariant_of-result
invariant_of-result c =
    let given : c.in_ok-path.path.given ≡ length c.in_ok-path.path.rows =
    c.in_ok-path.ensures.given ∙ sym (ap (λ (rs : List Row). length rs) c.in_ok-path.ensures.rows) in
    IsTrail-none c.in_ok-path.path c.in_ok-watches.watches
    (subst (λ (rs : List Row). All IsRow rs) (sym c.in_ok-path.ensures.rows) c.len.ensures.rows)
    (subst (λ (n : ℕ). All (KnowsVariables n) c.in_ok-path.path.rows) (sym c.in_ok-path.ensures.vars)
    (subst (λ (rs : List Row). All (KnowsVariables c.args.vars) rs) (sym c.in_ok-path.ensures.rows) c.requires))
    c.in_ok-path.ensures.entries given
    (c.in_ok-watches.ensures.firsts ∙ ap (λ (n : ℕ). replicate (2 * n + 2) 0) (sym c.in_ok-path.ensures.vars))
    c.in_ok-watches.ensures.nodes
    (c.in_ok-watches.ensures.hung ∙ c.len.ensures.len ∙ sym c.in_ok-path.ensures.given)
