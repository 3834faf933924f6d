use Rattle.std.proofs.Common.{◌≡◌, ◌≤◌, ◌+◌, ◌-◌, ◌*◌, true, false, ℕ, sym, ap, ◌∙◌, arith}
use Rattle.std.proofs.lemmas.Nat.{mul-le}
use Rattle.encoding.specs.Encoding.{encoding_size}
use Rattle.encoding.specs.Variables.{has_breaks}
use Rattle.bound_rows.specs.BoundRows.{needs_breaks}
use Rattle.bound_rows.proofs.CountLemmas.{more_breaks}
use Rattle.bound_rows.proofs.count.more_terms.Goals as goal

pub returns-then-not-has_breaks-clause-terms : goal.returns-then-not-has_breaks-clause-terms
returns-then-not-has_breaks-clause-terms c =
    let league = c.args.league.now in
    let needs : needs_breaks league.constraints ≡ true =
    sym (c.needs_breaks.ensures ∙ ap needs_breaks c.constraints-constraints.ensures) ∙ c.if-needs_breaks.true in
    let has : has_breaks league.constraints ≡ false =
    sym (c.has_breaks.ensures ∙ ap has_breaks c.constraints-constraints.ensures) ∙ c.if-not-has_breaks.true in
    ap (λ (k : ℕ). encoding_size league + k * ((2 * (k - 1) - 1) * 14)) (c.from-n.ensures ∙ c.n.ensures.n)
    ∙ more_breaks league needs has

pub returns-then-not-has_breaks-clause-most : goal.returns-then-not-has_breaks-clause-most
returns-then-not-has_breaks-clause-most c =
    let n = c.from-n.result in
    let few : n ≤ 40 = omega (arith, c.from-n.ensures, c.n.ensures.n, c.n.ensures.instance.teams.at_most) in
    omega (arith, mul-le n ((2 * (n - 1) - 1) * 14) 40 1078 few (omega (arith, few)))
