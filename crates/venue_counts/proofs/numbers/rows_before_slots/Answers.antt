use Rattle.std.proofs.Common.{Bool, ◌≡◌, ◌+◌, ◌-◌, ◌*◌, ◌/◌, ◌≤◌, cond, arith, ap, sym, ◌∙◌}
use Rattle.std.proofs.lemmas.Nat.{mul-le}
use Rattle.venue_counts.proofs.SlotLemmas.{ahead-counted}
use Rattle.venue_counts.proofs.numbers.rows_before_slots.Goals as goal

pub returns-then-phased-clause-before : goal.returns-then-phased-clause-before
returns-then-phased-clause-before c =
    let teams = c.from-teams.result in
    ap (λ (b : Bool). 2 * (teams * (teams - 1)) + 4 * (teams * c.from.result)
    + cond b (2 * (teams * (teams - 1) / 2)) 0) (sym c.if-phased.true)
    ∙ ahead-counted c.args.n c.from.result teams c.args.phased c.from-teams.ensures (c.from.ensures ∙ c.requires.slots)

pub returns-else-phased-clause-before : goal.returns-else-phased-clause-before
returns-else-phased-clause-before c =
    let teams = c.from-teams.result in
    let before = 2 * (teams * (teams - 1)) + 4 * (teams * c.from.result) in
    let none : before ≡ before + 0 = omega arith in
    none ∙ ap (λ (b : Bool). before + cond b (2 * (teams * (teams - 1) / 2)) 0) (sym c.if-phased.false)
    ∙ ahead-counted c.args.n c.from.result teams c.args.phased c.from-teams.ensures (c.from.ensures ∙ c.requires.slots)

pub returns-then-phased-clause-most : goal.returns-then-phased-clause-most
returns-then-phased-clause-most c =
    let teams = c.from-teams.result in
    let few : teams ≤ 40 = omega (arith, c.from-teams.ensures, c.requires.teams.at_most) in
    let short : c.from.result ≤ 78 = omega (arith, c.from.ensures, c.requires.slots, c.requires.teams.at_most) in
    omega (
      arith,
      mul-le teams (teams - 1) 40 39 few (omega (arith, few)),
      mul-le teams c.from.result 40 78 few short,
    )

pub returns-else-phased-clause-most : goal.returns-else-phased-clause-most
returns-else-phased-clause-most c =
    let teams = c.from-teams.result in
    let few : teams ≤ 40 = omega (arith, c.from-teams.ensures, c.requires.teams.at_most) in
    let short : c.from.result ≤ 78 = omega (arith, c.from.ensures, c.requires.slots, c.requires.teams.at_most) in
    omega (
      arith,
      mul-le teams (teams - 1) 40 39 few (omega (arith, few)),
      mul-le teams c.from.result 40 78 few short,
    )
