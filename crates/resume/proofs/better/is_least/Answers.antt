use Rattle.std.proofs.Common.{◌≡◌, ◌↔◌, arith, subst, sym, ◌∙◌}
use Rattle.std.specs.Prelude.{IsTrue}
use Rattle.std.proofs.lemmas.Bool.Decides.{nat_tests}
use Rattle.rule_core.specs.Table.{Table, table_counts}
use Rattle.league.specs.Accepted.{objective}
use Rattle.league.specs.Counts.{Counts}
use Rattle.descent.proofs.LeagueLemmas.{objective-league}
use Rattle.resume.specs.Changed.{changed_on}
use Rattle.resume.proofs.better.is_least.Goals as goal

pub returns-then-objective-eq0 : goal.returns-then-objective-eq0
returns-then-objective-eq0 g c =
    let plan = c.args.ground.now.plan in
    let m : Counts = table_counts c.args.tally.now.table in
    let cost : c.objective.result ≡ objective plan.league.now m =
    c.objective.ensures ∙ objective-league g.R.Entries 1 plan.league.now c.args.tally.now.weights m c.requires.ground.rules in
    let none : IsTrue c.none_changed.result ↔ (changed_on plan.k plan.games.now m ≡ 0) =
    subst (λ (t : Table). IsTrue c.none_changed.result ↔ (changed_on plan.k plan.games.now (table_counts t) ≡ 0))
    c.cells.ensures c.none_changed.ensures in
    (λ said. (none.0 said, sym cost ∙ c.if-objective-eq0.true), λ least. none.1 least.0)

pub returns-else-objective-eq0 : goal.returns-else-objective-eq0
returns-else-objective-eq0 g c =
    let plan = c.args.ground.now.plan in
    let m : Counts = table_counts c.args.tally.now.table in
    let cost : c.objective.result ≡ objective plan.league.now m =
    c.objective.ensures ∙ objective-league g.R.Entries 1 plan.league.now c.args.tally.now.weights m c.requires.ground.rules in
    (λ said. absurd (grind (arith, nat_tests)), λ least. absurd (omega (arith, cost, least.1, c.if-objective-eq0.false)))
