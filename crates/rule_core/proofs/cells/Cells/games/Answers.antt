use Rattle.std.proofs.Common.{◌≤◌, ap, sym, subst, ◌∙◌}
use Rattle.league.specs.Counts.{Counts}
use Rattle.rule_core.specs.Table.{Table}
use Rattle.rule_core.proofs.SeenLemmas.{seen}
use Rattle.rule_core.proofs.TableLemmas.{kept-within}
use Rattle.rule_core.proofs.cells.Cells.games.Goals as goal

pub returns-clause-no_other : goal.returns-clause-no_other
returns-clause-no_other c i j s past =
    let table = c.self.invariant.0.table in
    ap (λ (m : Counts). m i j s)
    (seen c.self.inside.n c.self.inside.places.items c.self.inside.spare.items c.args.self.now table
    c.self.view_is)
    ∙ (kept-within c.self.inside.n c.self.inside.places.items c.self.inside.spare.items table).home i j s
    (subst (λ (t : Table). t.n ≤ i) (sym c.self.view_is) past)
