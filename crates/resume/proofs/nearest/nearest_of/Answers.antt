use Rattle.std.proofs.Common.{ap, refl, subst, sym, ◌∙◌}
use Rattle.std.specs.List.{All}
use Rattle.rule_core.specs.Table.{Table, table_counts}
use Rattle.league.specs.Instance.{IsGame}
use Rattle.league.specs.Structure.{IsRoundRobin}
use Rattle.resume.proofs.nearest.nearest_of.Goals as goal

pub season_of-requires : goal.season_of-requires
season_of-requires c = record {
  round_robin = subst (λ (t : Table). IsRoundRobin t.n c.args.phased (table_counts t)) (sym c.cells.ensures)
      c.requires.round_robin;
}

pub returns : goal.returns
returns c = record {
  counts = c.in_ok-season_of.ensures.counts ∙ ap (λ (t : Table). table_counts t) c.cells.ensures;
  fit = subst (λ (t : Table). All (IsGame t.n) c.in_ok-season_of.field-0) c.cells.ensures c.in_ok-season_of.ensures.fit;
  in_order = c.in_ok-season_of.ensures.in_order;
  cost = c.objective.ensures;
  said = refl;
}
