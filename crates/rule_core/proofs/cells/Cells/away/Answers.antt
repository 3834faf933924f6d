use Rattle.std.proofs.Common.{length, arith, ap, ◌∙◌}
use Rattle.league.specs.Counts.{slot_count}
use Rattle.rule_core.specs.Table.{Table}
use Rattle.rule_core.proofs.SeenLemmas.{away_seen}
use Rattle.rule_core.proofs.TableLemmas.{kept-away-le, place_in_rows}
use Rattle.rule_core.proofs.cells.Cells.away.Goals as goal

pub at-requires-clause-place : goal.at-requires-clause-place
at-requires-clause-place c =
    let kept = c.self.invariant.0 in
    let teams = ap (λ (t : Table). t.n) c.self.view_is in
    let slots = ap (λ (t : Table). slot_count t.n) c.self.view_is in
    place_in_rows c.self.inside.n c.args.team.0 c.args.slot.0 c.self.inside.aways.columns
    (length c.self.inside.aways.numbers.items) kept.away_rows.wide kept.away_rows.long
    (omega (arith, teams, c.requires.team)) (omega (arith, slots, c.requires.slot))

pub returns-clause-count : goal.returns-clause-count
returns-clause-count c =
    let kept = c.self.invariant.0 in
    c.at.ensures
    ∙ kept.away c.args.team.0 c.args.slot.0
    ∙ away_seen c.self.inside.n c.self.inside.places.items c.self.inside.spare.items c.args.self.now kept.table
    c.self.view_is c.args.team.0 c.args.slot.0

pub returns-clause-at_most : goal.returns-clause-at_most
returns-clause-at_most c =
    omega (
      arith,
      c.at.ensures,
      kept-away-le c.self.inside.n c.self.inside.games c.self.inside.places.items
          c.self.inside.spare.items c.self.inside.homes c.self.inside.aways c.self.invariant.0 c.args.team.0
          c.args.slot.0,
    )
