use Rattle.std.proofs.Common.{length, arith, ap}
use Rattle.league.specs.Counts.{slot_count}
use Rattle.rule_core.specs.Table.{Table}
use Rattle.rule_core.proofs.SeenLemmas.{away_told, home_told, more_away, more_home, no_more_away, no_more_home}
use Rattle.rule_core.proofs.SeenLemmas.{teams_told}
use Rattle.rule_core.proofs.TableLemmas.{place_in_rows}
use Rattle.rule_core.proofs.cells.Cells.place.Goals as goal
use Rattle.rule_core.proofs.cells.Cells.place.Goals.{else-settled-via-then-settled+else-away-away_games}
use Rattle.rule_core.proofs.cells.Cells.place.Goals.{else-settled-via-else-settled}

pub read_place-place-requires-clause-place : goal.read_place-place-requires-clause-place
read_place-place-requires-clause-place c =
    let teams = ap (λ (t : Table). t.n) c.self.view_is in
    let slots = ap (λ (t : Table). slot_count t.n) c.self.view_is in
    place_in_rows c.self.inside.n c.args.team.0 c.args.slot.0 c.slot_count.result
    (length c.self.inside.places.items) c.slot_count.ensures c.self.invariant.0.table.size
    (omega (arith, teams, c.requires.team)) (omega (arith, slots, c.requires.slot))

pub returns-then-away-away_games-clause-home : goal.returns-then-away-away_games-clause-home
returns-then-away-away_games-clause-home c =
    home_told c.self.inside.n c.self.inside.games c.self.inside.places.items c.self.inside.spare.items
    c.self.inside.homes c.self.inside.aways c.self.invariant.0 c.args.self.now c.self.view_is c.args.team.0
    c.args.slot.0 c.slot_count.result c.read_place-place.result c.slot_count.ensures c.read_place-place.ensures
    (no_more_home c.self.inside.n c.self.inside.games c.self.inside.places.items c.self.inside.spare.items
    c.self.inside.homes c.self.inside.aways c.self.invariant.0 c.args.self.now c.self.view_is c.args.team.0
    c.args.slot.0 c.slot_count.result c.read_place-place.result c.slot_count.ensures c.read_place-place.ensures
    c.home.result c.home_games.result c.home.ensures.count c.home_games.ensures c.if-settled.true)

pub returns-then-away-away_games-clause-away : goal.returns-then-away-away_games-clause-away
returns-then-away-away_games-clause-away c =
    away_told c.self.inside.n c.self.inside.games c.self.inside.places.items c.self.inside.spare.items
    c.self.inside.homes c.self.inside.aways c.self.invariant.0 c.args.self.now c.self.view_is c.args.team.0
    c.args.slot.0 c.slot_count.result c.read_place-place.result c.slot_count.ensures c.read_place-place.ensures
    (no_more_away c.self.inside.n c.self.inside.games c.self.inside.places.items c.self.inside.spare.items
    c.self.inside.homes c.self.inside.aways c.self.invariant.0 c.args.self.now c.self.view_is c.args.team.0
    c.args.slot.0 c.slot_count.result c.read_place-place.result c.slot_count.ensures c.read_place-place.ensures
    c.away.result c.away_games.result c.away.ensures.count c.away_games.ensures c.if-away-away_games.true)

pub returns-then-away-away_games-clause-teams : goal.returns-then-away-away_games-clause-teams
returns-then-away-away_games-clause-teams c = teams_told c.self.inside.n c.self.inside.games
    c.self.inside.places.items c.self.inside.spare.items c.self.inside.homes c.self.inside.aways c.self.invariant.0
    c.args.self.now c.self.view_is c.args.team.0 c.args.slot.0 c.slot_count.result c.read_place-place.result
    c.slot_count.ensures c.read_place-place.ensures

pub returns-clause-none : goal.returns-clause-none
returns-clause-none c =
    elim c.else-settled.branch [
      | else-settled-via-then-settled+else-away-away_games w ↦
          omega (
            arith,
            more_away c.self.inside.n c.self.inside.games c.self.inside.places.items
                c.self.inside.spare.items c.self.inside.homes c.self.inside.aways c.self.invariant.0 c.args.self.now
                c.self.view_is c.args.team.0 c.args.slot.0 c.slot_count.result c.read_place-place.result
                c.slot_count.ensures c.read_place-place.ensures w.away.result w.away_games.result w.away.ensures.count
                w.away_games.ensures w.if-away-away_games.false,
          )
      | else-settled-via-else-settled w ↦
          omega (
            arith,
            more_home c.self.inside.n c.self.inside.games c.self.inside.places.items
                c.self.inside.spare.items c.self.inside.homes c.self.inside.aways c.self.invariant.0 c.args.self.now
                c.self.view_is c.args.team.0 c.args.slot.0 c.slot_count.result c.read_place-place.result
                c.slot_count.ensures c.read_place-place.ensures c.home.result c.home_games.result c.home.ensures.count
                c.home_games.ensures w.if-settled.false,
          )
    ]
