use Rattle.std.proofs.Common.{◌+◌, ◌≡◌, ◌<◌, List, get_or, length, take, ap, subst, ◌∙◌, ℕ, arith}
use Rattle.std.proofs.lemmas.List.{get_or_read}
use Rattle.std.specs.List.{flat_map}
use Rattle.league.specs.declared.game.Game.{Game}
use Rattle.league.specs.declared.game.TeamId.{TeamId}
use Rattle.descent.specs.Bench.{HasFound}
use Rattle.descent.specs.ByTeam.{GameRoom, games_at, no_games}
use Rattle.descent.proofs.ByTeamLemmas.{touched_at}
use Rattle.descent.proofs.TouchedLemmas.{found-more, found-none, keys_of_more, room-found}
use Rattle.descent.proofs.bench.Bench.add_teams.Goals as goal

pub loop-team-init : goal.loop-team-init
loop-team-init g c = found-none c.args.self.now

pub add_games-requires-clause-room : goal.add_games-requires-clause-room
add_games-requires-clause-room g c =
    room-found g.R.Entries c.args.rule.now
    (flat_map (touched_at (g.R.Entries.touches c.args.rule.now) c.args.lists.now) (take c.loop-team.team-index c.args.teams.now))
    c.args.self.now c.loop-team.self c.requires.room c.loop-team.invariant

pub loop-team-preserved : goal.loop-team-preserved
loop-team-preserved g c =
    let touches = g.R.Entries.touches c.args.rule.now in
    let lists = c.args.lists.now in
    let teams = c.args.teams.now in
    let at = c.loop-team.team-index in
    let no_team : TeamId = record { 0 = 0 } in
    let team : TeamId = get_or teams at no_team in
    let there : c.from.result < length lists =
    omega (arith, c.requires.teams at no_team c.loop-team-test.true, c.from.ensures) in
    let listed : c.games.result.now ≡ games_at lists team.0 =
    c.games.ensures
    ∙ ap (λ (l : GameRoom). l.list)
    (get_or_read lists c.from.result c.index-lists-from.result there c.index-lists-from.is no_games)
    ∙ ap (λ (i : ℕ). games_at lists i) c.from.ensures in
    found-more (flat_map (touched_at touches lists) (take at teams)) (touched_at touches lists team)
    (flat_map (touched_at touches lists) (take (at + 1) teams)) c.args.self.now c.loop-team.self c.add_games.new.self
    c.loop-team.invariant
    (subst (λ (l : List Game). HasFound (flat_map touches l) c.loop-team.self c.add_games.new.self) listed c.add_games.ensures)
    (keys_of_more (touched_at touches lists) teams at no_team c.loop-team-test.true)
