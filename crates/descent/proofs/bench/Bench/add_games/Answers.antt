use Rattle.std.proofs.Common.{◌+◌, get_or, take}
use Rattle.std.specs.List.{flat_map}
use Rattle.descent.proofs.TouchedLemmas.{found-more, found-none, no_game, room-found, touched_more}
use Rattle.descent.proofs.bench.Bench.add_games.Goals as goal

pub loop-game-init : goal.loop-game-init
loop-game-init g c = found-none c.args.self.now

pub add_game-requires-clause-room : goal.add_game-requires-clause-room
add_game-requires-clause-room g c =
    room-found g.R.Entries c.args.rule.now (flat_map (g.R.Entries.touches c.args.rule.now) (take c.loop-game.game-index c.args.games.now))
    c.args.self.now c.loop-game.self c.requires.room c.loop-game.invariant

pub loop-game-preserved : goal.loop-game-preserved
loop-game-preserved g c =
    let touches = g.R.Entries.touches c.args.rule.now in
    let games = c.args.games.now in
    let at = c.loop-game.game-index in
    found-more (flat_map touches (take at games)) (touches (get_or games at no_game)) (flat_map touches (take (at + 1) games))
    c.args.self.now c.loop-game.self c.add_game.new.self c.loop-game.invariant c.add_game.ensures
    (touched_more touches games at c.loop-game-test.true)
