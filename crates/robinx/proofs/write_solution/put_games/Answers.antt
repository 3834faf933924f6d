use Rattle.std.proofs.lemmas.List.{get_or_default}
use Rattle.robinx.specs.Texts.{game_line}
use Rattle.robinx.proofs.WrittenTexts.{piece_added}
use Rattle.robinx.proofs.write_solution.put_games.Goals as goal

pub loop-game-preserved : goal.loop-game-preserved
loop-game-preserved c =
    piece_added game_line c.args.games.now c.loop-game.game-index _ c.loop-game.text.items c.put_game.new.text.items _ c.loop-game-test.true (get_or_default c.args.games.now c.loop-game.game-index _ _ c.loop-game-test.true) c.in_ok-put_game.ensures c.loop-game.invariant
