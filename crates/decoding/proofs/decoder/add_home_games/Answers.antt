-- The next away team's game comes behind those so far.
use Rattle.std.proofs.Common.{ℕ, List, ◌++◌, ap, ◌∙◌}
use Rattle.league.specs.declared.game.Game.{Game}
use Rattle.rows.specs.Values.{assigned}
use Rattle.encoding.specs.Shadow.{game_of}
use Rattle.decoding.specs.TrueGames.{true_game}
use Rattle.decoding.proofs.DecodeLemmas.{flat_map-range_more}
use Rattle.decoding.proofs.decoder.add_home_games.Goals as goal

pub loop-away-preserved : goal.loop-away-preserved
loop-away-preserved c =
    let games : ℕ → List Game = λ j. true_game c.args.n (assigned c.args.assignment.now)
    (game_of (c.args.home, j) c.args.slot) in
    c.in_ok-add_if_true.ensures
    ∙ ap (λ (xs : List Game). xs ++ games c.loop-away.away) c.loop-away.invariant
    ∙ flat_map-range_more games c.args.schedule.now c.loop-away.away
