-- The next home team's games come behind those so far.
use Rattle.std.proofs.Common.{ℕ, List, ◌++◌, ap, ◌∙◌}
use Rattle.league.specs.declared.game.Game.{Game}
use Rattle.rows.specs.Values.{assigned}
use Rattle.decoding.specs.TrueGames.{true_home_games}
use Rattle.decoding.proofs.DecodeLemmas.{flat_map-range_more}
use Rattle.decoding.proofs.decoder.add_slot.Goals as goal

pub loop-home-preserved : goal.loop-home-preserved
loop-home-preserved c =
    let games : ℕ → List Game = true_home_games c.args.n (assigned c.args.assignment.now) c.args.slot in
    c.in_ok-add_home_games.ensures
    ∙ ap (λ (xs : List Game). xs ++ games c.loop-home.home) c.loop-home.invariant
    ∙ flat_map-range_more games c.args.schedule.now c.loop-home.home
