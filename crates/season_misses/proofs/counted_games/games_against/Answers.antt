use Rattle.std.proofs.Common.{◌≡◌, List, ℕ, IfOk, subst, ap, ◌∙◌}
use Rattle.std.specs.List.{filter}
use Rattle.league.specs.declared.class.Side.TheVariants.{Both}
use Rattle.league.specs.declared.game.Game.{Game}
use Rattle.rule_core.specs.Touched.{plays_against, plays_on}
use Rattle.season_misses.proofs.OwnLemmas.{against-plays, filter-within}
use Rattle.season_misses.proofs.counted_games.games_against.Goals as goal

pub returns : goal.returns
returns c =
    let side = c.args.player.side in
    let i : ℕ = c.args.player.team in
    let others : List ℕ = c.args.others.now in
    subst (λ (games : List Game). IfOk c.games_that_pass.result (λ list. list ≡ games))
    (ap (filter (λ g. plays_against side others g i)) c.of_team.ensures
    ∙ filter-within (λ g. plays_against side others g i) (λ g. plays_on Both g i) (λ g. against-plays side others g i) c.args.season.now.games.now)
    c.games_that_pass.ensures
