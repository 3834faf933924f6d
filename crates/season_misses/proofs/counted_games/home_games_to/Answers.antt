use Rattle.std.proofs.Common.{◌≡◌, List, ℕ, IfOk, subst, ap, ◌∙◌}
use Rattle.std.specs.List.{filter}
use Rattle.league.specs.declared.class.Side.TheVariants.{Both}
use Rattle.league.specs.declared.game.Game.{Game}
use Rattle.rule_core.specs.Touched.{plays_on}
use Rattle.season_misses.specs.Counting.{counts_in_fa2}
use Rattle.season_misses.proofs.OwnLemmas.{filter-within, home-plays}
use Rattle.season_misses.proofs.counted_games.home_games_to.Goals as goal

pub returns : goal.returns
returns c =
    let i : ℕ = c.args.team.0 in
    let slot : ℕ = c.args.slot in
    subst (λ (games : List Game). IfOk c.games_that_pass.result (λ list. list ≡ games))
    (ap (filter (counts_in_fa2 i slot)) c.of_team.ensures
    ∙ filter-within (counts_in_fa2 i slot) (λ g. plays_on Both g i) (home-plays i slot) c.args.season.now.games.now)
    c.games_that_pass.ensures
