use Rattle.std.proofs.Common.{◌≡◌, List, ℕ, IfOk, subst, ap, ◌∙◌}
use Rattle.std.specs.List.{filter}
use Rattle.league.specs.declared.class.Side.TheVariants.{Both}
use Rattle.league.specs.declared.game.Game.{Game}
use Rattle.rule_core.specs.Touched.{plays_on}
use Rattle.season_misses.specs.Counting.{counts_in_se1}
use Rattle.season_misses.proofs.OwnLemmas.{filter-within, mutual-plays}
use Rattle.season_misses.proofs.counted_games.mutual_games.Goals as goal

pub returns : goal.returns
returns c =
    let p : ℕ × ℕ = (c.args.first.0, c.args.second.0) in
    subst (λ (games : List Game). IfOk c.games_that_pass.result (λ list. list ≡ games))
    (ap (filter (counts_in_se1 p)) c.of_team.ensures
    ∙ filter-within (counts_in_se1 p) (λ g. plays_on Both g p.0) (mutual-plays p) c.args.season.now.games.now)
    c.games_that_pass.ensures
