use Rattle.std.proofs.Common.{ℕ, List, ◌++◌, ap, ◌∙◌}
use Rattle.std.specs.List.{filter}
use Rattle.league.specs.declared.game.Game.{Game}
use Rattle.rule_core.specs.Touched.{plays_against}
use Rattle.season_misses.specs.Counting.{counts_in_ca3, is_in_window}
use Rattle.season_misses.specs.Reasons.{by_window}
use Rattle.season_misses.specs.declared.reason.Reason.{Reason}
use Rattle.season_misses.proofs.ListLemmas.{made_more}
use Rattle.season_misses.proofs.OwnLemmas.{filter-both}
use Rattle.season_misses.proofs.bounded.push_by_windows.Goals as goal

pub loop-first-preserved : goal.loop-first-preserved
loop-first-preserved c =
    let entry = c.args.entry in
    let player = c.args.player in
    let others : List ℕ = c.args.others.now in
    let intp : ℕ = c.args.windows.intp in
    let first : ℕ = c.loop-first.first in
    let games : List Game = c.args.season.now.games.now in
    let f : ℕ → List Reason = λ first. by_window entry.key entry.min entry.max first (filter (counts_in_ca3 others intp player.side player.team first) games) in
    made_more f c.args.reasons.now.items c.loop-first.reasons.items _ first c.loop-first.invariant
    (c.in_ok-push_by_window.ensures
    ∙ ap (λ (games : List Game). c.loop-first.reasons.items ++ by_window entry.key entry.min entry.max first games)
    (c.in_ok-counted.ensures
    ∙ ap (filter (is_in_window intp first)) (c.games.ensures ∙ c.in_ok-against.ensures)
    ∙ filter-both (is_in_window intp first) (λ g. plays_against player.side others g player.team) games))
