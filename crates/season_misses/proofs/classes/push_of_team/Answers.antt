use Rattle.std.proofs.Common.{◌≡◌, ◌++◌, List, OnOk, subst}
use Rattle.league.specs.declared.game.Game.{Game}
use Rattle.season_misses.specs.Reasons.{by_games}
use Rattle.season_misses.proofs.TestLemmas.{ca1-games, ca2-games}
use Rattle.season_misses.proofs.classes.push_of_team.Goals as goal

pub returns-in-Ca1 : goal.returns-in-Ca1
returns-in-Ca1 c =
    rw c.in-Ca1.is
    (subst (λ (games : List Game). OnOk c.push_by_test.result (c.push_by_test.new.reasons.items ≡ c.args.reasons.now.items ++ by_games c.args.key c.in-Ca1.min c.in-Ca1.max games))
    (ca1-games c.args.season.now.games.now _ _ _ _ _ _ c.player_at-player.ensures.side c.numbers-slots.ensures.numbers c.player_at-player.ensures.team)
    c.push_by_test.ensures)

pub returns-in-Ca2 : goal.returns-in-Ca2
returns-in-Ca2 c =
    rw c.in-Ca2.is
    (subst (λ (games : List Game). OnOk c.push_by_test-in-Ca2.result (c.push_by_test-in-Ca2.new.reasons.items ≡ c.args.reasons.now.items ++ by_games c.args.key c.in-Ca2.min c.in-Ca2.max games))
    (ca2-games c.args.season.now.games.now c.in-Ca2.teams2 _ _ _ _ _ _ c.player_at-player-in-Ca2.ensures.side c.numbers.ensures.numbers c.player_at-player-in-Ca2.ensures.team)
    c.push_by_test-in-Ca2.ensures)
