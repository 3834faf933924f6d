use Rattle.std.proofs.Common.{◌≡◌, ◌++◌, List, ℕ, [], OnOk, get_or, subst, ap, ◌∙◌}
use Rattle.league.specs.Deviation.{spans}
use Rattle.league.specs.declared.game.Game.{Game}
use Rattle.season_misses.specs.Reasons.{by_games}
use Rattle.season_misses.proofs.TestLemmas.{ca4-games, ga1-games}
use Rattle.season_misses.proofs.classes.push_of_meetings.Goals as goal

pub returns-in-Ca4 : goal.returns-in-Ca4
returns-in-Ca4 c =
    let span = c.in-Ca4.span in
    rw c.in-Ca4.is
    (subst (λ (games : List Game). OnOk c.push_by_test.result (c.push_by_test.new.reasons.items ≡ c.args.reasons.now.items ++ by_games c.args.key c.in-Ca4.min c.in-Ca4.max games))
    (ca4-games c.args.season.now.games.now c.in-Ca4.side c.in-Ca4.teams1 c.in-Ca4.teams2 _ _
    (c.span_slots-slots.ensures ∙ ap (λ (slots : List ℕ). get_or (spans span slots) c.args.key []) c.numbers.ensures.numbers))
    c.push_by_test.ensures)

pub returns-in-Ga1 : goal.returns-in-Ga1
returns-in-Ga1 c =
    rw c.in-Ga1.is
    (subst (λ (games : List Game). OnOk c.push_by_test-in-Ga1.result (c.push_by_test-in-Ga1.new.reasons.items ≡ c.args.reasons.now.items ++ by_games c.args.key c.in-Ga1.min c.in-Ga1.max games))
    (ga1-games c.args.season.now.games.now c.in-Ga1.meetings _ _ c.numbers-slots.ensures.numbers)
    c.push_by_test-in-Ga1.ensures)
