use Rattle.std.proofs.Common.{ℕ, ◌∙◌, ap, cond}
use Rattle.rule_core.specs.Places.{hosts}
use Rattle.rule_core.specs.declared.place.Place.{Place}
use Rattle.deviation.proofs.ListedLemmas.{guest_below, listed_no_guest, listed_one_guest}
use Rattle.deviation.proofs.by_slot.games_in_place.Goals as goal

pub one_game-requires-clause-guest : goal.one_game-requires-clause-guest
one_game-requires-clause-guest c = guest_below c.args.meetings.now.n c.args.place c.in-Home.guest c.in-Home.is
    c.requires.guest

pub returns-in-Home-clause-games : goal.returns-in-Home-clause-games
returns-in-Home-clause-games c m s each =
    listed_one_guest c.args.meetings.now.n m c.args.meetings.now.list s c.args.host.0 c.in-Home.guest.0
    c.one_game.result
    (guest_below c.args.meetings.now.n c.args.place c.in-Home.guest c.in-Home.is c.requires.guest)
    (λ j. each j ∙ ap (λ (p : Place). cond {A = ℕ} (hosts p j) 1 0) c.in-Home.is) c.one_game.ensures.games

pub returns-in-Free-clause-games : goal.returns-in-Free-clause-games
returns-in-Free-clause-games c m s each =
    listed_no_guest c.args.meetings.now.n m c.args.meetings.now.list s c.args.host.0
    (λ j. each j ∙ ap (λ (p : Place). cond {A = ℕ} (hosts p j) 1 0) c.in-Free.is)

pub returns-in-Away-clause-games : goal.returns-in-Away-clause-games
returns-in-Away-clause-games c m s each =
    listed_no_guest c.args.meetings.now.n m c.args.meetings.now.list s c.args.host.0
    (λ j. each j ∙ ap (λ (p : Place). cond {A = ℕ} (hosts p j) 1 0) c.in-Away.is)
