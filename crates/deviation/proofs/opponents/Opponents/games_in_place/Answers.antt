use Rattle.std.proofs.Common.{ℕ, ◌∙◌, ap, cond}
use Rattle.rule_core.specs.Places.{hosts}
use Rattle.rule_core.specs.declared.place.Place.{Place}
use Rattle.deviation.proofs.CapacityHosts.{games_no_guest, games_one_guest, guest_below}
use Rattle.deviation.proofs.opponents.Opponents.games_in_place.Goals as goal

pub returns-in-Home-clause-games : goal.returns-in-Home-clause-games
returns-in-Home-clause-games c n m s each teams =
    let self = c.args.self.now in
    let guest : ℕ = c.in-Home.guest.0 in
    games_one_guest m self.side self.teams1 self.teams2 s n c.args.host.0 guest c.one_game.result
    (guest_below n c.args.place c.in-Home.guest c.in-Home.is teams)
    (λ j. each j ∙ ap (λ (p : Place). cond {A = ℕ} (hosts p j) 1 0) c.in-Home.is) c.one_game.ensures.games

pub returns-in-Free-clause-games : goal.returns-in-Free-clause-games
returns-in-Free-clause-games c n m s each teams =
    let self = c.args.self.now in
    games_no_guest m self.side self.teams1 self.teams2 s n c.args.host.0
    (λ j. each j ∙ ap (λ (p : Place). cond {A = ℕ} (hosts p j) 1 0) c.in-Free.is)

pub returns-in-Away-clause-games : goal.returns-in-Away-clause-games
returns-in-Away-clause-games c n m s each teams =
    let self = c.args.self.now in
    games_no_guest m self.side self.teams1 self.teams2 s n c.args.host.0
    (λ j. each j ∙ ap (λ (p : Place). cond {A = ℕ} (hosts p j) 1 0) c.in-Away.is)
