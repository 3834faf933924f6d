use Rattle.std.proofs.Common.{◌≡◌, List, Option, subst, sym}
use Rattle.std.specs.Prelude.{IfSome}
use Rattle.std.specs.List.{All}
use Rattle.league.specs.Counts.{counts_of}
use Rattle.league.specs.Instance.{Instance, IsGame}
use Rattle.league.specs.declared.game.Game.{Game}
use Rattle.resume.proofs.LowerLemmas.{fit-same, ordered-fit, ordered-keeps, round-same}
use Rattle.resume.proofs.freed.freed_season.Goals as goal

pub solved_near-requires-clause-round_robin : goal.solved_near-requires-clause-round_robin
solved_near-requires-clause-round_robin g c =
    let teams : c.in-Some.near.n ≡ c.args.season.league.now.n =
    subst (λ (made : Option Instance). IfSome made (λ near. near.n ≡ c.args.season.league.now.n)) c.in-Some.is
    c.in_ok-made.ensures.teams in
    let phases : c.in-Some.near.phased ≡ c.args.season.league.now.phased =
    subst (λ (made : Option Instance). IfSome made (λ near. near.phased ≡ c.args.season.league.now.phased)) c.in-Some.is
    c.in_ok-made.ensures.phases in
    round-same c.args.season.league.now.n c.in-Some.near.n c.args.season.league.now.phased c.in-Some.near.phased
    (counts_of c.args.season.played.now) teams phases
    c.requires.round_robin

pub judged-requires-clause-fit : goal.judged-requires-clause-fit
judged-requires-clause-fit g c =
    let teams : c.in-Some.near.n ≡ c.args.season.league.now.n =
    subst (λ (made : Option Instance). IfSome made (λ near. near.n ≡ c.args.season.league.now.n)) c.in-Some.is
    c.in_ok-made.ensures.teams in
    let fit : All (IsGame c.in-Some.near.n) c.in-Some-found.end =
    subst (λ (found : Option (List Game)). IfSome found (All (IsGame c.in-Some.near.n))) c.in-Some-found.is
    c.in_ok-found.ensures in
    ordered-fit c.args.season.league.now.n c.args.season.k c.args.season.played.now c.in-Some-found.end c.in_ok-schedule.schedule
    c.in_ok-schedule.ensures.games c.requires.fit
    (fit-same c.in-Some.near.n c.args.season.league.now.n c.in-Some-found.end (sym teams) fit)

pub judged-requires-clause-keeps : goal.judged-requires-clause-keeps
judged-requires-clause-keeps g c =
    ordered-keeps c.args.season.k c.args.season.played.now c.in-Some-found.end c.in_ok-schedule.schedule
    c.in_ok-schedule.ensures.games
