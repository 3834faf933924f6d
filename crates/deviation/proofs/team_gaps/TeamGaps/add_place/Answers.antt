use Rattle.std.proofs.Common.{ℕ, get_or, refl}
use Rattle.deviation.proofs.TeamLemmas.{away_is, away_once, away_others, free_none, home_is, home_once, home_others}
use Rattle.deviation.proofs.TeamLemmas.{kept-next, summed-free, summed-one}
use Rattle.deviation.proofs.team_gaps.TeamGaps.add_place.Goals as goal

pub add_game-requires-clause-other : goal.add_game-requires-clause-other
add_game-requires-clause-other c =
    c.requires.teams c.in-Home.other.0 (home_is c.args.place c.in-Home.other c.in-Home.is)

pub add_game-requires-in-Away-clause-other : goal.add_game-requires-in-Away-clause-other
add_game-requires-in-Away-clause-other c =
    c.requires.teams c.in-Away.other.0 (away_is c.args.place c.in-Away.other c.in-Away.is)

pub returns-in-Free-clause-kept : goal.returns-in-Free-clause-kept
returns-in-Free-clause-kept c = kept-next c.args.slot c.args.self.now c.requires.kept

pub returns-in-Free-clause-summed : goal.returns-in-Free-clause-summed
returns-in-Free-clause-summed c n m later inside of ascending so_far k d lt =
    let j : ℕ = get_or later k d in
    summed-free n m c.args.min c.args.team.0 c.args.slot c.args.self.now c.args.self.now j inside
    (free_none m c.args.team.0 c.args.slot c.args.place c.in-Free.is of j) (refl, refl) (so_far k d lt)

pub returns-in-Home-clause-summed : goal.returns-in-Home-clause-summed
returns-in-Home-clause-summed c n m later inside of ascending =
    let i : ℕ = c.args.team.0 in
    let other = c.in-Home.other in
    summed-one n m c.args.min i c.args.slot c.args.self.now c.add_game.new.self other.0 later inside ascending
    (home_others m i c.args.slot c.args.place other c.in-Home.is of) c.add_game.ensures.others
    (c.add_game.ensures.summed n m inside (home_once m i c.args.slot c.args.place other c.in-Home.is of))

pub returns-in-Away-clause-summed : goal.returns-in-Away-clause-summed
returns-in-Away-clause-summed c n m later inside of ascending =
    let i : ℕ = c.args.team.0 in
    let other = c.in-Away.other in
    summed-one n m c.args.min i c.args.slot c.args.self.now c.add_game-in-Away.new.self other.0 later inside ascending
    (away_others m i c.args.slot c.args.place other c.in-Away.is of) c.add_game-in-Away.ensures.others
    (c.add_game-in-Away.ensures.summed n m inside (away_once m i c.args.slot c.args.place other c.in-Away.is of))
