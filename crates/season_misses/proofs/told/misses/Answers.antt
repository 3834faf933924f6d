use Rattle.std.proofs.Common.{◌≤◌, List, ℕ, length, subst, sym}
use Rattle.std.specs.List.{All}
use Rattle.league.specs.Counts.{counts_of}
use Rattle.season_misses.specs.Misses.{misses_of}
use Rattle.season_misses.proofs.MissLemmas.{vectors-short}
use Rattle.season_misses.proofs.OrderLemmas.{are-told}
use Rattle.season_misses.proofs.told.misses.Goals as goal

pub misses_of-requires-clause-short : goal.misses_of-requires-clause-short
misses_of-requires-clause-short c =
    subst (λ (vectors : List (List ℕ)). All (λ vector. length vector ≤ 1600) vectors) (sym c.requires.vectors)
    (vectors-short c.args.season.now.league.now (counts_of c.args.season.now.games.now) c.n-teams.ensures.instance)

pub returns-in_err-found-clause-order : goal.returns-in_err-found-clause-order
returns-in_err-found-clause-order c = are-told (misses_of c.args.season.now.league.now c.args.season.now.games.now)

pub returns-in_err-order-clause-order : goal.returns-in_err-order-clause-order
returns-in_err-order-clause-order c = are-told (misses_of c.args.season.now.league.now c.args.season.now.games.now)

pub returns-in_err-push_counts-clause-order : goal.returns-in_err-push_counts-clause-order
returns-in_err-push_counts-clause-order c = are-told (misses_of c.args.season.now.league.now c.args.season.now.games.now)

pub returns-in_err-push_each_told-clause-order : goal.returns-in_err-push_each_told-clause-order
returns-in_err-push_each_told-clause-order c = are-told (misses_of c.args.season.now.league.now c.args.season.now.games.now)

pub returns-in_err-push_more-clause-order : goal.returns-in_err-push_more-clause-order
returns-in_err-push_more-clause-order c = are-told (misses_of c.args.season.now.league.now c.args.season.now.games.now)
