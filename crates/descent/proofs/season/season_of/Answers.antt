use Rattle.std.proofs.Common.{◌≡◌, ℕ, arith, subst}
use Rattle.std.proofs.lemmas.List.Sorted.{All-permutation}
use Rattle.league.specs.Instance.{IsGame}
use Rattle.rule_core.specs.Table.{table_counts}
use Rattle.descent.proofs.SeasonLemmas.{AreSingle-of, IsBelow, below-all}
use Rattle.descent.proofs.season.season_of.Goals as goal

pub add_home_games-requires-clause-single : goal.add_home_games-requires-clause-single
add_home_games-requires-clause-single c =
    AreSingle-of c.args.cells.now c.args.phased c.games-games.ensures.no_other c.requires.round_robin

pub returns-clause-counts : goal.returns-clause-counts
returns-clause-counts c =
    let at : c.loop-home.home ≡ c.n-home-end.result = omega (arith, c.loop-home-test.false, c.loop-home.auto.home-end) in
    below-all c.args.cells.now c.n-home-end.result c.loop-home.games c.put_in_order.new.self c.n-home-end.ensures.n
    c.games-games.ensures.no_other
    (subst (λ (home : ℕ). IsBelow (table_counts c.args.cells.now) home c.loop-home.games) at
    c.loop-home.invariant.counts) c.put_in_order.ensures.permutation

pub returns-clause-fit : goal.returns-clause-fit
returns-clause-fit c =
    All-permutation (IsGame c.args.cells.now.n) c.loop-home.games c.put_in_order.new.self
    c.put_in_order.ensures.permutation c.loop-home.invariant.fit
