use Rattle.std.proofs.Common.{◌≡◌, length, arith}
use Rattle.league.specs.Counts.{slot_count}
use Rattle.patterns.proofs.PatternLemmas.{length-made, made-more}
use Rattle.league_search.specs.Letters.{letters_of, lowered}
use Rattle.league_search.proofs.letters.patterns_by.Goals as goal

pub push-requires : goal.push-requires
push-requires c =
    let so_many : length c.loop-team.patterns ≡ c.loop-team.team =
    length-made
    (letters_of c.args.encoding.now.n (lowered c.args.games c.args.values.now) (slot_count c.args.encoding.now.n))
    c.loop-team.team c.loop-team.patterns c.loop-team.invariant in
    omega (
      arith,
      so_many,
      c.loop-team-test.true,
      c.n-team-end.ensures.n,
      c.n-team-end.ensures.instance.teams.at_most,
    )

pub loop-team-preserved : goal.loop-team-preserved
loop-team-preserved c =
    made-more
    (letters_of c.args.encoding.now.n (lowered c.args.games c.args.values.now) (slot_count c.args.encoding.now.n))
    c.loop-team.team c.loop-team.patterns _ _ c.loop-team.invariant c.in_ok-push.ensures.ok
    c.in_ok-pattern_by.ensures
