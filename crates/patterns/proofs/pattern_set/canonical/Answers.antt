use Rattle.std.proofs.Common.{◌≡◌, ℕ, ◌-◌, List, map, refl, ap, ◌∙◌}
use Rattle.std.proofs.lemmas.Result.{IfOk-weaker}
use Rattle.std.specs.List.{sum_by}
use Rattle.league.specs.Counts.{counts_of, teams_of}
use Rattle.league.specs.Structure.{first_half}
use Rattle.league.specs.declared.game.Game.{Game}
use Rattle.circle_method.specs.Circle.{single_games}
use Rattle.patterns.specs.Pattern.{breaks_in}
use Rattle.patterns.specs.PatternSet.{canonical_patterns, pattern_in, team_breaks}
use Rattle.patterns.proofs.BreakLemmas.{canonical-breaks, canonical-few}
use Rattle.patterns.proofs.PatternLemmas.{all_fit, patterns-read}
use Rattle.patterns.proofs.pattern_set.canonical.Goals as goal

pub returns-clause-patterns : goal.returns-clause-patterns
returns-clause-patterns c =
    let n : ℕ = c.args.n in
    IfOk-weaker c.patterns_from.result _ (λ patterns. patterns ≡ canonical_patterns c.args.n)
    (λ patterns is.
    patterns-read n (n - 1) n (n - 1) c.in_ok-schedule.schedule c.games.result.now c.home_table-table.result patterns refl refl c.games.ensures (all_fit n c.in_ok-schedule.schedule c.in_ok-schedule.ensures.round_robin) c.home_table-table.ensures is
    ∙ ap (λ (games : List Game). map (pattern_in n (counts_of games) (first_half n)) (teams_of n)) c.in_ok-schedule.ensures.games)
    c.patterns_from.ensures

pub returns-clause-breaks : goal.returns-clause-breaks
returns-clause-breaks c =
    IfOk-weaker c.patterns_from.result (λ patterns. patterns ≡ canonical_patterns c.args.n) (λ patterns. map breaks_in patterns ≡ team_breaks c.args.n (counts_of (single_games c.args.n)) (first_half c.args.n))
    (λ patterns is. canonical-breaks c.args.n c.in_ok-schedule.schedule patterns c.in_ok-schedule.ensures.games c.in_ok-schedule.ensures.round_robin is)
    (returns-clause-patterns c)

pub returns-clause-fewest : goal.returns-clause-fewest
returns-clause-fewest c =
    IfOk-weaker c.patterns_from.result (λ patterns. map breaks_in patterns ≡ team_breaks c.args.n (counts_of (single_games c.args.n)) (first_half c.args.n)) (λ patterns. sum_by breaks_in patterns ≡ c.args.n - 2)
    (λ patterns each. canonical-few c.args.n c.in_ok-schedule.schedule patterns c.in_ok-schedule.ensures.games c.in_ok-schedule.ensures.breaks each)
    (returns-clause-breaks c)
