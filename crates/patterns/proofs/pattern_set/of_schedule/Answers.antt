use Rattle.std.proofs.Common.{◌≡◌, ℕ, map}
use Rattle.std.proofs.lemmas.Result.{IfOk-weaker}
use Rattle.league.specs.Counts.{counts_of, slot_count, slots_of}
use Rattle.league.proofs.RoundRobinLemmas.{plays_once}
use Rattle.patterns.specs.Pattern.{breaks_in}
use Rattle.patterns.specs.PatternSet.{patterns_of, team_breaks}
use Rattle.patterns.proofs.BreakLemmas.{breaks_in-patterns}
use Rattle.patterns.proofs.PatternLemmas.{patterns-read}
use Rattle.patterns.proofs.pattern_set.of_schedule.Goals as goal

pub returns-clause-patterns : goal.returns-clause-patterns
returns-clause-patterns c =
    IfOk-weaker c.patterns_from.result _ (λ patterns. patterns ≡ patterns_of c.args.league.now.n (counts_of c.args.schedule.now))
    (λ patterns is.
    patterns-read c.args.league.now.n (slot_count c.args.league.now.n) c.n-n.result c.slots.result c.args.schedule.now c.games.result.now c.home_table-table.result patterns c.n-n.ensures.n c.slots.ensures c.games.ensures c.requires.fit c.home_table-table.ensures is)
    c.patterns_from.ensures

pub returns-clause-breaks : goal.returns-clause-breaks
returns-clause-breaks c =
    let n : ℕ = c.args.league.now.n in
    IfOk-weaker c.patterns_from.result (λ patterns. patterns ≡ patterns_of c.args.league.now.n (counts_of c.args.schedule.now)) (λ patterns. map breaks_in patterns ≡ team_breaks c.args.league.now.n (counts_of c.args.schedule.now) (slots_of c.args.league.now.n))
    (λ patterns is. breaks_in-patterns n (slot_count n) (counts_of c.args.schedule.now) patterns (λ i s team slot. plays_once n (counts_of c.args.schedule.now) i s c.requires.round_robin.cells team slot) is)
    (returns-clause-patterns c)
