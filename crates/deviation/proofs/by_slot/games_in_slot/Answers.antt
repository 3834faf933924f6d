use Rattle.std.proofs.Common.{◌≡◌, ℕ, ◌+◌, arith, ap, sym, ◌∙◌}
use Rattle.std.specs.List.{range_with_len, sum_by}
use Rattle.league.proofs.RangeLemmas.{summed}
use Rattle.rule_core.specs.Table.{table_counts}
use Rattle.deviation.specs.BySlot.{listed_games}
use Rattle.deviation.proofs.ListedLemmas.{games_by_home}
use Rattle.deviation.proofs.by_slot.games_in_slot.Goals as goal

pub loop-host-preserved : goal.loop-host-preserved
loop-host-preserved c =
    let n = c.args.cells.now.n in
    let f : ℕ → ℕ = λ i. listed_games n (table_counts c.args.cells.now) c.args.meetings.now.list c.args.slot.0 i in
    record {
      counted = summed f c.loop-host.host c.loop-host.games _ c.loop-host.invariant.counted
          (ap (λ (x : ℕ). c.loop-host.games + x) (c.from-games.ensures ∙ c.games_at_home.ensures.games));
      bounded = omega (arith, c.loop-host.invariant.bounded, c.from-games.ensures, c.games_at_home.ensures.at_most);
    }

pub returns-clause-games : goal.returns-clause-games
returns-clause-games c =
    let n = c.args.cells.now.n in
    let m = table_counts c.args.cells.now in
    let all : c.loop-host.host ≡ n = omega arith in
    c.loop-host.invariant.counted
    ∙ ap (λ (k : ℕ). sum_by (listed_games n m c.args.meetings.now.list c.args.slot.0) (range_with_len 0 k)) all
    ∙ sym (games_by_home n m c.args.meetings.now.list c.args.slot.0 c.requires.ascending c.requires.inside)

pub returns-clause-at_most : goal.returns-clause-at_most
returns-clause-at_most c = omega (arith, c.loop-host.invariant.bounded, c.requires.few)
