use Rattle.std.proofs.Common.{◌≡◌, ℕ, ◌+◌, ◌-◌, arith, ap}
use Rattle.std.specs.List.{range_with_len, sum_by}
use Rattle.league.specs.Venues.{home_games}
use Rattle.rule_core.specs.Table.{table_counts}
use Rattle.deviation.proofs.LeadLemmas.{homes_more}
use Rattle.deviation.proofs.leads.homes_in.Goals as goal

pub returns-then-from-end-clause-games : goal.returns-then-from-end-clause-games
returns-then-from-end-clause-games c =
    let f : ℕ → ℕ = λ s. home_games c.args.cells.now.n (table_counts c.args.cells.now) c.args.team.0 s in
    let from : ℕ = c.args.from in
    let none : 0 ≡ from - from = omega arith in
    let end : c.args.end ≡ from + 1 = omega arith in
    omega (
      arith,
      homes_more f from from 0 c.home.result (omega arith) (ap (λ (k : ℕ). sum_by f (range_with_len from k)) none)
          c.home.ensures.count,
      ap (λ (e : ℕ). sum_by f (range_with_len from (e - from))) end,
    )
