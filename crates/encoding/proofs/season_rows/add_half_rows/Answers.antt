use Rattle.std.proofs.Common.{ℕ, ◌<◌, ◌≤◌, List, length, sym, subst, ◌∙◌}
use Rattle.std.specs.List.{All}
use Rattle.encoding.proofs.PairLemmas.{pairs_few}
use Rattle.encoding.proofs.MeetingOrder.{pairs_of-in_order}
use Rattle.encoding.proofs.season_rows.add_half_rows.Goals as goal

pub add_half_rows_of-requires-clause-pairs : goal.add_half_rows_of-requires-clause-pairs
add_half_rows_of-requires-clause-pairs c =
    subst (λ (ps : List (ℕ × ℕ)). All (λ p. (p.0 < p.1) × (p.1 < c.args.season.now)) ps)
    (sym (c.deref.ensures.value ∙ c.in_ok-pairs.ensures))
    (pairs_of-in_order c.args.season.now 0 c.teams.result.now c.teams.ensures.ascend)

pub add_half_rows_of-requires-clause-few : goal.add_half_rows_of-requires-clause-few
add_half_rows_of-requires-clause-few c =
    subst (λ (ps : List (ℕ × ℕ)). length ps ≤ 780) (sym (c.deref.ensures.value ∙ c.in_ok-pairs.ensures))
    (pairs_few c.teams.result.now c.teams.ensures.at_most)
