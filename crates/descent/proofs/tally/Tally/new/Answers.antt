use Rattle.std.proofs.Common.{◌<◌, ◌≤◌, ◌*◌, ◌^◌, ℕ, List, map, length, ap, subst, sym, ◌∙◌}
use Rattle.std.specs.List.{All, sum_by}
use Rattle.descent.specs.Ready.{IsReady, hard_cost, soft_cost}
use Rattle.descent.specs.declared.kept.Kept.{Kept}
use Rattle.descent.specs.declared.weighted.Weighted.{Weighted}
use Rattle.descent.proofs.KeepLemmas.{few_kept, kept_bound}
use Rattle.descent.proofs.tally.Tally.new.Goals as goal

pub costs-sums-requires-clause-ready : goal.costs-sums-requires-clause-ready
costs-sums-requires-clause-ready g c =
    subst (λ (l : List (Kept g.row.R.Denot)). All (IsReady g.R.Entries c.args.cells.n c.greatest_terms-room.result) l)
    (sym c.deref-3.ensures.value) c.in_ok-rules.ensures.ready

pub costs-sums-requires-clause-few : goal.costs-sums-requires-clause-few
costs-sums-requires-clause-few g c =
    subst (λ (l : List (Kept g.row.R.Denot)). sum_by (λ (k : Kept g.row.R.Denot). length k.vector.items) l < 2 ^ 31)
    (sym c.deref-3.ensures.value) (few_kept g.R.Entries c.args.cells.n c.greatest_terms-room.result
    c.in_ok-rules.rules.items c.args.rules.items c.in_ok-rules.ensures.ready c.in_ok-rules.ensures.weights
    c.requires.few)

pub invariant_of-result : goal.invariant_of-result
invariant_of-result g c =
    let f : Weighted g.row.R.Denot → ℕ = λ w. g.R.Entries.reach_of w.rule in
    let kept = c.in_ok-rules.rules.items in
    let bound : All (λ w. f w ≤ c.greatest_reach.result) (map (λ (k : Kept g.row.R.Denot). k.weighted) kept) = subst (λ (l : List (Weighted g.row.R.Denot)). All (λ w. f w ≤ c.greatest_reach.result) l) (c.deref-2.ensures.value ∙ sym c.in_ok-rules.ensures.weights) c.greatest_reach.ensures in
    record {
      ready = record {
        ready = subst (λ (room : ℕ). All (IsReady g.R.Entries c.args.cells.n room) kept) (sym c.in_ok-bench.ensures.room) c.in_ok-rules.ensures.ready;
        reach = subst (λ (room : ℕ). All (λ (k : Kept g.row.R.Denot). f k.weighted ≤ room) kept) (sym c.in_ok-bench.ensures.reach) (kept_bound f c.greatest_reach.result kept bound);
        few = few_kept g.R.Entries c.args.cells.n c.greatest_terms-room.result kept c.args.rules.items c.in_ok-rules.ensures.ready c.in_ok-rules.ensures.weights c.requires.few;
        clean = c.in_ok-bench.ensures.clean;
        infeasibility = c.costs-sums.ensures.infeasibility ∙ ap (λ (l : List (Kept g.row.R.Denot)). sum_by hard_cost l) c.deref-3.ensures.value;
        objective = c.costs-sums.ensures.objective ∙ ap (λ (l : List (Kept g.row.R.Denot)). sum_by soft_cost l) c.deref-3.ensures.value;
      };
      teams = c.in_ok-by_team.ensures.teams ∙ c.n.ensures.n;
      room = subst (λ (n : ℕ). All (λ l. 8 * n ≤ l.room) c.in_ok-by_team.by_team.items) c.n.ensures.n
          c.in_ok-by_team.ensures.room;
      exact = c.in_ok-rules.ensures.exact;
    }
