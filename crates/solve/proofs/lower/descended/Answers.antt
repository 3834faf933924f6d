use Rattle.std.proofs.Common.{◌≡◌, ℕ, Bool, length, ap, refl, subst, sym, ◌∙◌}
use Rattle.std.specs.List.{All}
use Rattle.league.specs.Counts.{Counts, counts_of}
use Rattle.league.specs.Instance.{IsGame}
use Rattle.league.specs.Structure.{IsRoundRobin}
use Rattle.rule_core.specs.Table.{Table, table_counts}
use Rattle.solve.specs.Solutions.{league_score}
use Rattle.solve.proofs.KeptLemmas.{kept-moves}
use Rattle.solve.proofs.LowerLemmas.{Descends-same, IsSchedule-of, cost-is}
use Rattle.solve.proofs.lower.descended.Goals as goal
use Rattle.walk.proofs.WalkLemmas.{scores-are}

pub descend_watched-requires : goal.descend_watched-requires
descend_watched-requires g c =
    let m : Counts = table_counts c.args.tally.now.table in
    record {
      round_robin = subst (λ (b : Bool). IsRoundRobin c.args.tally.now.table.n b m) (sym c.phased-phased.ensures)
          (subst (λ (n : ℕ). IsRoundRobin n c.args.league.now.phased m) (sym c.requires.teams)
          c.requires.accepted.round_robin);
    }

pub season_of-requires : goal.season_of-requires
season_of-requires g c = record {
  round_robin = subst (λ (t : Table). IsRoundRobin t.n c.phased-phased.result (table_counts t)) (sym c.cells.ensures)
      (subst (λ (n : ℕ). IsRoundRobin n c.phased-phased.result (table_counts c.descend_watched.new.tally.table))
      (sym c.descend_watched.ensures.teams) c.descend_watched.ensures.round_robin);
}

pub returns-clause-season : goal.returns-clause-season
returns-clause-season g c =
    let by = kept-moves c.args.moves (g.W.Watch.may_stop c.args.watch.now) c.in_ok-descent.descent.settled
    (length c.in_ok-descent.descent.trail) c.in_ok-descent.ensures.few c.in_ok-descent.ensures.spent in
    let start : Counts = table_counts c.args.tally.now.table in
    let end : Counts = table_counts c.descend_watched.new.tally.table in
    let counts : counts_of c.in_ok-schedule.schedule ≡ end =
    c.in_ok-schedule.ensures.counts ∙ ap (λ (t : Table). table_counts t) c.cells.ensures in
    let teams : c.cells.result.now.n ≡ c.args.league.now.n =
    ap (λ (t : Table). t.n) c.cells.ensures ∙ c.descend_watched.ensures.teams ∙ c.requires.teams in
    record {
      kept = by.kept;
      is_kept = by.is_kept;
      is_season =
          IsSchedule-of c.args.league.now start end by.kept
          (g.W.Watch.may_stop c.args.watch.now) c.in_ok-descent.descent c.in_ok-schedule.schedule c.objective.result
          (Descends-same c.args.tally.now.table.n c.args.league.now.n c.phased-phased.result c.args.league.now.phased
          _ (league_score c.args.league.now) start start end by.kept (g.W.Watch.may_stop c.args.watch.now)
          c.in_ok-descent.descent c.requires.teams c.phased-phased.ensures
          (scores-are _ c.args.league.now c.args.tally.now.weights c.requires.rules) refl
          (record {
            round_robin = c.descend_watched.ensures.round_robin;
            first = c.in_ok-descent.ensures.first;
            fit = c.in_ok-descent.ensures.fit;
            in_order = c.in_ok-descent.ensures.in_order;
            trail = c.in_ok-descent.ensures.trail;
            few = by.few;
            settled = c.in_ok-descent.ensures.settled;
            spent = by.spent;
            costly = c.in_ok-descent.ensures.costly;
            lowers = c.in_ok-descent.ensures.lowers;
          }))
          c.requires.accepted counts
          (subst (λ (n : ℕ). All (IsGame n) c.in_ok-schedule.schedule) teams c.in_ok-schedule.ensures.fit)
          c.in_ok-schedule.ensures.in_order
          (c.objective.ensures
          ∙ cost-is _ c.args.league.now c.args.tally.now.weights c.descend_watched.new.tally.weights end
          c.requires.rules c.descend_watched.ensures.weights);
    }
