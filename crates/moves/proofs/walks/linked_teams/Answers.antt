use Rattle.std.proofs.Common.{◌≡◌, ℕ, ◌<◌, ◌≤◌, true, false, length, set, refl, arith, ◌∙◌}
use Rattle.std.proofs.lemmas.List.{length-set}
use Rattle.moves.specs.Round.{Round, round_counts}
use Rattle.moves.specs.Walks.{IsTeamWalk, is_marked}
use Rattle.moves.proofs.OpponentLemmas.{meets_back}
use Rattle.moves.proofs.StepLemmas.{IsTeamStep, IsTeamWalk-more, IsTeamWalk-none, count-more, team_start, team_walk_closed, team_walk_end}
use Rattle.moves.proofs.WalkLemmas.{count-mark, marked-le}
use Rattle.moves.proofs.walks.linked_teams.Goals as goal

pub walk-init : goal.walk-init
walk-init c = (IsTeamWalk-none c.args.board.now.n (round_counts c.args.board.now) c.args.team.0 c.args.s.0 c.args.t.0 40 c.requires.team, refl)

pub walk-preserved : goal.walk-preserved
walk-preserved c =
    let r : Round = c.args.board.now in
    let at : ℕ = c.walk.next.0 in
    let met : ℕ = c.opponent-met.result.0 in
    let to : ℕ = c.opponent-next.result.0 in
    let unmarked : is_marked c.walk.marks at ≡ false = grind arith in
    let most : r.n ≤ length c.walk.marks = omega (arith, c.walk.invariant.1, c.n-most.ensures.teams.at_most) in
    let step : IsTeamStep r.n (round_counts r) c.args.s.0 c.args.t.0 at met to = record {
      below_met = c.opponent-met.ensures.below;
      below_to = c.opponent-next.ensures.below;
      differ_met = c.opponent-met.ensures.differ;
      differ_to = c.opponent-next.ensures.differ;
      at_s = c.opponent-met.ensures.meets;
      met_s = meets_back r at met c.args.s.0 c.n-most.ensures.round c.walk.invariant.0.way.below c.opponent-met.ensures.below c.requires.s c.opponent-met.ensures.meets;
      met_t = c.opponent-next.ensures.meets;
      to_t = meets_back r met to c.args.t.0 c.n-most.ensures.round c.opponent-met.ensures.below c.opponent-next.ensures.below c.requires.t c.opponent-next.ensures.meets;
    } in (
      IsTeamWalk-more r.n (round_counts r) c.args.team.0 c.args.s.0 c.args.t.0 c.walk.marks at met to c.walk.invariant.0 step most unmarked,
      length-set (set c.walk.marks at true) met true ∙ length-set c.walk.marks at true ∙ c.walk.invariant.1,
    )

pub walk-smaller : goal.walk-smaller
walk-smaller c =
    let r : Round = c.args.board.now in
    let at : ℕ = c.walk.next.0 in
    let met : ℕ = c.opponent-met.result.0 in
    let to : ℕ = c.opponent-next.result.0 in
    let unmarked : is_marked c.walk.marks at ≡ false = grind arith in
    let most : r.n ≤ length c.walk.marks = omega (arith, c.walk.invariant.1, c.n-most.ensures.teams.at_most) in
    let step : IsTeamStep r.n (round_counts r) c.args.s.0 c.args.t.0 at met to = record {
      below_met = c.opponent-met.ensures.below;
      below_to = c.opponent-next.ensures.below;
      differ_met = c.opponent-met.ensures.differ;
      differ_to = c.opponent-next.ensures.differ;
      at_s = c.opponent-met.ensures.meets;
      met_s = meets_back r at met c.args.s.0 c.n-most.ensures.round c.walk.invariant.0.way.below c.opponent-met.ensures.below c.requires.s c.opponent-met.ensures.meets;
      met_t = c.opponent-next.ensures.meets;
      to_t = meets_back r met to c.args.t.0 c.n-most.ensures.round c.opponent-met.ensures.below c.opponent-next.ensures.below c.requires.t c.opponent-next.ensures.meets;
    } in
    let walk : IsTeamWalk r.n (round_counts r) c.args.team.0 c.args.s.0 c.args.t.0 (set (set c.walk.marks at true) met true) to =
    IsTeamWalk-more r.n (round_counts r) c.args.team.0 c.args.s.0 c.args.t.0 c.walk.marks at met to c.walk.invariant.0 step most unmarked in
    let within : at < length c.walk.marks = omega (arith, c.walk.invariant.0.way.below, most) in
    let within_met : met < length (set c.walk.marks at true) = omega (arith, c.opponent-met.ensures.below, most, length-set c.walk.marks at true) in
    omega (
      arith,
      count-mark c.walk.marks at within unmarked,
      count-more (set c.walk.marks at true) met within_met,
      marked-le (set (set c.walk.marks at true) met true) r.n walk.way.marked,
      c.n-most.ensures.teams.at_most,
    )

pub returns-clause-linked : goal.returns-clause-linked
returns-clause-linked c =
    let marked : is_marked c.walk.marks c.walk.next.0 ≡ true = grind arith in
    team_walk_end c.args.board.now.n (round_counts c.args.board.now) c.args.team.0 c.args.s.0 c.args.t.0 c.walk.marks c.walk.next.0 c.walk.invariant.0 marked c.requires.team

pub returns-clause-closed : goal.returns-clause-closed
returns-clause-closed c =
    let marked : is_marked c.walk.marks c.walk.next.0 ≡ true = grind arith in
    team_walk_closed c.args.board.now.n (round_counts c.args.board.now) c.args.team.0 c.args.s.0 c.args.t.0 c.walk.marks c.walk.next.0 c.walk.invariant.0 marked

pub returns-clause-start : goal.returns-clause-start
returns-clause-start c =
    let marked : is_marked c.walk.marks c.walk.next.0 ≡ true = grind arith in
    team_start c.args.board.now.n (round_counts c.args.board.now) c.args.team.0 c.args.s.0 c.args.t.0 c.walk.marks c.walk.next.0 c.walk.invariant.0 marked
