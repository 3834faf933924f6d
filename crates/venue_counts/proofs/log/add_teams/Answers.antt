use Rattle.std.proofs.Common.{ap, arith, ◌∙◌}
use Rattle.venue_counts.proofs.LogLemmas.{need-some, team-named, team-passed}
use Rattle.venue_counts.proofs.log.add_teams.Goals as goal
use Rattle.venue_counts.proofs.log.add_teams.Goals.{then-need-gt0+in_ok-row+in_ok-push, else-need-gt0}

pub team_number-requires-clause-some : goal.team_number-requires-clause-some
team_number-requires-clause-some c =
    need-some c.args.limit c.args.encoding.now c.args.group.now c.requires.group c.loop-team.team c.from.result
    c.index-need.result.now (omega (arith, c.loop-team-test.true, c.n-team-end.ensures.n)) c.from.ensures
    c.index-need.ensures c.if-need-gt0.true

pub loop-team-preserved : goal.loop-team-preserved
loop-team-preserved c =
    elim c.if-need-gt0.branch [
      | then-need-gt0+in_ok-row+in_ok-push w ↦
          team-named c.args.limit c.args.encoding.now c.args.group.now c.requires.group c.loop-team.parts.items
          c.if-need-gt0.parts.items c.loop-team.team c.from.result c.index-need.result.now w.in_ok-row.row
          (omega (arith, c.loop-team-test.true, c.n-team-end.ensures.n)) c.from.ensures c.index-need.ensures
          w.if-need-gt0.true w.in_ok-row.ensures
          (ap (λ v. v.items) w.parts-is ∙ w.in_ok-push.ensures.items) c.loop-team.invariant
      | else-need-gt0 w ↦
          team-passed c.args.limit c.args.encoding.now c.args.group.now c.requires.group c.loop-team.parts.items
          c.if-need-gt0.parts.items c.loop-team.team c.from.result c.index-need.result.now
          (omega (arith, c.loop-team-test.true, c.n-team-end.ensures.n)) c.from.ensures c.index-need.ensures
          w.if-need-gt0.false (ap (λ v. v.items) w.parts-is) c.loop-team.invariant
    ]
