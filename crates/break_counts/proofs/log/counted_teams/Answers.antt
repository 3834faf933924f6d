use Rattle.std.proofs.Common.{ℕ, ◌<◌, List, ap, arith, subst, sym, ◌∙◌}
use Rattle.std.specs.List.{All}
use Rattle.std.proofs.lemmas.List.Elements.{All-push}
use Rattle.break_counts.proofs.log.counted_teams.Goals as goal
use Rattle.break_counts.proofs.log.counted_teams.Goals.{then-has+in_ok-push, else-has+in_ok-add_single+else-branch}

pub add_single-requires : goal.add_single-requires
add_single-requires c k d within =
    omega (arith, (c.requires k d within).1, c.n-team-end.ensures.instance.teams.at_most)

pub loop-team-preserved : goal.loop-team-preserved
loop-team-preserved c =
    let n : ℕ = c.args.league.now.n in
    elim c.if-has.branch [
      | then-has+in_ok-push w ↦
          subst (λ (teams : List ℕ). All (λ i. i < n) teams)
          (sym (ap (λ v. v.items) w.teams-is ∙ w.in_ok-push.ensures.items))
          (All-push (λ (i : ℕ). i < n) c.loop-team.teams.items c.loop-team.team c.loop-team.invariant
          (omega (arith, c.loop-team-test.true, c.n-team-end.ensures.n)))
      | else-has+in_ok-add_single+else-branch w ↦
          subst (λ (teams : List ℕ). All (λ i. i < n) teams) (sym (ap (λ v. v.items) w.teams-is))
          c.loop-team.invariant
    ]
