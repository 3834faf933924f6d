use Rattle.std.proofs.Common.{◌≡◌, ℕ, Bool, true, false, ◌==◌, not, ap, arith, get_or, map, refl, ◌∙◌}
use Rattle.std.proofs.lemmas.Bool.Decides.{nat_tests}
use Rattle.std.specs.List.{filter}
use Rattle.encoding.proofs.GrownLemmas.{grown_by_all, grown_by_passing, same_by_failing}
use Rattle.encoding.proofs.meetings.add_away_meetings.Goals as goal
use Rattle.encoding.proofs.meetings.add_away_meetings.Goals.{then-other-team+in_ok-push, else-other-team}

pub loop-other-preserved : goal.loop-other-preserved
loop-other-preserved c =
    let team = c.args.team in
    let teams = c.args.teams.now in
    let k = c.loop-other.other-index in
    let other : ℕ = get_or teams k 0 in
    let meeting : ℕ → ℕ × ℕ = λ j. (j, team) in
    let test : ℕ → Bool = λ j. not (j == team) in
    elim c.if-other-team.branch [
      | then-other-team+in_ok-push w ↦
          let passes : test other ≡ true = grind (arith, nat_tests, w.if-other-team.true) in
          grown_by_passing test teams k 0 c.loop-other-test.true meeting c.args.meetings.now.items
          c.loop-other.meetings.items c.if-other-team.meetings.items (meeting other) c.loop-other.invariant
          (ap (λ v. v.items) w.meetings-is ∙ w.in_ok-push.ensures.items) refl passes
      | else-other-team w ↦
          let fails : test other ≡ false = grind (arith, nat_tests, w.if-other-team.false) in
          same_by_failing test teams k 0 c.loop-other-test.true meeting c.args.meetings.now.items
          c.loop-other.meetings.items c.if-other-team.meetings.items c.loop-other.invariant
          (ap (λ v. v.items) w.meetings-is) fails
    ]

pub returns : goal.returns
returns c =
    let team = c.args.team in
    let meeting : ℕ → ℕ × ℕ = λ j. (j, team) in
    grown_by_all (λ teams. map meeting (filter (λ j. not (j == team)) teams)) c.args.meetings.now.items
    c.loop-other.meetings.items c.args.teams.now c.loop-other.other-index (omega arith) c.loop-other.invariant
