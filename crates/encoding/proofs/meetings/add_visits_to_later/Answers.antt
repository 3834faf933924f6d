use Rattle.std.proofs.Common.{ℕ, Bool, nat_lt, ap, arith, get_or, map, refl, ◌∙◌}
use Rattle.std.proofs.lemmas.Bool.{le-ltb, lt-ltb}
use Rattle.std.specs.List.{filter}
use Rattle.encoding.proofs.GrownLemmas.{grown_by_all, grown_by_passing, same_by_failing}
use Rattle.encoding.proofs.meetings.add_visits_to_later.Goals as goal
use Rattle.encoding.proofs.meetings.add_visits_to_later.Goals.{then-team-other+in_ok-push, else-team-other}

pub loop-other-preserved : goal.loop-other-preserved
loop-other-preserved c =
    let team = c.args.team in
    let teams = c.args.teams.now in
    let k = c.loop-other.other-index in
    let other : ℕ = get_or teams k 0 in
    let meeting : ℕ → ℕ × ℕ = λ j. (j, team) in
    let test : ℕ → Bool = λ j. nat_lt team j in
    elim c.if-team-other.branch [
      | then-team-other+in_ok-push w ↦
          grown_by_passing test teams k 0 c.loop-other-test.true meeting c.args.meetings.now.items
          c.loop-other.meetings.items c.if-team-other.meetings.items (meeting other) c.loop-other.invariant
          (ap (λ v. v.items) w.meetings-is ∙ w.in_ok-push.ensures.items) refl
          (lt-ltb team other w.if-team-other.true)
      | else-team-other w ↦
          same_by_failing test teams k 0 c.loop-other-test.true meeting c.args.meetings.now.items
          c.loop-other.meetings.items c.if-team-other.meetings.items c.loop-other.invariant
          (ap (λ v. v.items) w.meetings-is) (le-ltb team other w.if-team-other.false)
    ]

pub returns : goal.returns
returns c =
    let team = c.args.team in
    let meeting : ℕ → ℕ × ℕ = λ j. (j, team) in
    grown_by_all (λ teams. map meeting (filter (λ j. nat_lt team j) teams)) c.args.meetings.now.items
    c.loop-other.meetings.items c.args.teams.now c.loop-other.other-index (omega arith) c.loop-other.invariant
