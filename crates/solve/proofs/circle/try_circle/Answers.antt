use Rattle.std.proofs.Common.{ℕ, not, ap, subst}
use Rattle.std.specs.List.{All}
use Rattle.std.proofs.lemmas.List.Sorted.{All-permutation}
use Rattle.league.specs.Instance.{IsGame}
use Rattle.solve.proofs.AnswerLemmas.{circle_accepted, not_passed, passed}
use Rattle.solve.proofs.CircleLemmas.{double_few}
use Rattle.solve.proofs.circle.try_circle.Goals as goal

pub tell_accepted-requires-clause-few : goal.tell_accepted-requires-clause-few
tell_accepted-requires-clause-few g c =
    double_few c.args.league.now.n c.n.result c.in_ok-schedule.schedule c.put_in_order.new.self c.n.ensures.n
    c.n.ensures.instance.teams.at_most c.in_ok-schedule.ensures.count c.put_in_order.ensures.permutation

pub tell_accepted-requires-clause-fit : goal.tell_accepted-requires-clause-fit
tell_accepted-requires-clause-fit g c =
    All-permutation (IsGame c.args.league.now.n) c.in_ok-schedule.schedule c.put_in_order.new.self
    c.put_in_order.ensures.permutation
    (subst (λ (k : ℕ). All (IsGame k) c.in_ok-schedule.schedule) c.n.ensures.n c.in_ok-schedule.ensures.fit)

pub returns-then-not-accepted-clause-refused : goal.returns-then-not-accepted-clause-refused
returns-then-not-accepted-clause-refused g c is accepted =
    not_passed c.in_ok-accepted.accepted (ap not c.if-not-accepted.true)
    (c.in_ok-accepted.ensures.1
    (circle_accepted c.args.league.now c.n.result c.in_ok-schedule.schedule c.put_in_order.new.self
    c.in_ok-schedule.ensures.games c.n.ensures.n c.put_in_order.ensures.permutation accepted))

pub lowered_told-requires-clause-accepted : goal.lowered_told-requires-clause-accepted
lowered_told-requires-clause-accepted g c =
    c.in_ok-accepted.ensures.0 (passed c.in_ok-accepted.accepted (ap not c.if-not-accepted.false))

pub lowered_told-requires-clause-few : goal.lowered_told-requires-clause-few
lowered_told-requires-clause-few g c =
    double_few c.args.league.now.n c.n.result c.in_ok-schedule.schedule c.put_in_order.new.self c.n.ensures.n
    c.n.ensures.instance.teams.at_most c.in_ok-schedule.ensures.count c.put_in_order.ensures.permutation

pub lowered_told-requires-clause-fit : goal.lowered_told-requires-clause-fit
lowered_told-requires-clause-fit g c =
    All-permutation (IsGame c.args.league.now.n) c.in_ok-schedule.schedule c.put_in_order.new.self
    c.put_in_order.ensures.permutation
    (subst (λ (k : ℕ). All (IsGame k) c.in_ok-schedule.schedule) c.n.ensures.n c.in_ok-schedule.ensures.fit)
