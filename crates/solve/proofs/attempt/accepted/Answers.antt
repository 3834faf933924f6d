use Rattle.rows.specs.Values.{assigned}
use Rattle.decoding.proofs.GameLemmas.{accepted_few, accepted_fit}
use Rattle.solve.proofs.attempt.accepted.Goals as goal

pub tell_accepted-requires-clause-fit : goal.tell_accepted-requires-clause-fit
tell_accepted-requires-clause-fit g c =
    rw c.league-league.ensures
    (accepted_fit c.args.encoding.now.n (assigned c.args.values.now) c.in_ok-schedule.schedule
    c.in_ok-schedule.ensures.games)

pub tell_accepted-requires-clause-few : goal.tell_accepted-requires-clause-few
tell_accepted-requires-clause-few g c =
    accepted_few c.args.encoding.now.n (assigned c.args.values.now) c.in_ok-schedule.schedule
    c.in_ok-schedule.ensures.games c.in_ok-schedule.ensures.instance.teams.at_most
    (c.in_ok-schedule.ensures.accepted c.requires.satisfied).round_robin.pairs

pub lowered_told-requires-clause-accepted : goal.lowered_told-requires-clause-accepted
lowered_told-requires-clause-accepted g c =
    rw c.league-league.ensures (c.in_ok-schedule.ensures.accepted c.requires.satisfied)

pub lowered_told-requires-clause-fit : goal.lowered_told-requires-clause-fit
lowered_told-requires-clause-fit g c =
    rw c.league-league.ensures
    (accepted_fit c.args.encoding.now.n (assigned c.args.values.now) c.in_ok-schedule.schedule
    c.in_ok-schedule.ensures.games)

pub lowered_told-requires-clause-few : goal.lowered_told-requires-clause-few
lowered_told-requires-clause-few g c =
    accepted_few c.args.encoding.now.n (assigned c.args.values.now) c.in_ok-schedule.schedule
    c.in_ok-schedule.ensures.games c.in_ok-schedule.ensures.instance.teams.at_most
    (c.in_ok-schedule.ensures.accepted c.requires.satisfied).round_robin.pairs
