use Rattle.std.proofs.Common.{List, length, subst, ◌<◌, ◌^◌}
use Rattle.rows.specs.Rows.{Row}
use Rattle.encoding.specs.Encoding.{rows_of}
use Rattle.venue_counts.proofs.CountedLemmas.{counted-few}
use Rattle.venue_counts.proofs.LogLemmas.{adds-up-as, names-rows, short-lines}
use Rattle.venue_counts.proofs.log.log_of.Goals as goal

pub returns-clause-named : goal.returns-clause-named
returns-clause-named c =
    names-rows (rows_of c.args.encoding.now) _ c.in_ok-log.log
    (adds-up-as (rows_of c.args.encoding.now) c.rows.result.now _ _ _ c.in_ok-log.log c.rows.ensures
    c.deref.ensures.value
    c.in_ok-add_teams.ensures.named c.in_ok-log.ensures.steps)

pub returns-clause-short : goal.returns-clause-short
returns-clause-short c =
    short-lines (rows_of c.args.encoding.now) _ c.in_ok-log.log
    (adds-up-as (rows_of c.args.encoding.now) c.rows.result.now _ _ _ c.in_ok-log.log c.rows.ensures
    c.deref.ensures.value
    c.in_ok-add_teams.ensures.named c.in_ok-log.ensures.steps)
    (subst (λ (rs : List Row). length rs < 2 ^ 32) c.rows.ensures c.in_ok-log.ensures.few)
    (counted-few c.args.encoding.now.n _ c.args.group.now.slots.now _
    c.in_ok-add_teams.ensures.instance.teams.at_most c.requires.season)
