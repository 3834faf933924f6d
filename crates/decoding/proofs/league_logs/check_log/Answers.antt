use Rattle.std.proofs.Common.{List, sym, subst}
use Rattle.league.specs.Counts.{counts_of}
use Rattle.rows.specs.Rows.{Row, SatisfiesAll}
use Rattle.decoding.proofs.Faithful.{shadow-from_accepted}
use Rattle.decoding.proofs.league_logs.check_log.Goals as goal

pub returns-clause-none : goal.returns-clause-none
returns-clause-none c =
    λ accepted games good.
    let found = shadow-from_accepted c.args.encoding.now (counts_of games) c.vars.ensures.instance good in
    c.check.ensures.refuted accepted found.0
    (subst (λ (rows : List Row). SatisfiesAll found.0 rows) (sym c.rows.ensures) found.2)
