use Rattle.std.proofs.Common.{◌≡◌, Ok, ap, rules}
use Rattle.refutation.specs.declared.verdict.Verdict.TheVariants.{Accepted}
use Rattle.floors.proofs.CheckLemmas.{floor-found}
use Rattle.floors.proofs.floor.floor_over.Goals as goal

pub returns-then-has_short_lines : goal.returns-then-has_short_lines
returns-then-has_short_lines c =
    let accepted : c.in_ok-verdict.verdict ≡ Accepted = search rules in
    floor-found c.args.league.now c.args.bound c.args.system.now c.in_ok-verdict.verdict c.in_ok-log.log
    c.requires.some c.requires.system c.in_ok-verdict.ensures.verdict accepted
    (c.in_ok-verdict.ensures.least (ap Ok accepted)) (c.names_rows.ensures.0 c.if-names_rows.true)
    (c.has_short_lines.ensures c.if-has_short_lines.true)
