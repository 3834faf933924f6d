use Rattle.std.proofs.Common.{◌∙◌}
use Rattle.league_search.proofs.BalanceLemmas.{changes-more}
use Rattle.league_search.proofs.break_rows.changes_at.Goals as goal

pub loop-team-preserved : goal.loop-team-preserved
loop-team-preserved c =
    c.in_ok-push.ensures.items
    ∙ changes-more c.loop-team.team c.args.slot c.args.home c.loop-team.changes.items c.loop-team.invariant
