use Rattle.encoding.proofs.EncodeLemmas.{break_rows_made}
use Rattle.encoding.proofs.break_rows.add_rows_at.Goals as goal

pub returns-clause-rows : goal.returns-clause-rows
returns-clause-rows c =
    break_rows_made c.args.season.now c.n-n.result c.args.team c.args.slot c.h_at-before.result c.h_at-now.result
    c.hb_at-home.result c.ab_at-away.result
    c.args.draft.now.rows c.add_both.new.rows c.add_both-2.new.rows
    c.n-n.ensures.n c.h_at-before.ensures.var c.h_at-now.ensures.var c.hb_at-home.ensures.var c.ab_at-away.ensures.var
    c.in_ok-add_both.ensures.rows c.in_ok-add_both-2.ensures.rows
