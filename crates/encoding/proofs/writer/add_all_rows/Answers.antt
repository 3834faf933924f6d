use Rattle.std.proofs.Common.{◌∙◌}
use Rattle.std.proofs.lemmas.Result.{IfOk-weaker, on_ok_weaker}
use Rattle.encoding.proofs.EncodeLemmas.{made_rows}
use Rattle.encoding.proofs.StartLemmas.{made_starts}
use Rattle.encoding.proofs.writer.add_all_rows.Goals as goal

pub returns-clause-rows : goal.returns-clause-rows
returns-clause-rows c =
    let league = c.args.league.now in
    on_ok_weaker c.add_constraint_rows.result
    (λ is. made_rows league.n c.in_ok-season.season league.phased c.phased.result c.args.breaks league.constraints
    c.constraints.result.now c.args.draft.now.rows c.add_season_rows.new.draft.rows c.add_break_rows.new.draft.rows
    c.add_constraint_rows.new.draft.rows is c.in_ok-add_break_rows.ensures.rows c.in_ok-add_season_rows.ensures.rows
    c.requires (c.in_ok-season.ensures ∙ c.n.ensures.n) c.phased.ensures c.constraints.ensures)
    c.add_constraint_rows.ensures.rows

pub returns-clause-starts : goal.returns-clause-starts
returns-clause-starts c =
    let league = c.args.league.now in
    IfOk-weaker c.add_constraint_rows.result _ _
    (λ starts are. made_starts league.n c.in_ok-season.season league.phased c.phased.result c.args.breaks
    league.constraints c.constraints.result.now c.args.draft.now.rows c.add_season_rows.new.draft.rows
    c.add_break_rows.new.draft.rows starts.items are c.in_ok-add_break_rows.ensures.rows
    c.in_ok-add_season_rows.ensures.rows c.requires (c.in_ok-season.ensures ∙ c.n.ensures.n) c.phased.ensures
    c.constraints.ensures)
    c.add_constraint_rows.ensures.starts
