use Rattle.std.proofs.Common.{◌≡◌, ℕ, List, ◌++◌, ap, ◌∙◌}
use Rattle.std.specs.Prelude.{decimal}
use Rattle.std.proofs.lemmas.Result.{on_ok_weaker}
use Rattle.league.specs.Structure.{first_half}
use Rattle.rule_core.specs.Table.{table_counts}
use Rattle.command_show.specs.Widths.{at_right, line}
use Rattle.command_show.specs.Tallies.{away_run, breaks_in_all, home_among, home_run, second_half}
use Rattle.command_show.specs.Grid.{grid_name, head}
use Rattle.command_show.proofs.JoinedTexts.{added_five}
use Rattle.command_show.proofs.grid.push_tally.Goals as goal

pub returns : goal.returns
returns c =
    let i = c.args.team.0 in
    let n = c.args.season.now.cells.now.n in
    let m = table_counts c.args.season.now.cells.now in
    let front = head c.args.columns i (grid_name c.args.season.now.names.now i) in
    let fronted : c.push_head.new.text.items ≡ front = c.in_ok-push_head.ensures ∙ ap (λ (x : List ℕ). x ++ front) c.new-line.ensures.items in
    let whole =
    added_five front (at_right 9 (decimal (home_among n m i (first_half n)))) (at_right 10 (decimal (home_among n m i (second_half n))))
    (at_right 8 (decimal (breaks_in_all n m i))) (at_right 10 (decimal (home_run n m i))) (at_right 10 (decimal (away_run n m i)))
    c.push_number.new.text.items c.push_number-2.new.text.items c.push_number-3.new.text.items c.push_number-4.new.text.items c.push_number-5.new.text.items
    (c.in_ok-push_number.ensures
    ∙ ap (λ (x : List ℕ). x ++ at_right 9 (decimal c.home_first.result)) fronted
    ∙ ap (λ (k : ℕ). front ++ at_right 9 (decimal k)) c.home_first.ensures)
    (c.in_ok-push_number-2.ensures ∙ ap (λ (k : ℕ). c.push_number.new.text.items ++ at_right 10 (decimal k)) c.home_second.ensures)
    (c.in_ok-push_number-3.ensures ∙ ap (λ (k : ℕ). c.push_number-2.new.text.items ++ at_right 8 (decimal k)) c.breaks_in_all.ensures)
    (c.in_ok-push_number-4.ensures ∙ ap (λ (k : ℕ). c.push_number-3.new.text.items ++ at_right 10 (decimal k)) c.home_run.ensures)
    (c.in_ok-push_number-5.ensures ∙ ap (λ (k : ℕ). c.push_number-4.new.text.items ++ at_right 10 (decimal k)) c.away_run.ensures) in
    on_ok_weaker c.push_line.result
    (λ e. e ∙ ap (λ (x : List ℕ). c.args.text.now.items ++ line x) (c.deref.ensures.value ∙ whole))
    c.push_line.ensures
