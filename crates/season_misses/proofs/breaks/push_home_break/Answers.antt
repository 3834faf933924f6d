use Rattle.std.proofs.Common.{ap, sym, ◌∙◌}
use Rattle.league.specs.Breaks.{is_home_break}
use Rattle.league.specs.Counts.{Counts}
use Rattle.season_misses.proofs.ListLemmas.{added-none, added-one}
use Rattle.season_misses.proofs.breaks.push_home_break.Goals as goal

pub returns-in_ok-push : goal.returns-in_ok-push
returns-in_ok-push c =
    added-one c.args.found.now.items _ _ _ c.in_ok-break_of.field-0
    (ap (λ (m : Counts). is_home_break c.args.season.now.cells.now.n m c.args.team.0 c.args.slot.0) (sym c.requires.season.counted) ∙ sym c.is_home_break.ensures ∙ c.if-is_home_break.true)
    c.in_ok-break_of.ensures c.in_ok-push.ensures.items

pub returns-else-is_home_break : goal.returns-else-is_home_break
returns-else-is_home_break c =
    added-none c.args.found.now.items _ _
    (ap (λ (m : Counts). is_home_break c.args.season.now.cells.now.n m c.args.team.0 c.args.slot.0) (sym c.requires.season.counted) ∙ sym c.is_home_break.ensures ∙ c.if-is_home_break.false)
