use Rattle.std.proofs.Common.{map, string_bytes, ap, ◌∙◌}
use Rattle.std.proofs.lemmas.List.{map_push}
use Rattle.robinx.specs.Names.{shown}
use Rattle.robinx.proofs.LabelLemmas.{part_more, shown_from}
use Rattle.robinx.proofs.labels.all_shown.Goals as goal

pub loop-team-preserved : goal.loop-team-preserved
loop-team-preserved c =
    let teams = c.args.teams.now in
    let team = c.loop-team.team in
    let text = c.in_ok-shown.field-0 in
    ap (map string_bytes) c.in_ok-push.ensures.items
    ∙ map_push string_bytes c.loop-team.texts.items text
    ∙ part_more (shown (map string_bytes teams)) team (map string_bytes c.loop-team.texts.items) (string_bytes text) c.loop-team.invariant
    (shown_from string_bytes teams team c.index-teams-team.result c.deref.result.now (string_bytes text) c.loop-team-test.true c.index-teams-team.is c.deref.ensures c.in_ok-shown.ensures)
