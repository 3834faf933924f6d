use Rattle.std.proofs.Common.{◌≡◌, ◌<◌, length, map, string_bytes, sym, ap, ◌∙◌, arith}
use Rattle.std.proofs.lemmas.List.{length-map, map_push}
use Rattle.std.proofs.lemmas.List.FromFn.{length-map-range_with_len}
use Rattle.league.specs.Counts.{teams_of}
use Rattle.robinx.specs.Names.{label_among, shown}
use Rattle.robinx.proofs.LabelLemmas.{part_more, label_from}
use Rattle.robinx.proofs.labels.labels.Goals as goal

pub loop-team-preserved : goal.loop-team-preserved
loop-team-preserved c =
    let teams = map string_bytes c.args.teams.now in
    let texts = c.in_ok-texts.texts.items in
    let team = c.loop-team.team in
    let text = c.in_ok-labelled.field-0 in
    let within : team < length texts = omega (arith, ap length c.deref.ensures.value, c.deref.ensures.len) in
    ap (map string_bytes) c.in_ok-push.ensures.items
    ∙ map_push string_bytes c.loop-team.labels.items text
    ∙ part_more (label_among teams) team (map string_bytes c.loop-team.labels.items) (string_bytes text) c.loop-team.invariant
    (label_from string_bytes teams texts c.deref.result.now team c.index.result.now c.are_distinct-distinct.result c.deref-in-loop-team.result.now (string_bytes text)
    c.in_ok-texts.ensures c.deref.ensures.value c.are_distinct-distinct.ensures within c.index.ensures c.deref-in-loop-team.ensures c.in_ok-labelled.ensures)

pub returns : goal.returns
returns c =
    let teams = map string_bytes c.args.teams.now in
    let as_many = sym (length-map c.in_ok-texts.texts.items string_bytes) ∙ ap length c.in_ok-texts.ensures ∙ length-map-range_with_len (shown teams) 0 (length teams) ∙ length-map c.args.teams.now string_bytes in
    let all : c.loop-team.team ≡ length c.args.teams.now = omega (arith, as_many, ap length c.deref.ensures.value, c.deref.ensures.len) in
    c.loop-team.invariant ∙ ap (λ n. map (label_among teams) (teams_of n)) all
