use Rattle.std.proofs.Common.{ℕ, not, length, map, arith, ap, ◌∙◌}
use Rattle.std.proofs.lemmas.Option.{slice_get_within}
use Rattle.league.specs.Instance.{are_slots}
use Rattle.encoding.specs.Encoding.{rows_of}
use Rattle.encoding.specs.RowRanges.{rows_of_constraint}
use Rattle.encoding.specs.Variables.{h_var}
use Rattle.rows.specs.Cardinality.{at_least}
use Rattle.rows.specs.Sums.{literal}
use Rattle.venue_counts.specs.CountLogs.{team_row}
use Rattle.venue_counts.specs.Needs.{counts_home, need_of}
use Rattle.venue_counts.proofs.LogLemmas.{need-made, team-there, team_row-as}
use Rattle.venue_counts.proofs.NumberedLemmas.{numbered-as, there-as}
use Rattle.venue_counts.proofs.numbers.team_number.Goals as goal

pub venue_literals-requires-clause-slots : goal.venue_literals-requires-clause-slots
venue_literals-requires-clause-slots c =
    ap (λ (n : ℕ). are_slots n c.args.group.now.slots.now) c.n.ensures.n ∙ c.requires.group.season

pub rows_of_constraint-places-requires : goal.rows_of_constraint-places-requires
rows_of_constraint-places-requires c =
    let by = need-made c.args.limit c.args.encoding.now c.args.group.now c.requires.group c.args.team
    c.from-place.result c.index-cause.result.now c.requires.team c.from-place.ensures c.index-cause.ensures
    c.requires.some in
    slice_get_within c.args.encoding.now.constraints c.index-cause.result.now by.constraint by.there

pub number_of-requires-clause-within : goal.number_of-requires-clause-within
number_of-requires-clause-within c =
    omega (arith, c.rows_of_constraint-places.ensures.within, ap length c.rows.ensures)

pub number_of-requires-clause-there : goal.number_of-requires-clause-there
number_of-requires-clause-there c =
    let league = c.args.encoding.now in
    let group = c.args.group.now in
    there-as (rows_of league) c.rows.result.now (rows_of_constraint league c.index-cause.result.now)
    c.rows_of_constraint-places.result.start c.rows_of_constraint-places.result.end
    (team_row league.n (counts_home c.args.limit group.side) group.slots.now
    (need_of c.args.limit league.constraints group.side group.slots.now) c.args.team)
    (at_least c.from.result c.deref.result.now) c.rows.ensures c.rows_of_constraint-places.ensures.rows
    (team_row-as c.args.limit league group c.requires.group c.args.team c.from-place.result c.index-need.result.now
    c.from.result c.counts_home-home.result c.in_ok-literals.literals.items c.deref.result.now c.requires.team
    c.from-place.ensures c.index-need.ensures c.from.ensures c.counts_home-home.ensures c.deref.ensures.value
    (c.in_ok-literals.ensures ∙ ap (λ (n : ℕ).
    map (λ s. literal (h_var n c.args.team s) (not c.counts_home-home.result)) group.slots.now) c.n.ensures.n))
    (team-there c.args.limit league group c.requires.group c.args.team c.from-place.result c.index-cause.result.now
    c.requires.team c.from-place.ensures c.index-cause.ensures c.requires.some)

pub returns : goal.returns
returns c =
    let league = c.args.encoding.now in
    let group = c.args.group.now in
    numbered-as (rows_of league) c.rows.result.now
    (team_row league.n (counts_home c.args.limit group.side) group.slots.now
    (need_of c.args.limit league.constraints group.side group.slots.now) c.args.team)
    (at_least c.from.result c.deref.result.now) c.number_of.result c.rows.ensures
    (team_row-as c.args.limit league group c.requires.group c.args.team c.from-place.result c.index-need.result.now
    c.from.result c.counts_home-home.result c.in_ok-literals.literals.items c.deref.result.now c.requires.team
    c.from-place.ensures c.index-need.ensures c.from.ensures c.counts_home-home.ensures c.deref.ensures.value
    (c.in_ok-literals.ensures ∙ ap (λ (n : ℕ).
    map (λ s. literal (h_var n c.args.team s) (not c.counts_home-home.result)) group.slots.now) c.n.ensures.n))
    c.number_of.ensures
