use Rattle.std.proofs.Common.{ℕ, ◌+◌, ◌<◌, length, get_or, arith, replicate, ◌++◌, ap, ◌∙◌, Option}
use Rattle.std.proofs.lemmas.List.{get_or-set_same}
use Rattle.std.specs.Option.{option_to_list}
use Rattle.league.specs.Separation.{lacking}
use Rattle.deviation.proofs.TeamLemmas.{summed-played}
use Rattle.deviation.proofs.team_gaps.TeamGaps.add_games.Goals as goal

pub returns-clause-summed : goal.returns-clause-summed
returns-clause-summed c n m i inside counted so_far =
    let gaps = c.args.self.now in
    let o : ℕ = c.args.other.0 in
    let more : ℕ = c.lacking_at-lacking.result in
    let in_next : o < length gaps.next = omega (arith, c.requires.kept.next) in
    let in_totals : o < length gaps.totals = omega (arith, c.requires.kept.totals) in
    summed-played n m c.args.min i c.args.slot gaps _ o c.args.games more inside c.requires.some counted
    (c.lacking_at-lacking.ensures.lacking
    ∙ ap (λ (last : Option ℕ). lacking c.args.min (option_to_list last ++ replicate c.args.games c.args.slot))
    c.last_before-last.ensures)
    (get_or-set_same gaps.totals o (get_or gaps.totals o 0 + more) 0 in_totals)
    (get_or-set_same gaps.next o (c.args.slot + 1) 0 in_next)
    so_far
