use Rattle.std.proofs.Common.{ℕ, ◌-◌, ◌*◌, ◌/◌, List, length, ap}
use Rattle.encoding.proofs.PairLemmas.{length-pairs_of}
use Rattle.encoding.proofs.sets.pair_total.Goals as goal

pub returns-clause-count : goal.returns-clause-count
returns-clause-count c =
    let halved : List ℕ → ℕ = λ ts. length ts * (length ts - 1) / 2 in
    let counted = ap halved c.team_numbers.ensures.numbers in
    cc (length-pairs_of c.args.teams.now, counted)
