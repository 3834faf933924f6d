use Rattle.std.proofs.Common.{◌≡◌, ◌-◌, ◌*◌, ◌<◌, ℕ, arith, ap, length}
use Rattle.std.proofs.lemmas.Bool.Decides.{nat_tests}
use Rattle.break_counts.proofs.TogetherLemmas.{few-together}
use Rattle.break_counts.proofs.sums.allow_few.Goals as goal

pub returns : goal.returns
returns c = λ holds.
    let n : ℕ = c.args.league.now.n in
    let needed : c.from.result ≡ n - 2 = omega (arith, c.from.ensures, c.n.ensures.n) in
    let below : c.allowed_together.result < length c.args.stretches.now * c.from.result =
    grind (arith, nat_tests, holds) in
    few-together n c.args.league.now.constraints c.args.summands.now c.args.stretches.now c.allowed_together.result
    c.allowed_together.ensures
    (omega (arith, below, ap (λ (k : ℕ). length c.args.stretches.now * k) needed))
    c.requires.few (omega arith)
