use Rattle.std.proofs.Common.{◌+◌, ◌<◌, ◌≤◌, List, ℕ, arith, get_or, subst, sym}
use Rattle.break_counts.proofs.TableLemmas.{sums-small}
use Rattle.break_counts.proofs.allowed.allowed_of.Goals as goal

pub lower_to_sums-requires-clause-small : goal.lower_to_sums-requires-clause-small
lower_to_sums-requires-clause-small c i below =
    let league = c.args.league.now in
    let small : (j : ℕ) → j < league.n → get_or c.in_ok-home.home.items j 0 + get_or c.in_ok-away.away.items j 0 ≤ 4 =
    sums-small league.n league.constraints c.args.stretches.now c.in_ok-home.home.items c.in_ok-away.away.items
    c.in_ok-home.ensures c.in_ok-away.ensures c.requires.few in
    let within : i < league.n = omega (arith, below, c.deref_mut.ensures.len, c.in_ok-both.ensures.count) in
    subst (λ (xs : List ℕ). get_or xs i 0 + get_or c.deref-2.result.now i 0 ≤ 4) (sym c.deref.ensures.value)
    (subst (λ (xs : List ℕ). get_or c.in_ok-home.home.items i 0 + get_or xs i 0 ≤ 4) (sym c.deref-2.ensures.value)
    (small i within))
