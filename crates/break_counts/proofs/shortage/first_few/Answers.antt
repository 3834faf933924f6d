use Rattle.std.proofs.Common.{◌≡◌, ◌-◌, ◌*◌, ℕ, arith, ap, length}
use Rattle.break_counts.proofs.TableLemmas.{few-at, none-few}
use Rattle.break_counts.proofs.shortage.first_few.Goals as goal

pub returns-then-allowed_with-needed : goal.returns-then-allowed_with-needed
returns-then-allowed_with-needed c =
    let needed : c.from.result ≡ c.args.league.now.n - 2 = omega (arith, c.from.ensures, c.n-n.ensures.n) in
    few-at c.args.league.now.n c.args.league.now.constraints c.constraints-constraints.result.now
    c.args.stretches.now c.loop-constraint.constraint-index c.allowed_with.result c.constraint-item.result
    c.constraints-constraints.ensures c.loop-constraint-test.true c.constraint-item.is c.if-constraint.true
    c.allowed_with.ensures
    (omega (
      arith,
      c.if-allowed_with-needed.true,
      ap (λ (k : ℕ). length c.args.stretches.now * k) needed,
    ))

pub returns : goal.returns
returns c =
    none-few c.args.league.now.n c.args.league.now.constraints c.constraints-constraints.result.now
    c.args.stretches.now c.loop-constraint.constraint-index c.constraints-constraints.ensures c.loop-constraint-test.false
    c.loop-constraint.invariant
