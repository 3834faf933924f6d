use Rattle.std.proofs.Common.{ℕ, ◌+◌, ◌&&◌, ◌==◌, not, Bool, refl, arith}
use Rattle.league.specs.Capacity.{is_between}
use Rattle.league.proofs.RangeLemmas.{counted}
use Rattle.encoding.proofs.literal_counts.between_total_at.Goals as goal

pub loop-away-preserved : goal.loop-away-preserved
loop-away-preserved c =
    let away : ℕ = c.loop-away.away in
    let meets : ℕ × ℕ → Bool = is_between c.args.side c.args.teams1.now c.args.teams2.now in
    let counts : ℕ → Bool = λ j. not (j == c.args.home) && meets (c.args.home, j) in
    record {
      so_far = counted counts 0 away (away + 1) away c.loop-away.total c.one_between-total.result (omega arith) refl
          c.loop-away.invariant.so_far c.one_between-total.ensures.one;
      most = omega arith;
    }
