use Rattle.std.proofs.Common.{ℕ, arith}
use Rattle.std.proofs.lemmas.List.{length-replicate}
use Rattle.league.proofs.TableLemmas.{zero_at}
use Rattle.deviation.proofs.team_gaps.TeamGaps.none.Goals as goal

pub returns-clause-next : goal.returns-clause-next
returns-clause-next c j = zero_at 40 j

pub returns-clause-totals : goal.returns-clause-totals
returns-clause-totals c j = zero_at 40 j

pub returns-clause-kept : goal.returns-clause-kept
returns-clause-kept c = record {
  next = length-replicate {A = ℕ} 40 0;
  totals = length-replicate {A = ℕ} 40 0;
  before = λ j. omega (arith, zero_at 40 j);
  bounded = λ j. omega (arith, zero_at 40 j);
}
