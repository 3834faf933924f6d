-- What is found of a league, or where that is spent, a log that refutes it.
use Rattle.std.proofs.Common.{◌≡◌, ℕ, List, Option, None, Some, inl, inr, subst, sym}
use Rattle.std.specs.Prelude.{IfSome}
use Rattle.robin_watch.specs.declared.budgets.Budgets.{Budgets}
use Rattle.league.specs.Instance.{Instance, IsInstance}
use Rattle.encoding.specs.Encoding.{rows_of}
use Rattle.encoding.specs.Variables.{var_count}
use Rattle.refutation.specs.Steps.{Step}
use Rattle.decoding.proofs.SeasonLemmas.{accepted_logs_exclude}
use Rattle.planes.specs.Refuted.{IsRefutation}
use Rattle.solve.specs.Earliest.{IsBest}
use Rattle.solve.specs.Solutions.{CostsAtMost, HasSchedule, IsFoundOrRefuted, IsSolutionBy, IsWritable, RefutesLeague}
use Rattle.solve.specs.declared.solved.Solved.{Solved}
use Rattle.solve.specs.declared.solved.Solved.TheVariants as answers

-- it keeps to the same budgets
pub solution-either : (league : Instance) (budgets : Budgets) (may_stop : Type 0) (found answer : Solved)
    → IsSolutionBy league budgets may_stop found → IsFoundOrRefuted league found answer
    → IsSolutionBy league budgets may_stop answer
solution-either league budgets may_stop found answer is (inl same) =
    subst (λ (a : Solved). IsSolutionBy league budgets may_stop a) (sym same) is
solution-either league budgets may_stop found (answers.Schedule games objective descent) is (inr both) = absurd both.1
solution-either league budgets may_stop found (answers.Refuted log) is (inr both) =
    record { kept = is.kept; are_kept = is.are_kept; solution = both.1 }
solution-either league budgets may_stop found (answers.Spent log patterns) is (inr both) = absurd both.1

-- the tries find no schedule where they are spent
pub best-either : (league : Instance) (budgets : Budgets) (may_stop : Type 0) (found answer : Solved)
    → IsBest league budgets may_stop found → IsFoundOrRefuted league found answer → IsBest league budgets may_stop answer
best-either league budgets may_stop found answer is (inl same) =
    subst (λ (a : Solved). IsBest league budgets may_stop a) (sym same) is
best-either league budgets may_stop (answers.Schedule games objective descent) answer is (inr both) = absurd both.0
best-either league budgets may_stop (answers.Refuted first) answer is (inr both) = absurd both.0
best-either league budgets may_stop (answers.Spent spent known) (answers.Schedule games objective descent) is (inr both) =
    absurd both.1
best-either league budgets may_stop (answers.Spent spent known) (answers.Refuted log) is (inr both) = record {
  first = is.first;
  is_solution = is.is_solution;
  tries = record {
    later = is.tries.later;
    each = is.tries.each;
    few = is.tries.few;
    all = λ goes_on unstopped. absurd (goes_on tt);
    best = is.tries.best;
  };
}
best-either league budgets may_stop (answers.Spent spent known) (answers.Spent log patterns) is (inr both) =
    absurd both.1

-- a schedule that is found stays
pub schedule-either : (league : Instance) (found answer : Solved) → HasSchedule found
    → IsFoundOrRefuted league found answer → HasSchedule answer
schedule-either league found answer is (inl same) = subst (λ (a : Solved). HasSchedule a) (sym same) is
schedule-either league (answers.Schedule games objective descent) answer is (inr both) = absurd both.0
schedule-either league (answers.Refuted log) answer is (inr both) = absurd is
schedule-either league (answers.Spent log patterns) answer is (inr both) = absurd is

pub at_most-either : (league : Instance) (most : ℕ) (found answer : Solved) → CostsAtMost most found
    → IsFoundOrRefuted league found answer → CostsAtMost most answer
at_most-either league most found answer is (inl same) = subst (λ (a : Solved). CostsAtMost most a) (sym same) is
at_most-either league most (answers.Schedule games objective descent) answer is (inr both) = absurd both.0
at_most-either league most (answers.Refuted log) answer is (inr both) = absurd is
at_most-either league most (answers.Spent log patterns) answer is (inr both) = absurd is

-- a log over the rows of the league's encoding, which can be written, refutes the league
pub found_refutes : (league encoded : Instance) (found : Option (List Step)) → encoded ≡ league → IsInstance encoded
    → IfSome found (IsRefutation (rows_of encoded) (var_count encoded)) → IfSome found IsWritable
    → IfSome found (RefutesLeague league)
found_refutes league encoded None same instance refuted writable = tt
found_refutes league encoded (Some log) same instance refuted writable =
    subst (λ (l : Instance). RefutesLeague l log) same (record {
      accepted = refuted.accepted;
      none = accepted_logs_exclude encoded log instance refuted.accepted;
      writable = writable;
    })
