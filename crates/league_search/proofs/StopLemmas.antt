-- What is found of patterns within the limit to which a search kept.
use Rattle.std.proofs.Common.{ℕ, List, Option, Result, Ok, Err, subst}
use Rattle.std.specs.Prelude.{IfOk}
use Rattle.league.specs.Instance.{Instance}
use Rattle.rows.specs.Rows.{Row}
use Rattle.robin_watch.proofs.LimitLemmas.{kept-unstopped}
use Rattle.clause_search.specs.Answers.{IsAnswer, IsAnswerBy}
use Rattle.clause_search.specs.declared.found.Found.{Found}
use Rattle.league_search.specs.PatternAnswers.{IsPatternAnswer, IsPatternAnswerBy}
use Rattle.league_search.specs.declared.found.PatternFound.{PatternFound}

with-kept : {E : Type 0} (league : Instance) (rows : List Row) (vars : ℕ) (limit : Option ℕ) (may_stop : Type 0)
    (found : Found) (result : Result PatternFound E) → (is : IsAnswerBy rows vars limit may_stop found)
    → IfOk result (IsPatternAnswer league is.kept) → IfOk result (IsPatternAnswerBy league limit may_stop)
with-kept {E} league rows vars limit may_stop found (Ok patterns) is answer =
    record { kept = is.kept; is_kept = is.is_kept; answer = answer }
with-kept {E} league rows vars limit may_stop found (Err error) is answer = tt

-- what holds within the limit to which the search over the picked rows kept
pub answered-by : {E : Type 0} (league : Instance) (rows : List Row) (vars : ℕ) (limit : Option ℕ)
    (may_stop : Type 0) (found : Found) (result : Result PatternFound E)
    → IsAnswerBy rows vars limit may_stop found
    → ((kept : Option ℕ) → IsAnswer rows vars kept found → IfOk result (IsPatternAnswer league kept))
    → IfOk result (IsPatternAnswerBy league limit may_stop)
answered-by {E} league rows vars limit may_stop found result is each =
    with-kept league rows vars limit may_stop found result is (each is.kept is.answer)

-- a search that nothing may stop keeps to the limit that was set
pub unstopped : {E : Type 0} (league : Instance) (limit : Option ℕ) (may_stop : Type 0)
    (result : Result PatternFound E) → (may_stop → ⊥) → IfOk result (IsPatternAnswerBy league limit may_stop)
    → IfOk result (IsPatternAnswer league limit)
unstopped {E} league limit may_stop (Ok found) never is =
    subst (λ (l : Option ℕ). IsPatternAnswer league l found)
    (kept-unstopped limit may_stop is.kept never is.is_kept) is.answer
unstopped {E} league limit may_stop (Err error) never is = tt
