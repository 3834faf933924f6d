-- What a search answers that nothing may stop, and one of which it is known beforehand at which turn it ends.
use Rattle.std.proofs.Common.{◌≡◌, ◌⊎◌, ◌^◌, ◌<◌, ◌≤◌, ℕ, Bool, true, false, List, [], length, Option, Some, None, Result, Ok, Err}
use Rattle.std.proofs.Common.{inl, inr, arith, ap, sym, subst}
use Rattle.std.specs.Prelude.{IfOk, IfSome}
use Rattle.rows.specs.Rows.{Row}
use Rattle.rows.specs.Partials.{IsQuiet}
use Rattle.rows.specs.declared.partial.Value.{Value}
use Rattle.propagate.specs.Trails.{SeenTrail}
use Rattle.refutation.specs.Steps.{Step}
use Rattle.robin_watch.specs.Limits.{EndsAt, lower_limit}
use Rattle.robin_watch.proofs.LimitLemmas.{IsPassed, kept-unstopped, passed-more, reached-lower}
use Rattle.clause_search.specs.Answers.{IsAnswer, IsAnswerBy, IsSpentAt}
use Rattle.clause_search.specs.Turns.{HasLearnt, IsDecided, IsLeft, Turned}
use Rattle.clause_search.specs.declared.found.Found.{Found}
use Rattle.clause_search.proofs.TurnLemmas.{IsUnder, answer_spent, learnt_length}

pub answer-unstopped : (rows : List Row) (vars : ℕ) (limit : Option ℕ) (may_stop : Type 0) (found : Found)
    → (may_stop → ⊥) → IsAnswerBy rows vars limit may_stop found → IsAnswer rows vars limit found
answer-unstopped rows vars limit may_stop found never is =
    subst (λ (l : Option ℕ). IsAnswer rows vars l found) (kept-unstopped limit may_stop is.kept never is.is_kept)
    is.answer

pub unstopped : {E : Type 0} (rows : List Row) (vars : ℕ) (limit : Option ℕ) (may_stop : Type 0)
    (result : Result Found E) → (may_stop → ⊥) → IfOk result (IsAnswerBy rows vars limit may_stop)
    → IfOk result (IsAnswer rows vars limit)
unstopped {E} rows vars limit may_stop (Ok found) never is =
    answer-unstopped rows vars limit may_stop found never is
unstopped {E} rows vars limit may_stop (Err error) never is = tt

-- ---- where it is known at which turn the watch ends a search

pub passed_start : (stops_at : ℕ → Option Bool) (steps : List Step) → steps ≡ [] → IsPassed stops_at (length steps)
passed_start stops_at steps none = λ n below stops. absurd (omega (arith, ap length none, below))

-- at a turn that learns a clause there was a conflict, and the watch went on
pub passed_learnt : {A : Type 0} (stops_at : ℕ → Option Bool) (found : Option A) (limit : Option ℕ) (t : Turned)
    (old new : SeenTrail) → HasLearnt t old new limit → (found ≡ None → t.more ≡ t.steps)
    → (stops_at (length t.steps) ≡ Some true → (found ≡ None) ⊎ (limit ≡ Some (length t.steps)))
    → IsPassed stops_at (length t.steps) → IsPassed stops_at (length t.more)
passed_learnt {A} stops_at found limit t old new learnt same ended passed =
    passed-more stops_at (length t.steps) (length t.more) (learnt_length t old new limit learnt) passed
    (λ stops. elim (ended stops) [
      | inl none ↦ omega (arith, learnt_length t old new limit learnt, ap length (same none))
      | inr reached ↦ let over : length t.steps < length t.steps
          = subst (λ (k : Option ℕ). IfSome k (λ most. length t.steps < most)) reached learnt.within in
          omega (arith, over)
    ])

pub passed_turned : {A : Type 0} (stops_at : ℕ → Option Bool) (found : Option A) (limit : Option ℕ) (t : Turned)
    (old new : SeenTrail) → (IsLeft t × IsDecided old new) ⊎ HasLearnt t old new limit
    → (found ≡ None → t.more ≡ t.steps)
    → (stops_at (length t.steps) ≡ Some true → (found ≡ None) ⊎ (limit ≡ Some (length t.steps)))
    → IsPassed stops_at (length t.steps) → IsPassed stops_at (length t.more)
passed_turned {A} stops_at found limit t old new (inl (still, decided)) same ended passed =
    subst (λ (steps : List Step). IsPassed stops_at (length steps)) (sym still.log) passed
passed_turned {A} stops_at found limit t old new (inr learnt) same ended passed =
    passed_learnt stops_at found limit t old new learnt same ended passed

pub answer_planned : (stops_at : ℕ → Option Bool) (rows : List Row) (vars given : ℕ) (places : List ℕ)
    (limit first kept : Option ℕ) (steps more : List Step) (t : SeenTrail) → IsUnder rows vars given steps places t
    → EndsAt stops_at first
    → IsPassed stops_at (length steps) → IfSome limit (λ most. length steps ≤ most)
    → (stops_at (length steps) ≡ Some false → kept ≡ limit)
    → (more ≡ steps) × (kept ≡ Some (length steps)) × (length steps < 2 ^ 64)
    × ((values : ℕ → Value) × IsQuiet values t.rows)
    → IsSpentAt rows vars (lower_limit limit first) more
answer_planned stops_at rows vars given places limit first kept steps more t under ends passed within same
    (still, reached, small, quiet) =
    answer_spent rows vars given places (lower_limit limit first) steps more t under (
      still,
      reached-lower stops_at limit first kept (length steps) ends passed within reached same,
      small,
      quiet,
    )
