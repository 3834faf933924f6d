-- A descent that nothing may stop.
use Rattle.std.proofs.Common.{◌≡◌, ◌↔◌, ◌⊎◌, ℕ, true, false, length, Result, Ok, Err, Some, inl, inr}
use Rattle.std.specs.Prelude.{IfOk, IsTrue}
use Rattle.std.proofs.lemmas.Bool.{cases_Bool}
use Rattle.robin_watch.specs.Limits.{IsKeptTo}
use Rattle.robin_watch.proofs.LimitLemmas.{kept-unstopped}
use Rattle.descent.specs.Descended.{Descended}

same-some : (a b : ℕ) → Some a ≡ Some b → a ≡ b
same-some a b is = cc

pub unstopped : {E : Type 0} (limit : ℕ) (may_stop : Type 0) (result : Result Descended E) → (may_stop → ⊥)
    → IfOk result (λ descent. descent.settled ≡ false
    → IsKeptTo (Some limit) may_stop (Some (length descent.trail)))
    → IfOk result (λ descent. descent.settled ≡ false → length descent.trail ≡ limit)
unstopped {E} limit may_stop (Ok descent) never is = λ open_yet.
    same-some (length descent.trail) limit
    (kept-unstopped (Some limit) may_stop (Some (length descent.trail)) never (is open_yet))
unstopped {E} limit may_stop (Err error) never is = tt

-- it is settled exactly where it is said to be
pub settled-exactly : {E : Type 0} (S may_stop : Type 0) (result : Result Descended E) → (may_stop → ⊥)
    → IfOk result (λ descent. descent.settled ≡ true → S)
    → IfOk result (λ descent. descent.settled ≡ false → may_stop ⊎ (S → ⊥))
    → IfOk result (λ descent. IsTrue descent.settled ↔ S)
settled-exactly {E} S may_stop (Ok descent) never said unsaid = (
  said,
  λ settled. elim (cases_Bool descent.settled) as (λ _. descent.settled ≡ true) [
    | inl is ↦ is
    | inr open_yet ↦ absurd (elim (unsaid open_yet) as (λ _. ⊥) [
      | inl stops ↦ never stops
      | inr not_settled ↦ not_settled settled
    ])
  ],
)
settled-exactly {E} S may_stop (Err error) never said unsaid = tt
