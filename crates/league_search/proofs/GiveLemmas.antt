-- Rows that steps give, and logs that begin with these steps.
use Rattle.std.proofs.Common.{◌≡◌, ℕ, ◌+◌, Bool, true, false, List, [], ◌∷◌, ◌++◌, length, Option, None, Some}
use Rattle.std.proofs.Common.{Result, Ok, Err, refl, ap, subst, sym, ◌∙◌}
use Rattle.std.specs.List.{All}
use Rattle.rows.specs.Rows.{Row}
use Rattle.refutation.specs.Following.{judged}
use Rattle.refutation.specs.Steps.{Step}
use Rattle.refutation.specs.Verdict.{ends_empty, fault_or, first_fault, verdict_by, verdict_of}
use Rattle.refutation.specs.declared.verdict.Cause.{Cause}
use Rattle.refutation.specs.declared.verdict.Verdict.TheVariants.{Accepted}
use Rattle.clause_search.proofs.TurnLemmas.{All-front}
use Rattle.league_search.specs.Sums.{Give}

-- one step more
pub Give-push : (rows : List Row) (vars : ℕ) (steps : List Step) (more : List Row) (step : Step) (row : Row)
    → Give rows vars steps more → judged more vars step ≡ Ok row
    → Give rows vars (steps ++ step ∷ []) (more ++ row ∷ [])
Give-push rows vars [] more step row give is = (
  row,
  (
    subst (λ (rs : List Row). judged rs vars step ≡ Ok row) give is,
    ap (λ (rs : List Row). rs ++ row ∷ []) give,
  ),
)
Give-push rows vars (first ∷ steps) more step row give is =
    (give.0, (give.1.0, Give-push (rows ++ give.0 ∷ []) vars steps more step row give.1.1 is))

-- what holds of all rows holds of those before the steps
pub Give-front : (P : Row → Type 0) (rows : List Row) (vars : ℕ) (steps : List Step) (more : List Row)
    → Give rows vars steps more → All P more → All P rows
Give-front P rows vars [] more give all = subst (λ (rs : List Row). All P rs) give all
Give-front P rows vars (step ∷ steps) more give all =
    All-front P rows (give.0 ∷ []) (Give-front P (rows ++ give.0 ∷ []) vars steps more give.1.1 all)

-- ---- what is said of a log

fault-same : (m n : ℕ) (found : Result Row Cause) (f g : Row → Option (ℕ × Cause))
    → ((row : Row) → f row ≡ None → g row ≡ None) → fault_or m found f ≡ None → fault_or n found g ≡ None
fault-same m n (Ok row) f g each none = each row none
fault-same m n (Err cause) f g each none = absurd (cc)

-- the numbers of steps don't matter where each follows
pub no_fault-from : (rows : List Row) (vars m n : ℕ) (steps : List Step) → first_fault rows vars m steps ≡ None
    → first_fault rows vars n steps ≡ None
no_fault-from rows vars m n [] none = refl
no_fault-from rows vars m n (step ∷ steps) none =
    fault-same (m + 1) (n + 1) (judged rows vars step) (λ row. first_fault (rows ++ row ∷ []) vars (m + 1) steps)
    (λ row. first_fault (rows ++ row ∷ []) vars (n + 1) steps)
    (λ row. no_fault-from (rows ++ row ∷ []) vars (m + 1) (n + 1) steps) none

pub no_fault-behind : (rows : List Row) (vars n m : ℕ) (steps : List Step) (more : List Row) (later : List Step)
    → Give rows vars steps more → first_fault more vars m later ≡ None
    → first_fault rows vars n (steps ++ later) ≡ None
no_fault-behind rows vars n m [] more later give none =
    no_fault-from rows vars m n later
    (subst (λ (rs : List Row). first_fault rs vars m later ≡ None) give none)
no_fault-behind rows vars n m (step ∷ steps) more later give none =
    subst
    (λ (found : Result Row Cause).
    fault_or (n + 1) found (λ row. first_fault (rows ++ row ∷ []) vars (n + 1) (steps ++ later)) ≡ None)
    (sym give.1.0)
    (no_fault-behind (rows ++ give.0 ∷ []) vars (n + 1) m steps more later give.1.1 none)

ends-cons : (step : Step) (steps : List Step) → ends_empty steps ≡ true → ends_empty (step ∷ steps) ≡ true
ends-cons step [] ends = absurd (cc)
ends-cons step (next ∷ steps) ends = ends

pub ends-behind : (steps later : List Step) → ends_empty later ≡ true → ends_empty (steps ++ later) ≡ true
ends-behind [] later ends = ends
ends-behind (step ∷ steps) later ends = ends-cons step (steps ++ later) (ends-behind steps later ends)

accepted-parts : (fault : Option (ℕ × Cause)) (ends : Bool) (n : ℕ) → verdict_by fault ends n ≡ Accepted
    → (fault ≡ None) × (ends ≡ true)
accepted-parts (Some (step, cause)) ends n is = absurd (cc)
accepted-parts None true n is = (refl, refl)
accepted-parts None false n is = absurd (cc)

-- a log is accepted that begins with steps which give rows, if the rest is accepted over all these
pub accepted-behind : (rows : List Row) (vars : ℕ) (steps : List Step) (more : List Row) (later : List Step)
    → Give rows vars steps more → verdict_of more vars later ≡ Accepted
    → verdict_of rows vars (steps ++ later) ≡ Accepted
accepted-behind rows vars steps more later give accepted =
    let parts : (first_fault more vars 0 later ≡ None) × (ends_empty later ≡ true) =
    accepted-parts (first_fault more vars 0 later) (ends_empty later) (length later) accepted in
    ap (λ (fault : Option (ℕ × Cause)). verdict_by fault (ends_empty (steps ++ later)) (length (steps ++ later)))
    (no_fault-behind rows vars 0 0 steps more later give parts.0)
    ∙ ap (λ (ends : Bool). verdict_by None ends (length (steps ++ later))) (ends-behind steps later parts.1)
