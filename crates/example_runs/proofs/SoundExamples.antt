-- Rows that no values satisfy, rows within so many variables, and what two logs come to step by step.
use Rattle.std.proofs.Common.{◌≡◌, ℕ, ◌+◌, ◌≤◌, Bool, true, false, cond, not, List, [], ◌∷◌, Some, None, refl, arith}
use Rattle.std.proofs.Common.{lit<}
use Rattle.std.specs.List.{fold}
use Rattle.std.proofs.lemmas.List.Elements.{All-from_recursion}
use Rattle.rows.specs.Cardinality.{at_least}
use Rattle.rows.specs.Literals.{yes, no}
use Rattle.rows.specs.Rows.{Row, Satisfies}
use Rattle.rows.specs.Values.{assigned}
use Rattle.rows.specs.declared.lit.Term.{Term}
use Rattle.refutation.specs.Steps.{Step}
use Rattle.refutation.specs.Steps.Step.{Clause, Linear}
use Rattle.refutation.specs.Verdict.{verdict_of}
use Rattle.refutation.specs.declared.step.StepKind.TheVariants as kinds
use Rattle.refutation.specs.declared.verdict.Cause.TheVariants.{NoConflict}
use Rattle.refutation.specs.declared.verdict.Verdict.TheVariants.{Accepted, Rejected}
use Rattle.refutation_check.specs.Judged.{Judged, JudgedStep, after_step, is_falsum, no_step_of, rows_of}
use Rattle.refutation_check.specs.Judged.{verdict_so_far}
use Rattle.refutation_check.specs.Soundness.{HaveNoSolution}
use Rattle.refutation_check.specs.Within.{AreWithin, IsWithin}

-- ---- 1 or 2, and neither: if 1 is false, which row 2 asks for, then 2 is true, which row 3 forbids

abbrev some : Row
some = at_least 1 (yes 1 ∷ yes 2 ∷ [])

abbrev neither : List Row
neither = some ∷ at_least 1 (no 1 ∷ []) ∷ at_least 1 (no 2 ∷ []) ∷ []

-- whichever values the two have
clash : (a b : Bool) → 1 ≤ 0 + cond a 1 0 + cond b 1 0 → 1 ≤ 0 + cond (not a) 1 0 → 1 ≤ 0 + cond (not b) 1 0 → ⊥
clash true b met first second = omega (arith, first)
clash false true met first second = omega (arith, second)
clash false false met first second = omega (arith, met)

pub no_solution : HaveNoSolution neither
no_solution values met =
    clash (values 1) (values 2) (met 0 some (lit< tt)) (met 1 some (lit< tt)) (met 2 some (lit< tt))

-- without the last they have one; and a row without terms that asks for something has none
pub solutions : (HaveNoSolution (some ∷ at_least 1 (no 1 ∷ []) ∷ []) → ⊥) × HaveNoSolution (at_least 1 [] ∷ [])
    × (HaveNoSolution [] → ⊥)
solutions = (
  λ none.
      none (assigned (false ∷ true ∷ []))
      (All-from_recursion (Satisfies (assigned (false ∷ true ∷ []))) (some ∷ at_least 1 (no 1 ∷ []) ∷ [])
      (omega arith, (omega arith, tt))),
  λ values met. omega (arith, met 0 some (lit< tt)),
  λ none. none (assigned []) (λ k d within. absurd (omega (arith, within))),
)

-- ---- rows within so many variables: whichever their numbers are up to there

abbrev wide : Row
wide = at_least 1 (no 4 ∷ yes 0 ∷ [])

pub within : IsWithin 4 wide × (IsWithin 3 wide → ⊥)
within = (
  All-from_recursion (λ (t : Term). t.lit.var ≤ 4) wide.terms (omega arith, (omega arith, tt)),
  λ is. omega (arith, is 0 (record { coef = 1; lit = yes 1 }) (lit< tt)),
)

pub all_within : AreWithin 4 (some ∷ wide ∷ []) × (AreWithin 3 (some ∷ wide ∷ []) → ⊥)
all_within = (
  All-from_recursion (IsWithin 4) (some ∷ wide ∷ [])
      (All-from_recursion (λ (t : Term). t.lit.var ≤ 4) some.terms (omega arith, (omega arith, tt)), (within.0, tt)),
  λ are. within.1 (are 1 some (lit< tt)),
)

-- ---- what steps come to

-- rows 1 and 2 add up to 2, twice, at least 1: 1 is cancelled, and the half of it is rounded up
abbrev sum : Step
sum = Linear (record { factor = 2; row = 1 } ∷ record { factor = 2; row = 2 } ∷ []) 2

abbrev falsum : Step
falsum = Clause [] (4 ∷ 3 ∷ [])

abbrev come_to : List Step → Judged
come_to steps = fold after_step (no_step_of neither 2) steps

abbrev added : JudgedStep
added = record { row = record { terms = record { coef = 1; lit = yes 2 } ∷ []; degree = 1 }; kind = kinds.Linear }

abbrev ended : JudgedStep
ended = record { row = record { terms = []; degree = 1 }; kind = kinds.Clause }

-- both follow, and the next step may name five rows
pub both_follow : (come_to (sum ∷ falsum ∷ [])
    ≡ record { rows = neither; vars = 2; steps = added ∷ ended ∷ []; rejection = None })
    × (rows_of (come_to (sum ∷ falsum ∷ []))
    ≡ some ∷ at_least 1 (no 1 ∷ []) ∷ at_least 1 (no 2 ∷ []) ∷ at_least 1 (yes 2 ∷ []) ∷ at_least 1 [] ∷ [])
    × (verdict_so_far (come_to (sum ∷ falsum ∷ [])) ≡ Accepted)
    × (verdict_of neither 2 (sum ∷ falsum ∷ []) ≡ Accepted)
both_follow = (refl, refl, refl, refl)

-- the second step doesn't follow by row 4 alone: the first is kept, and what comes then isn't judged
pub second_fails : (come_to (sum ∷ Clause [] (4 ∷ []) ∷ falsum ∷ [])
    ≡ record { rows = neither; vars = 2; steps = added ∷ []; rejection = Some (2, NoConflict) })
    × (verdict_so_far (come_to (sum ∷ Clause [] (4 ∷ []) ∷ falsum ∷ [])) ≡ Rejected 2 NoConflict)
    × (verdict_of neither 2 (sum ∷ Clause [] (4 ∷ []) ∷ falsum ∷ []) ≡ Rejected 2 NoConflict)
second_fails = (refl, refl, refl)

-- the empty clause is at least 1 of nothing, as a clause: not as a sum, nor with a term, nor where less or more is
-- asked for
abbrev step_as : List Term → ℕ → JudgedStep
step_as terms degree = record { row = record { terms = terms; degree = degree }; kind = kinds.Clause }

pub falsums : (is_falsum ended ≡ true) × (is_falsum (record { row = at_least 1 []; kind = kinds.Linear }) ≡ false)
    × (is_falsum (step_as (record { coef = 1; lit = yes 2 } ∷ []) 1) ≡ false)
    × (is_falsum (step_as [] 0) ≡ false) × (is_falsum (step_as [] 2) ≡ false)
falsums = (refl, refl, refl, refl, refl)
