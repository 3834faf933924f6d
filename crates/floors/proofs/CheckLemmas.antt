-- What an accepted log shows of a floor.
use Rattle.std.proofs.Common.{◌≡◌, ℕ, ◌+◌, ◌-◌, ◌≤◌, List, [], arith, subst, sym, ◌∙◌}
use Rattle.std.specs.List.{All}
use Rattle.std.proofs.lemmas.List.Elements.{All-nil, All-weaker}
use Rattle.league.specs.Instance.{Instance, IsInstance}
use Rattle.rows.specs.Rows.{Row}
use Rattle.encoding.specs.Known.{AreKnown, IsKnown}
use Rattle.refutation.specs.Steps.{NamesRows, Step}
use Rattle.refutation.specs.Verdict.{verdict_of}
use Rattle.refutation.specs.Writable.{HasShortLines}
use Rattle.refutation.specs.declared.verdict.Verdict.{Verdict}
use Rattle.refutation.specs.declared.verdict.Verdict.TheVariants.{Accepted}
use Rattle.refutation_check.specs.Soundness.{HaveNoSolution}
use Rattle.refutation_check.specs.Within.{AreWithin, IsWithin}
use Rattle.bound_rows.specs.BoundRows.{bound_rows, bound_vars}
use Rattle.bound_rows.specs.Bounded.{Bounded}
use Rattle.bound_rows.specs.Faithful.{IsLowerBound}
use Rattle.bound_rows.proofs.Faithful.{bounds-from_refuted}
use Rattle.floors.specs.Floors.{IsFloor}
use Rattle.floors.specs.declared.floor.Floor.{Floor}

pub within-from_known : (vars : ℕ) (rows : List Row) → AreKnown vars rows → AreWithin vars rows
within-from_known vars rows known =
    All-weaker (IsKnown vars) (IsWithin vars) (λ row is k d within. (is k d within).1) rows known

-- that no schedule costs less than 0 needs no log
pub floor-none : (league : Instance) (floor : Floor) → floor.bound ≡ 0 → floor.log ≡ [] → IsFloor league floor
floor-none league floor none empty = record {
  least = λ m accepted. omega (arith, none);
  nothing = λ is. empty;
  accepted = λ some. absurd (omega (arith, none, some));
  named = subst (λ (steps : List Step). All NamesRows steps) (sym empty) (All-nil NamesRows);
  short = subst (λ (steps : List Step). HasShortLines steps) (sym empty) (λ k d within. absurd (omega (arith, within)));
}

-- bound rows under another name have no solution: so each schedule costs more than the bound
pub above-bound : (league : Instance) (bound : ℕ) (rows : List Row) → IsInstance league
    → rows ≡ bound_rows league bound → HaveNoSolution rows → IsLowerBound league (bound + 1)
above-bound league bound rows is same none =
    let less : bound ≡ bound + 1 - 1 = omega arith in
    bounds-from_refuted league (bound + 1) is
    (subst (λ (b : ℕ). HaveNoSolution (bound_rows league b)) less
    (subst (λ (rs : List Row). HaveNoSolution rs) same none))

-- a log that is accepted over the bound rows of one less than a bound, and can be written
pub floor-found : (league : Instance) (bound : ℕ) (system : Bounded) (verdict : Verdict) (steps : List Step)
    → 1 ≤ bound → system ≡ record { league = league; bound = bound - 1 }
    → verdict ≡ verdict_of (bound_rows system.league system.bound) (bound_vars system.league) steps
    → verdict ≡ Accepted → IsLowerBound system.league (system.bound + 1) → All NamesRows steps → HasShortLines steps
    → IsFloor league (record { bound = bound; log = steps })
floor-found league bound system verdict steps some is said accepted least named short =
    let one : bound - 1 + 1 ≡ bound = omega (arith, some) in
    let lower : IsLowerBound league (bound - 1 + 1) =
    subst (λ (s : Bounded). IsLowerBound s.league (s.bound + 1)) is least in
    let verdict_is : verdict_of (bound_rows system.league system.bound) (bound_vars system.league) steps ≡ Accepted =
    sym said ∙ accepted in
    record {
      least = subst (λ (b : ℕ). IsLowerBound league b) one lower;
      nothing = λ zero. absurd (omega (arith, zero, some));
      accepted = λ positive.
          subst (λ (s : Bounded). verdict_of (bound_rows s.league s.bound) (bound_vars s.league) steps ≡ Accepted) is
          verdict_is;
      named = named;
      short = short;
    }
