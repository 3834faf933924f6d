-- Which constraints a log names.
use Rattle.std.proofs.Common.{◌≡◌, ◌≢◌, ◌==◌, inl, inr, None, ℕ, suc, ◌+◌, ◌<◌, ◌≤◌, Bool, true, false, List, [], ◌∷◌, ◌++◌, length, get_or}
use Rattle.std.proofs.Common.{Option, Some, refl, arith, ap, sym, subst, ◌∙◌, length-append}
use Rattle.std.specs.Prelude.{Contains, slice_get}
use Rattle.std.specs.List.{All}
use Rattle.std.proofs.lemmas.Bool.{cases_Bool, eqb-false, eqb-true}
use Rattle.std.proofs.lemmas.Option.{slice_get-get_or, slice_get_within}
use Rattle.std.proofs.lemmas.List.Elements.{All-nil, All-push, Contains-append_left, Contains-append_right}
use Rattle.league.specs.Instance.{Instance}
use Rattle.league.specs.declared.class.Constraint.{Constraint}
use Rattle.encoding.specs.Encoding.{rows_of}
use Rattle.encoding.specs.RowRanges.{first_row}
use Rattle.explain.specs.Parts.{is_hard, is_hard_number, constraint_numbered, listed, numbered}
use Rattle.refutation.specs.Steps.{Step}
use Rattle.explain.specs.Used.{AreNamed, IsMarked, IsUsed, UsesConstraint}

-- ---- the constraints of a part

one_listed : (found : Option Constraint) → is_hard found ≡ true → length (listed found) ≡ 1
one_listed None hard = absurd (cc)
one_listed (Some c) hard = refl

-- there is a constraint for each number of a hard one
pub length-numbered : (constraints : List Constraint) (members : List ℕ)
    → All (λ k. is_hard_number constraints k ≡ true) members → length (numbered constraints members) ≡ length members
length-numbered constraints [] hard = refl
length-numbered constraints (k ∷ members) hard =
    let one : length (listed (constraint_numbered constraints k)) ≡ 1 =
    one_listed (constraint_numbered constraints k) (hard 0 k (omega arith)) in
    omega (
      arith,
      length-append (listed (constraint_numbered constraints k)) (numbered constraints members),
      one,
      length-numbered constraints members (λ i d within. hard (suc i) d (omega (arith, within))),
    )

-- ---- whether a constraint is named

-- a flag among its rows is set
pub uses-flag : (league : Instance) (log : List Step) (flags : List Bool) (rows place start end row : ℕ)
    → IsMarked rows log flags → rows ≡ length (rows_of league) → start ≡ first_row league place
    → end ≡ first_row league (place + 1) → place < length league.constraints → start ≤ row → row < end
    → get_or flags row false ≡ true → UsesConstraint league log place
uses-flag league log flags rows place start end row marked all starts ends there from below set = (
  row,
  record { there = there; from = omega (arith, starts, from); below = omega (arith, ends, below) },
  subst (λ (k : ℕ). IsUsed k log (row + 1)) all (marked.sound row set),
)

-- none is
pub unused-flags : (league : Instance) (log : List Step) (flags : List Bool) (rows place start end : ℕ)
    → IsMarked rows log flags → rows ≡ length (rows_of league) → start ≡ first_row league place
    → end ≡ first_row league (place + 1)
    → ((row : ℕ) → start ≤ row → row < end → get_or flags row false ≡ false) → UsesConstraint league log place → ⊥
unused-flags league log flags rows place start end marked all starts ends unset uses =
    let row : ℕ = uses.0 in
    let none : get_or flags row false ≡ false = unset row (omega (arith, starts, uses.1.from)) (omega (arith, ends, uses.1.below)) in
    let used : IsUsed rows log (row + 1) = subst (λ (k : ℕ). IsUsed k log (row + 1)) (sym all) uses.2 in
    let set : get_or flags row false ≡ true = marked.complete row used in
    absurd (cc)

-- ---- the constraints gone through so far

-- up to a place those are named of whose rows the log uses one, and no others
pub record AreNamedSoFar (league : Instance) (numbers : List ℕ) (log : List Step) (named : List ℕ) (places : ℕ)
    : Type 0 where
  pub used : All
      (λ number. (place : ℕ) × ((slice_get numbers place ≡ Some number) × UsesConstraint league log place))
      named
  pub all : (place number : ℕ) → place < places → slice_get numbers place ≡ Some number
      → UsesConstraint league log place → Contains named number

pub named-more : (league : Instance) (numbers : List ℕ) (log : List Step) (named : List ℕ) (place number : ℕ)
    → AreNamedSoFar league numbers log named place → slice_get numbers place ≡ Some number
    → UsesConstraint league log place → AreNamedSoFar league numbers log (named ++ number ∷ []) (place + 1)
named-more league numbers log named place number so_far at uses = record {
  used = All-push
      (λ number. (place : ℕ) × ((slice_get numbers place ≡ Some number) × UsesConstraint league log place)) named number
      so_far.used (place, (at, uses));
  all = λ p k within is used.
      elim (cases_Bool (p == place)) [
        | inl holds ↦
            let same : p ≡ place = eqb-true p place holds in
            let as_well : ◌≡◌ {A = Option ℕ} (Some k) (Some number) = sym is ∙ ap (λ (i : ℕ). slice_get numbers i) same ∙ at in
            Contains-append_right named (number ∷ []) k (0, omega arith, some_number number k as_well)
        | inr fails ↦
            let other : p ≢ place = eqb-false p place fails in
            Contains-append_left named (number ∷ []) k
            (so_far.all p k (let before : p < place = omega (arith, within, other) in before) is used)
      ];
}
  where
    some_number : (number k : ℕ) → ◌≡◌ {A = Option ℕ} (Some k) (Some number) → number ≡ k
    some_number number k same = cc

pub named-same : (league : Instance) (numbers : List ℕ) (log : List Step) (named : List ℕ) (place : ℕ)
    → AreNamedSoFar league numbers log named place → (UsesConstraint league log place → ⊥)
    → AreNamedSoFar league numbers log named (place + 1)
named-same league numbers log named place so_far unused = record {
  used = so_far.used;
  all = λ p k within is used.
      elim (cases_Bool (p == place)) [
        | inl holds ↦
            let same : p ≡ place = eqb-true p place holds in
            absurd (unused (subst (λ (i : ℕ). UsesConstraint league log i) same used))
        | inr fails ↦
            let other : p ≢ place = eqb-false p place fails in
            so_far.all p k (let before : p < place = omega (arith, within, other) in before) is used
      ];
}

pub named-all : (league : Instance) (numbers : List ℕ) (log : List Step) (named : List ℕ) (places : ℕ)
    → AreNamedSoFar league numbers log named places → length numbers ≤ places → AreNamed league numbers log named
named-all league numbers log named places so_far all = record {
  used = so_far.used;
  all = λ place number is used.
      so_far.all place number (omega (arith, all, slice_get_within numbers place number is)) is used;
}

-- ---- one constraint more

-- before the first constraint none is named
pub named-none : (league : Instance) (numbers : List ℕ) (log : List Step) → AreNamedSoFar league numbers log [] 0
named-none league numbers log = record {
  used = All-nil (λ number. (place : ℕ) × ((slice_get numbers place ≡ Some number) × UsesConstraint league log place));
  all = λ place number within. absurd (omega (arith, within));
}

-- a flag is set among the rows of the constraint at a place: its number is named
pub named-flagged : (league : Instance) (numbers : List ℕ) (log : List Step) (flags : List Bool)
    (rows place start end : ℕ) (named new : List ℕ) → IsMarked rows log flags → rows ≡ length (rows_of league)
    → start ≡ first_row league place → end ≡ first_row league (place + 1) → place < length league.constraints
    → place < length numbers
    → ((row : ℕ) × ((start ≤ row) × (row < end) × (get_or flags row false ≡ true)))
    → new ≡ named ++ get_or numbers place 0 ∷ [] → AreNamedSoFar league numbers log named place
    → AreNamedSoFar league numbers log new (place + 1)
named-flagged league numbers log flags rows place start end named new marked all starts ends there within set made so_far =
    subst (λ (ks : List ℕ). AreNamedSoFar league numbers log ks (place + 1)) (sym made)
    (named-more league numbers log named place (get_or numbers place 0) so_far
    (slice_get-get_or numbers place 0 within)
    (uses-flag league log flags rows place start end set.0 marked all starts ends there set.1.0 set.1.1 set.1.2))

-- none is: it isn't
pub named-unflagged : (league : Instance) (numbers : List ℕ) (log : List Step) (flags : List Bool)
    (rows place start end : ℕ) (named new : List ℕ) → IsMarked rows log flags → rows ≡ length (rows_of league)
    → start ≡ first_row league place → end ≡ first_row league (place + 1)
    → ((row : ℕ) → start ≤ row → row < end → get_or flags row false ≡ false)
    → new ≡ named → AreNamedSoFar league numbers log named place
    → AreNamedSoFar league numbers log new (place + 1)
named-unflagged league numbers log flags rows place start end named new marked all starts ends unset same so_far =
    subst (λ (ks : List ℕ). AreNamedSoFar league numbers log ks (place + 1)) (sym same)
    (named-same league numbers log named place so_far
    (unused-flags league log flags rows place start end marked all starts ends unset))
