-- An edit that is applied can be taken back, and then the counts are what they were.
use Rattle.std.proofs.Common.{◌≡◌, ℕ, ◌+◌, ◌≤◌, inl, inr, arith}
use Rattle.league.specs.Counts.{Counts, counts_of}
use Rattle.moves.specs.Round.{AreApart, Edits, edited}
use Rattle.rule_core.proofs.ListedLemmas.{same_counts}

-- the games put on are there, where none of them was taken off
pub into_there : (before after : Counts) (edit : Edits) → AreApart edit → ((i j s : ℕ) → after i j s + counts_of edit.out i j s ≡ before i j s + counts_of edit.into i j s) → (i j s : ℕ) → counts_of edit.into i j s ≤ after i j s
into_there before after edit apart change i j s = elim (apart i j s) as (λ _. counts_of edit.into i j s ≤ after i j s) [
  | inl none ↦ omega (arith, none, change i j s)
  | inr none ↦ omega (arith, none)
]

pub undone : (before after back : Counts) (edit : Edits) → ((i j s : ℕ) → after i j s + counts_of edit.out i j s ≡ before i j s + counts_of edit.into i j s) → ((i j s : ℕ) → back i j s + counts_of edit.into i j s ≡ after i j s + counts_of edit.out i j s) → back ≡ before
undone before after back edit change undo = same_counts back before (λ i j s. omega (arith, change i j s, undo i j s))

-- an edit leads to its counts
pub edited-there : (before : Counts) (edit : Edits) → ((i j s : ℕ) → counts_of edit.out i j s ≤ before i j s)
    → (i j s : ℕ) → edited before edit i j s + counts_of edit.out i j s ≡ before i j s + counts_of edit.into i j s
edited-there before edit there i j s = omega (arith, there i j s)

-- an edit leads to no other counts
pub exchanged-same : (before after m out into : Counts) → ((i j s : ℕ) → after i j s + out i j s ≡ before i j s + into i j s)
    → ((i j s : ℕ) → m i j s + out i j s ≡ before i j s + into i j s) → after ≡ m
exchanged-same before after m out into one other = same_counts after m (λ i j s. omega (arith, one i j s, other i j s))
