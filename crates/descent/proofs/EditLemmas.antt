-- Counts after an edit, and after it was taken back.
use Rattle.std.proofs.Common.{◌≡◌, ℕ, ◌+◌, ◌≤◌, List, arith}
use Rattle.league.specs.Counts.{Counts, counts_of}
use Rattle.league.specs.declared.game.Game.{Game}
use Rattle.moves.specs.Round.{Edits, IsEdit, edited}
use Rattle.rule_core.proofs.ListedLemmas.{same_counts}

-- counts to which an edit led
abbrev pub AreExchanged : Counts → Counts → List Game → List Game → Type 0
AreExchanged before after out into =
    (i j s : ℕ) → after i j s + counts_of out i j s ≡ before i j s + counts_of into i j s

-- an edit leads to the counts that it is for
pub edit-leads : (before between after : Counts) (edit : Edits) → IsEdit before between edit
    → AreExchanged before after edit.out edit.into → after ≡ between
edit-leads before between after edit is leads =
    same_counts after between (λ i j s. omega (arith, is.moves i j s, leads i j s))

-- taken back, it leads back
pub edit-back : (before between after : Counts) (edit : Edits) → AreExchanged before between edit.out edit.into
    → AreExchanged between after edit.into edit.out → after ≡ before
edit-back before between after edit there back =
    same_counts after before (λ i j s. omega (arith, there i j s, back i j s))

-- the games put in are there afterwards
pub put_in-there : (before after : Counts) (edit : Edits)
    → ((i j s : ℕ) → counts_of edit.out i j s ≤ before i j s) → AreExchanged before after edit.out edit.into
    → (i j s : ℕ) → counts_of edit.into i j s ≤ after i j s
put_in-there before after edit there leads i j s = omega (arith, there i j s, leads i j s)

-- the counts of a board after an edit
pub edited-is : (before after : Counts) (edit : Edits) → IsEdit before after edit → edited before edit ≡ after
edited-is before after edit is =
    same_counts (edited before edit) after (λ i j s. omega (arith, is.moves i j s, is.there i j s))
