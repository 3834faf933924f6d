-- What a piece of the text does to a reader.
use Rattle.std.specs.Prelude.{◌≡◌, ℕ, List, [], ◌∷◌, ◌++◌}
use Rattle.refutation.specs.Steps.{Step}
use Rattle.refutation.specs.Logs.{after}
use Rattle.refutation.specs.Places.{Place, log_from}

-- The steps of a piece were added, and whatever comes behind it, the text is read as these steps and then as what is
-- read from here.
pub record ReadsOn (before : Place) (old : List Step) (piece : List ℕ) (now : Place) (new : List Step) : Type 0 where
  pub added : List Step
  pub steps : new ≡ old ++ added
  pub read : (rest : List ℕ) → log_from before (piece ++ rest) ≡ after added (log_from now rest)

-- Pieces that are fed in turn.
abbrev pub FeedsAll : Place → List Step → List (List ℕ) → Place → List Step → Type 0
FeedsAll before old [] now new = (now ≡ before) × (new ≡ old)
FeedsAll before old (piece ∷ pieces) now new =
    (between : Place) × ((steps : List Step) ×
    (ReadsOn before old piece between steps × FeedsAll between steps pieces now new))
