-- How many terms a league's rows may have, and what a call does about it that makes such rows.
use Rattle.std.specs.Prelude.{◌≡◌, ℕ, ◌<◌, ◌≤◌, Result, Err, IsOk}
use Rattle.encoding.specs.declared.encoder.TheConstants.{MOST_TERMS}
use Rattle.encoding.specs.declared.encoder.EncodeFault.{EncodeFault}
use Rattle.encoding.specs.declared.encoder.EncodeFault.TheVariants.{TooLarge}

-- the most terms of a league's rows, whichever rows they are (own limit)
abbrev pub most_terms : ℕ
most_terms = MOST_TERMS

-- Rows of this size are made where the limit allows them. Where it doesn't, they are refused as too large, with their
-- size.
pub record KeepsLimit {A : Type 0} (size : ℕ) (result : Result A EncodeFault) : Type 0 where
  -- what is made is within the limit
  pub within : IsOk result → size ≤ most_terms
  -- what is past the limit is refused
  pub too_large : most_terms < size → result ≡ Err (TooLarge size)
  -- nothing else is refused as too large
  pub only : (terms : ℕ) → result ≡ Err (TooLarge terms) → most_terms < size
