-- Rows that are kept in one list of terms, with the places where they end.
use Rattle.std.specs.Prelude.{◌≡◌, ℕ, zero, suc, ◌-◌, ◌^◌, ◌<◌, ◌≤◌, List, [], ◌∷◌, length, take, drop}
use Rattle.std.specs.List.{All}
use Rattle.rows.specs.Rows.{IsRow, Row}
use Rattle.rows.specs.declared.lit.Term.{Term}
use Rattle.rows.specs.declared.row_store.End.{End}

-- the rows that begin at a place
abbrev pub cut : ℕ → List Term → List End → List Row
cut start terms [] = []
cut start terms (e ∷ ends) =
    record { terms = take (e.end - start) (drop start terms); degree = e.degree } ∷ cut e.end terms ends

-- the ends ascend from a place to the number of terms
abbrev pub AreEnds : ℕ → List End → ℕ → Type 0
AreEnds start [] count = start ≡ count
AreEnds start (e ∷ ends) count = (start ≤ e.end) × AreEnds e.end ends count

-- where the row at place k begins: where the one before it ends
abbrev pub start_of : ℕ → List End → ℕ → ℕ
start_of start ends zero = start
start_of start [] (suc k) = start
start_of start (e ∷ ends) (suc k) = start_of e.end ends k

-- fewer than 2^32 rows lie end to end, and each is one
pub record AreKept (terms : List Term) (ends : List End) : Type 0 where
  pub ended : AreEnds 0 ends (length terms)
  pub few : length ends < 2 ^ 32
  pub rows : All IsRow (cut 0 terms ends)
