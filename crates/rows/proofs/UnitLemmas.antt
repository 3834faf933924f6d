-- Literals with coefficient 1 make a row where their variables differ.
use Rattle.std.proofs.Common.{◌≢◌, ℕ, suc, ◌≤◌, List, [], ◌∷◌, map, arith}
use Rattle.std.specs.List.{AllPairs}
use Rattle.std.proofs.lemmas.List.Elements.{All-map}
use Rattle.std.proofs.lemmas.List.Kept.{AllPairs-cons}
use Rattle.rows.specs.Cardinality.{at_least, unit}
use Rattle.rows.specs.Literals.{Literal, negate}
use Rattle.rows.specs.Rows.{IsRow}

-- what holds of any two elements holds of what they are mapped to
pub AllPairs-map : {X Y : Type 0} (R : Y → Y → Type 0) (f : X → Y) (xs : List X) → AllPairs (λ a b. R (f a) (f b)) xs
    → AllPairs R (map f xs)
AllPairs-map R f [] pairs = λ i j d before within. absurd (omega arith)
AllPairs-map R f (x ∷ xs) pairs =
    AllPairs-cons R (f x) (map f xs)
    (All-map (R (f x)) f xs (λ k d within. pairs 0 (suc k) d (omega arith) (omega arith)))
    (AllPairs-map R f xs (λ i j d before within. pairs (suc i) (suc j) d (omega arith) (omega arith)))

abbrev Differ : List Literal → Type 0
Differ literals = AllPairs (λ l m. l.var ≢ m.var) literals

units : (literals : List Literal) (degree : ℕ) → Differ literals
    → IsRow (record { terms = map unit literals; degree = degree })
units literals degree differ = record {
  coefs = All-map (λ t. 1 ≤ t.coef) unit literals (λ k d within. omega arith);
  variables = AllPairs-map (λ t u. t.lit.var ≢ u.lit.var) unit literals differ;
}

pub IsRow-at_least : (degree : ℕ) (literals : List Literal) → Differ literals → IsRow (at_least degree literals)
IsRow-at_least degree literals differ = units literals degree differ

pub IsRow-negated : (degree : ℕ) (literals : List Literal) → Differ literals
    → IsRow (record { terms = map unit (map negate literals); degree = degree })
IsRow-negated degree literals differ = units (map negate literals) degree
    (AllPairs-map (λ l m. l.var ≢ m.var) negate literals differ)
