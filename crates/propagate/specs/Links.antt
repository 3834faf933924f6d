-- How the rows are found in which a literal stands.
use Rattle.std.specs.Prelude.{◌≡◌, ◌≢◌, ℕ, ◌+◌, ◌<◌, ◌≤◌, List, [], length, slice_index_or, Contains}
use Rattle.std.specs.List.{All}
use Rattle.rows.specs.Codes.{code_of}
use Rattle.rows.specs.Literals.{Literal}
use Rattle.rows.specs.Rows.{Row}
use Rattle.rows.specs.declared.lit.Term.{Term}
use Rattle.propagate.specs.declared.link.Link.{Link}
use Rattle.propagate.specs.Numbered.{row_at}

-- the literal stands in none of the terms
abbrev pub Lacks : Literal → List Term → Type 0
Lacks l terms = All (λ t. t.lit ≢ l) terms

-- the links of a literal
abbrev pub links_of : List (List Link) → Literal → List Link
links_of lists l = slice_index_or lists (code_of l) []

-- the term for which a link of a literal stands
abbrev pub term_of : Literal → Link → Term
term_of l link = record { coef = link.coef; lit = l }

-- the link's row is the last one below a bound in which the literal stands
pub record IsLastBelow (rows : List Row) (l : Literal) (bound : ℕ) (link : Link) : Type 0 where
  pub below : link.row < bound
  pub there : Contains (row_at rows link.row).terms (term_of l link)
  pub between : (k : ℕ) → link.row < k → k < bound → Lacks l (row_at rows k).terms

-- the last of so many links leads to the last row below a bound in which the literal stands; there is none where they are 0
pub record LeadsBelow (rows : List Row) (links : List Link) (l : Literal) (bound at : ℕ) : Type 0 where
  pub none : at ≡ 0 → (k : ℕ) → k < bound → Lacks l (row_at rows k).terms
  pub within : at ≤ length links
  pub some : (i : ℕ) (d : Link) → at ≡ i + 1 → IsLastBelow rows l bound (slice_index_or links i d)

-- the links of a literal in the first n rows: those before each of them lead to the rows before its own
pub record IsListed (rows : List Row) (n : ℕ) (l : Literal) (links : List Link) : Type 0 where
  pub all : LeadsBelow rows links l n (length links)
  pub each : (i : ℕ) (d : Link) → i < length links → LeadsBelow rows links l (slice_index_or links i d).row i
  pub inside : (i : ℕ) (d : Link) → i < length links → (slice_index_or links i d).row < n

-- each literal has its links in the first n rows
abbrev pub AreLinked : List Row → ℕ → List (List Link) → Type 0
AreLinked rows n lists = (l : Literal) → code_of l < length lists → IsListed rows n l (links_of lists l)
