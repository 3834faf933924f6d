-- Steps that stand in front of bytes, written as a log's text has them.
use Rattle.std.specs.Prelude.{◌≡◌, ℕ, ◌+◌, ◌<◌, ◌≤◌, Bool, true, false, List, [], ◌∷◌, ◌++◌, length, take}
use Rattle.std.specs.Prelude.{slice_index, Option, Some, None, decimal}
use Rattle.std.specs.List.{All, flat_map, list_all}
use Rattle.std.specs.Borrow.{Bor}
use Rattle.std.specs.Char.{is_ascii_digit}
use Rattle.rows.specs.Literals.{Literal}
use Rattle.refutation.specs.Steps.{NamesRows, Step}
use Rattle.refutation.specs.Steps.Step.{Clause, Linear}
use Rattle.refutation.specs.Lines.{number}
use Rattle.refutation.specs.Logs.{most_bytes}
use Rattle.refutation.specs.Texts.{literal_text, number_text, part_text, step_line_text, step_text}
use Rattle.refutation.specs.Places.{Place}
use Rattle.refutation.specs.Feeding.{ReadsOn}
use Rattle.refutation.specs.Written.{HasSmallNumbers, IsOf, IsSmall, IsVariable}
use Rattle.refutation.specs.declared.step.Part.{Part}
use Rattle.refutation.specs.declared.version.Version.{Version}
use Rattle.refutation.specs.declared.version.Version.TheVariants.{Two}

-- ---- one number

-- a digit from 1 to 9 stands first
pub record BeginsNumber (bytes : List ℕ) : Type 0 where
  pub some : 0 < length bytes
  pub least : 49 ≤ slice_index bytes 0
  pub most : slice_index bytes 0 ≤ 57

-- digits in front, and their number where there are at most 19
pub record AreFewDigits (bytes : List ℕ) (len value : ℕ) : Type 0 where
  pub some : 0 < len
  pub within : len ≤ length bytes
  pub digits : list_all is_ascii_digit (take len bytes) ≡ true
  pub value_is : len ≤ 19 → value ≡ number (take len bytes)

-- a number that may stand in a line
pub record IsHint (hint : ℕ) : Type 0 where
  pub some : 1 ≤ hint
  pub small : IsSmall hint

-- a number and the byte that ends it stand in front
pub record IsNumberBefore (end : ℕ) (bytes : List ℕ) (hint : ℕ) (left : List ℕ) : Type 0 where
  pub written : bytes ≡ decimal hint ++ end ∷ left
  pub is : IsHint hint

-- a hint and its space stand in front
pub record IsHintInFront (bytes : List ℕ) (hint : ℕ) (left : List ℕ) : Type 0 where
  pub written : bytes ≡ number_text hint ++ left
  pub is : IsHint hint

-- the variable of a literal of this sign and its space stand in front
pub record IsVariableInFront (bytes : List ℕ) (positive : Bool) (lit : Literal) (left : List ℕ) : Type 0 where
  pub written : bytes ≡ number_text lit.var ++ left
  pub sign : lit.positive ≡ positive
  pub is : IsVariable lit

-- a literal and its space stand in front
pub record IsLiteralInFront (bytes : List ℕ) (lit : Literal) (left : List ℕ) : Type 0 where
  pub written : bytes ≡ literal_text lit ++ left
  pub is : IsVariable lit

-- numbers that may stand as a part
pub record ArePartHints (part : Part) : Type 0 where
  pub factor : IsHint part.factor
  pub row : IsHint part.row

-- a part stands in front
pub record IsPartInFront (bytes : List ℕ) (part : Part) (left : List ℕ) : Type 0 where
  pub written : bytes ≡ part_text part ++ left
  pub are : ArePartHints part

-- ---- several

-- something may have been added
pub record IsLonger {T : Type 0} (old new : List T) : Type 0 where
  pub more : List T
  pub is : new ≡ old ++ more

-- items were added, and stand in front of what is left
pub record StandInFront {T : Type 0} (text : T → List ℕ) (Is : T → Type 0) (bytes left : List ℕ)
    (old new : List T) : Type 0 where
  pub items : List T
  pub added : new ≡ old ++ items
  pub written : bytes ≡ flat_map text items ++ left
  pub are : All Is items

-- the items in front of a `0`, if one stands behind them
abbrev pub TakesItems : {T : Type 0} → (T → List ℕ) → (T → Type 0) → List ℕ → Option (Bor (List ℕ))
    → List T → List T → Type 0
TakesItems text Is bytes None old new = IsLonger old new
TakesItems text Is bytes (Some left) old new = StandInFront text Is bytes (48 ∷ left.now) old new

-- ---- a line

-- the line of a step, with its LF, stands in front
pub record IsStepLine (version : Version) (bytes left : List ℕ) (step : Step) : Type 0 where
  pub written : bytes ≡ step_line_text version step ++ left
  pub short : length (step_text version step) ≤ most_bytes
  pub of : IsOf version step
  pub small : HasSmallNumbers step
  pub rows : NamesRows step

-- the literals and the hints of a clause step were added
pub record AddsBoth (version : Version) (bytes left : List ℕ) (lits lits' : List Literal) (rows rows' : List ℕ)
    : Type 0 where
  pub clause : List Literal
  pub hints : List ℕ
  pub literals : lits' ≡ lits ++ clause
  pub numbers : rows' ≡ rows ++ hints
  pub line : IsStepLine version bytes left (Clause clause hints)

abbrev pub TakesClause : Version → List ℕ → Option (Bor (List ℕ)) → List Literal → List Literal → List ℕ → List ℕ
    → Type 0
TakesClause version bytes None lits lits' rows rows' = IsLonger lits lits' × IsLonger rows rows'
TakesClause version bytes (Some left) lits lits' rows rows' = AddsBoth version bytes left.now lits lits' rows rows'

-- the parts of a linear step were added
pub record AddsParts (bytes left : List ℕ) (divisor : ℕ) (old new : List Part) : Type 0 where
  pub parts : List Part
  pub added : new ≡ old ++ parts
  pub line : IsStepLine Two bytes left (Linear parts divisor)
  pub factors : All (λ part. 1 ≤ part.factor) parts
  pub least : 1 ≤ divisor

abbrev pub TakesLinear : List ℕ → Option (ℕ × Bor (List ℕ)) → List Part → List Part → Type 0
TakesLinear bytes None old new = IsLonger old new
TakesLinear bytes (Some (divisor, left)) old new = AddsParts bytes left.now divisor old new

-- a step was added
pub record AddsStepLine (version : Version) (bytes left : List ℕ) (old new : List Step) : Type 0 where
  pub step : Step
  pub added : new ≡ old ++ step ∷ []
  pub line : IsStepLine version bytes left step

abbrev pub TakesStep : Version → List ℕ → Option (Bor (List ℕ)) → List Step → List Step → Type 0
TakesStep version bytes None old new = new ≡ old
TakesStep version bytes (Some left) old new = AddsStepLine version bytes left.now old new

-- ---- lines

-- in front of a line of a log of this version
pub record IsAtLine (at : Place) (version : Version) : Type 0 where
  pub text : at.text ≡ []
  pub known : at.version ≡ Some version
  pub within : at.ended ≡ false
  pub no_fault : at.fault ≡ None

-- what stands in front of what is left was read
pub record ReadsFront (before : Place) (old : List Step) (bytes left : List ℕ) (now : Place) (new : List Step) : Type 0
  where
    pub front : List ℕ
    pub parts : bytes ≡ front ++ left
    pub read : ReadsOn before old front now new
    pub line : now.line + length left ≤ before.line + length bytes
