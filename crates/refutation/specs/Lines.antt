-- The line of a step (own format), cut into tokens at each space, and into groups at each token `0`.
use Rattle.std.specs.Prelude.{ℕ, Bool, true, false, not, ◌&&◌, ◌==◌, nat_le, nat_eq, if◌then◌else◌}
use Rattle.std.specs.Prelude.{List, [], ◌∷◌, map, Result, Ok, Err, codes, bytes_eq}
use Rattle.std.specs.List.{list_all, slice_split, starts_with}
use Rattle.std.specs.Str.{byte}
use Rattle.std.specs.Str.Parse.{digits_value}
use Rattle.robin_io.specs.Numbers.{is_number}
use Rattle.rows.specs.Literals.{Literal}
use Rattle.refutation.specs.Steps.{Step}
use Rattle.refutation.specs.Steps.Step.{Clause, Linear}
use Rattle.refutation.specs.declared.fault.LogKind.{LogKind}
use Rattle.refutation.specs.declared.fault.LogKind.TheVariants.{BadLine, BadNumber}
use Rattle.refutation.specs.declared.step.Part.{Part}
use Rattle.refutation.specs.declared.version.Version.{Version}
use Rattle.refutation.specs.declared.version.Version.TheVariants.{One, Two}

-- what comes next is read unless there was a fault
infixl 10 ◌>>=◌
abbrev pub ◌>>=◌ : {A B : Type 0} → Result A LogKind → (A → Result B LogKind) → Result B LogKind
(Ok x) >>= f = f x
(Err kind) >>= f = Err kind

-- a fault of this kind unless the test holds
abbrev pub check : Bool → LogKind → Result (Unit {0}) LogKind
check true kind = Ok tt
check false kind = Err kind

-- ---- tokens

abbrev pub is_space : ℕ → Bool
is_space b = b == byte " "

-- the tokens of a line: the line cut at each space
abbrev pub tokens_of : List ℕ → List (List ℕ)
tokens_of text = slice_split is_space text

abbrev pub is_zero : List ℕ → Bool
is_zero token = bytes_eq token (codes "0")

-- the groups of tokens: the tokens cut at each `0`
abbrev pub groups_of : List (List ℕ) → List (List (List ℕ))
groups_of tokens = slice_split is_zero tokens

-- digits that don't begin with `0`
abbrev pub is_count : List ℕ → Bool
is_count token = is_number token && not (starts_with nat_eq token (codes "0"))

-- whether `-` stands first
abbrev pub is_negated : List ℕ → Bool
is_negated token = starts_with nat_eq token (codes "-")

-- the token without `-` in front
abbrev pub without_sign : List ℕ → List ℕ
without_sign [] = []
without_sign (b ∷ token) = if b == byte "-" then token else b ∷ token

abbrev pub is_literal : List ℕ → Bool
is_literal token = is_count (without_sign token)

-- ---- values of tokens

-- the number that a token writes
abbrev pub number : List ℕ → ℕ
number token = digits_value 10 token

abbrev pub is_small_number : List ℕ → Bool
is_small_number token = nat_le (number token) 18446744073709551615

abbrev pub is_small_variable : List ℕ → Bool
is_small_variable token = nat_le (number (without_sign token)) 2147483647

-- the literal that a token writes
abbrev pub literal : List ℕ → Literal
literal token = record { var = number (without_sign token); positive = not (is_negated token) }

-- whether items come in pairs
abbrev pub are_pairs : {X : Type 0} → List X → Bool
are_pairs [] = true
are_pairs (x ∷ []) = false
are_pairs (x ∷ y ∷ xs) = are_pairs xs

-- each two numbers as a factor and a row
abbrev pub paired : List ℕ → List Part
paired [] = []
paired (x ∷ []) = []
paired (factor ∷ row ∷ numbers) = record { factor = factor; row = row } ∷ paired numbers

-- ---- steps

-- A clause step is literals, `0`, hints and `0`. The form of all tokens is looked at before the first value.
abbrev pub clause_step : List (List (List ℕ)) → Result Step LogKind
clause_step (clause ∷ hints ∷ [] ∷ []) = do
  written ← check (list_all is_literal clause && list_all is_count hints) BadLine
  small ← check (list_all is_small_variable clause && list_all is_small_number hints) BadNumber
  Ok (Clause (map literal clause) (map number hints))
clause_step _ = Err BadLine

-- A linear step is factors and rows in turn, `0` and the divisor.
abbrev pub linear_step : List (List (List ℕ)) → Result Step LogKind
linear_step (parts ∷ (divisor ∷ []) ∷ []) = do
  written ← check (list_all is_count parts && (are_pairs parts && is_count divisor)) BadLine
  small ← check (list_all is_small_number parts && is_small_number divisor) BadNumber
  Ok (Linear (paired (map number parts)) (number divisor))
linear_step _ = Err BadLine

-- In version 2 the first token says which kind of step the others are.
abbrev pub marked_step : List (List ℕ) → Result Step LogKind
marked_step [] = Err BadLine
marked_step (mark ∷ tokens) =
    if bytes_eq mark (codes "c") then clause_step (groups_of tokens)
    else (if bytes_eq mark (codes "l") then linear_step (groups_of tokens) else Err BadLine)

-- the step that tokens write
abbrev pub step_of : Version → List (List ℕ) → Result Step LogKind
step_of One tokens = clause_step (groups_of tokens)
step_of Two tokens = marked_step tokens

-- the step that a line writes
abbrev pub step_line : Version → List ℕ → Result Step LogKind
step_line version text = step_of version (tokens_of text)
