-- What stands first in a line or in what is left of it.
use Rattle.std.specs.Prelude.{◌≡◌, ℕ, ◌^◌, ◌<◌, ◌≤◌, Bool, true, false, ◌==◌, List, [], ◌∷◌, length, take}
use Rattle.std.specs.Prelude.{slice_index, Option, Some, None, SomeIff, Result, Ok, Err}
use Rattle.std.specs.List.{list_all}
use Rattle.std.specs.Borrow.{Bor}
use Rattle.std.specs.Char.{is_ascii_digit}
use Rattle.refutation.specs.Lines.{is_count, is_small_number, is_space, is_zero, number, tokens_of}
use Rattle.refutation.specs.declared.fault.LogKind.{LogKind}
use Rattle.refutation.specs.declared.fault.LogKind.TheVariants.{BadLine}
use Rattle.refutation.specs.declared.token.Item.{Item}

-- the tokens behind the space that ends a token, if one does
abbrev pub tokens_left : Option (Bor (List ℕ)) → List (List ℕ)
tokens_left None = []
tokens_left (Some left) = tokens_of left.now

-- the digits in front: all there are, and their number if it fits
pub record AreDigits (bytes : List ℕ) (len : ℕ) (found : Option ℕ) : Type 0 where
  pub within : len ≤ length bytes
  pub digits : list_all is_ascii_digit (take len bytes) ≡ true
  pub longest : len < length bytes → is_ascii_digit (slice_index bytes len) ≡ false
  pub value : SomeIff found (number (take len bytes) < 2 ^ 64) (number (take len bytes))

-- a byte that isn't a space stands first
pub record IsOther (behind : List ℕ) : Type 0 where
  pub byte : ℕ
  pub rest : List ℕ
  pub is : behind ≡ byte ∷ rest
  pub other : is_space byte ≡ false

-- whether a token ends here: at the line's end, or at a space with what is left behind it
abbrev pub EndsToken : List ℕ → Result (Option (Bor (List ℕ))) LogKind → Type 0
EndsToken behind (Ok None) = behind ≡ []
EndsToken behind (Ok (Some left)) = behind ≡ 32 ∷ left.now
EndsToken behind (Err kind) = (kind ≡ BadLine) × IsOther behind

-- what was read of a token: None at `0`, else whether its value is small enough, and the value where it is
abbrev pub Says : {T : Type 0} → (List ℕ → Bool) → (List ℕ → Bool) → (List ℕ → T) → Option (Item T) → List ℕ → Type 0
Says test small value None token = is_zero token ≡ true
Says test small value (Some item) token =
    (is_zero token ≡ false) × (test token ≡ true) × (item.small ≡ small token) ×
    (small token ≡ true → item.value ≡ value token)

-- a token that is neither `0` nor what the test asks for
abbrev pub IsWrong : (List ℕ → Bool) → List ℕ → Type 0
IsWrong test token = (is_zero token ≡ false) × (test token ≡ false)

-- what digits say: `0`, a number, or nothing that may stand there
abbrev pub SaysCount : List ℕ → Result (Option (Item ℕ)) LogKind → Type 0
SaysCount token (Ok read) = Says is_count is_small_number number read token
SaysCount token (Err kind) = (kind ≡ BadLine) × IsWrong is_count token

-- a token stands first
pub record StandsFirst {T : Type 0} (test small : List ℕ → Bool) (value : List ℕ → T) (bytes : List ℕ)
    (read : Option (Item T)) (left : Option (Bor (List ℕ))) : Type 0 where
  pub token : List ℕ
  pub tokens : tokens_of bytes ≡ token ∷ tokens_left left
  pub says : Says test small value read token

-- a wrong token stands first
pub record StandsWrong (test : List ℕ → Bool) (bytes : List ℕ) : Type 0 where
  pub token : List ℕ
  pub others : List (List ℕ)
  pub tokens : tokens_of bytes ≡ token ∷ others
  pub wrong : IsWrong test token

-- the token that stands first, in a line or in what is left of it
abbrev pub FindsToken : {T : Type 0} → (List ℕ → Bool) → (List ℕ → Bool) → (List ℕ → T) → List ℕ
    → Result (Option (Item T) × Option (Bor (List ℕ))) LogKind → Type 0
FindsToken test small value bytes (Ok r) = StandsFirst test small value bytes r.0 r.1
FindsToken test small value bytes (Err kind) = (kind ≡ BadLine) × StandsWrong test bytes

-- no `-` stands in front
abbrev pub IsUnsigned : List ℕ → Type 0
IsUnsigned [] = Unit {0}
IsUnsigned (b ∷ bytes) = (b == 45) ≡ false
