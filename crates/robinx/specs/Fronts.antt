-- Reading from the front of some bytes, from left to right, up to the first fault.
use Rattle.std.specs.Prelude.{ℕ, Bool, true, false, not, if◌then◌else◌, List, [], ◌∷◌, ◌-◌}
use Rattle.std.specs.Prelude.{length, take, drop, Result, Ok, Err}
use Rattle.std.specs.List.{position_or_len, suffix_len}
use Rattle.robinx.specs.Bytes.{is_white}
use Rattle.robinx.specs.declared.tag_fault.FormKind.{FormKind}
use Rattle.robinx.specs.declared.tag_fault.FormKind.TheVariants.{Truncated}

-- what comes next is read unless there was a fault
infixl 10 ◌>>=◌
abbrev pub ◌>>=◌ : {A B F : Type 0} → Result A F → (A → Result B F) → Result B F
(Ok x) >>= f = f x
(Err e) >>= f = Err e

-- what is read at the front of some bytes, with the bytes after it
abbrev pub Front : Type 0 → Type 0
Front A = Result (A × List ℕ) FormKind

-- the next byte, which has to pass the test; the file may not end here
abbrev pub next : FormKind → (ℕ → Bool) → List ℕ → Front ℕ
next kind test [] = Err Truncated
next kind test (b ∷ bytes) = if test b then Ok (b, bytes) else Err kind

-- the bytes before the first that passes the test, or all, and the bytes from it on
abbrev pub until : (ℕ → Bool) → List ℕ → List ℕ × List ℕ
until test bytes = (take (position_or_len test bytes) bytes, drop (position_or_len test bytes) bytes)

-- the bytes after white bytes
abbrev pub after_white : List ℕ → List ℕ
after_white bytes = (until (λ b. not (is_white b)) bytes).1

-- a text without white bytes at both ends
abbrev pub trimmed : List ℕ → List ℕ
trimmed text =
    let rest = after_white text in
    take (length rest - suffix_len is_white rest) rest

-- whether the next byte is white
abbrev pub starts_white : List ℕ → Bool
starts_white [] = false
starts_white (b ∷ bytes) = is_white b

-- the next byte after white bytes, if it passes a test; else a fault
abbrev pub mark : FormKind → (ℕ → Bool) → List ℕ → Front ℕ
mark kind test bytes = next kind test (after_white bytes)

-- a fault of this kind unless the test holds
abbrev pub check : Bool → FormKind → Result (Unit {0}) FormKind
check true kind = Ok tt
check false kind = Err kind
