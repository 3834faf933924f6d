-- A file that is handed on in pieces.
use Rattle.std.specs.Prelude.{List, ℕ, Option}
use Rattle.std.specs.Io.KnownBytes.{Appends, Consumes}

-- of the bytes of a file some were handed on, and the others are left
abbrev pub IsHanded : Option (List ℕ) → Option (List ℕ) → Option (List ℕ) → Option (List ℕ) → Type 0
IsHanded file left before now = (done : List ℕ) × Consumes file left done × Appends before now done
