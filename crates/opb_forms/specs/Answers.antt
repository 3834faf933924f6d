-- What the reader answers of what is read. Want of memory says nothing of it.
use Rattle.std.specs.Prelude.{◌≡◌, ℕ, List, [], ◌∷◌, ◌++◌, Option, Some, None, option_map, Result, Ok, Err, Vec}
use Rattle.rows.specs.Literals.{Literal}
use Rattle.opb_forms.specs.declared.fault.ValuesFault.{ValuesFault}
use Rattle.opb_forms.specs.declared.fault.ValuesFault.TheVariants.{Form, Mem}
use Rattle.opb_forms.specs.declared.fault.WordFault.{WordFault}
use Rattle.opb_forms.specs.declared.fault.WordFault.TheVariants as word

-- the answer to a whole file
abbrev pub SaysFault : Result (List Literal) ℕ → ValuesFault → Type 0
SaysFault said (Form line) = said ≡ Err line
SaysFault said Mem = Unit {0}

abbrev pub SaysValues : {Z : Type 0} → Result (List Literal) ℕ → Result (Vec Literal Z) ValuesFault → Type 0
SaysValues said (Ok lits) = said ≡ Ok lits.items
SaysValues said (Err fault) = SaysFault said fault

-- the literal that a word is, alone
abbrev pub seen : Option Literal → Option (List Literal)
seen None = None
seen (Some l) = Some (l ∷ [])

-- what is said, with some literals in front of it
abbrev pub behind : List Literal → Option (List Literal) → Option (List Literal)
behind lits said = option_map (λ more. lits ++ more) said

-- literals were added: those that are said, unless a word is none
abbrev pub Adds : Option (List Literal) → List Literal → List Literal → Result (Unit {0}) WordFault → Type 0
Adds said old new (Ok done) = behind old said ≡ Some new
Adds said old new (Err word.Wrong) = said ≡ None
Adds said old new (Err word.Mem) = Unit {0}

-- literals were added of the line of a number: those that are said, unless a word is none
abbrev pub AddsLine : Option (List Literal) → ℕ → List Literal → List Literal → Result (Unit {0}) ValuesFault → Type 0
AddsLine said line old new (Ok done) = behind old said ≡ Some new
AddsLine said line old new (Err (Form number)) = (said ≡ None) × (number ≡ line)
AddsLine said line old new (Err Mem) = Unit {0}
