-- What a contract sees of items.
use Rattle.std.specs.Prelude.{◌≡◌, true}
use Rattle.answers.specs.Printable.{is_letter, is_plain}
use Rattle.answers.specs.declared.items.Item.{Item}
use Rattle.answers.specs.declared.items.Item.TheVariants.{Plain, LineEnd, Letter, Other}

-- an item's bytes are what it says
abbrev pub IsItem : Item → Type 0
IsItem (Plain b) = is_plain b ≡ true
IsItem LineEnd = Unit {0}
IsItem (Letter b c) = is_letter b c ≡ true
IsItem (Other b) = Unit {0}
