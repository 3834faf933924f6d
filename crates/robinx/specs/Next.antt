-- What `next` answers of the pieces that are left.
use Rattle.std.specs.Prelude.{◌≡◌, ◌<◌, ℕ, List, [], ◌∷◌, length, Option, Some, None, Result, Ok, Err}
use Rattle.robinx.specs.Pieces.{Piece, Pieces, none_but, fault_after, onto, Ends}
use Rattle.robinx.specs.Tags.{without_memory}
use Rattle.robinx.specs.SeenTag.{view_of}
use Rattle.robinx.specs.declared.tag_fault.TagFault.{TagFault}
use Rattle.robinx.specs.declared.tag_fault.TagFault.TheVariants.{Form, Mem}
use Rattle.robinx.specs.declared.tag.Tag.{Tag}

-- how many whole attributes what comes next has, up to its end or its fault
abbrev pub attributes_next : List Piece → ℕ → ℕ
attributes_next [] before_fault = before_fault
attributes_next (piece ∷ others) before_fault = length piece.attributes

-- What comes next takes memory: it is a tag with a ninth attribute before its end or its fault.
abbrev pub TakesMemory : Pieces → Type 0
TakesMemory left = without_memory < attributes_next left.items left.before_fault

-- The answer, with what was left before and what is left now: only a piece that is given is taken off.
abbrev pub GivesNext : Pieces → Result (Option Tag) TagFault → Pieces → Type 0
GivesNext left (Ok (Some tag)) now = left ≡ onto (view_of tag) now
GivesNext left (Ok None) now = (now ≡ left) × ((line : ℕ) × (left ≡ none_but (Ends line)))
GivesNext left (Err (Form kind line)) now = (now ≡ left) × (left ≡ fault_after left.before_fault kind line)
GivesNext left (Err Mem) now = (now ≡ left) × TakesMemory left
