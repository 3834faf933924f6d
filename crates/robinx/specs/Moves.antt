-- What the parts of `next` answer, from a place of the file on.
use Rattle.std.specs.Prelude.{◌≡◌, ℕ, List, [], Option, Some, None, option_map, Result, Ok, Err}
use Rattle.std.specs.Borrow.{Bor}
use Rattle.robinx.specs.Pieces.{Pieces, pieces_from, none_but, fault_after, onto, with_piece, Ends}
use Rattle.robinx.specs.SeenTag.{view_of}
use Rattle.robinx.specs.Next.{TakesMemory}
use Rattle.robinx.specs.declared.tag_fault.TagFault.{TagFault}
use Rattle.robinx.specs.declared.tag_fault.TagFault.TheVariants.{Form, Mem}
use Rattle.robinx.specs.declared.tag.Tag.{Tag}

-- what the way to the next piece answers, with the line and the bytes after it
abbrev pub MovesOn : Pieces → Result (Option Tag × ℕ × Bor (List ℕ)) TagFault → Type 0
MovesOn left (Ok (Some tag, line, rest)) = left ≡ onto (view_of tag) (pieces_from line 0 rest.now)
MovesOn left (Ok (None, line, rest)) = (rest.now ≡ []) × (left ≡ none_but (Ends line))
MovesOn left (Err (Form kind line)) = left ≡ fault_after left.before_fault kind line
MovesOn left (Err Mem) = TakesMemory left

-- what one step answers, which may pass something over
abbrev pub PassesOver : Pieces → Result (Option Tag × ℕ × Bor (List ℕ)) TagFault → Type 0
PassesOver left (Ok (found, line, rest)) = left ≡ with_piece (option_map view_of found) (pieces_from line 0 rest.now)
PassesOver left (Err (Form kind line)) = left ≡ fault_after left.before_fault kind line
PassesOver left (Err Mem) = TakesMemory left
