-- The slots of a season cut into the blocks of a grid.
use Rattle.std.specs.Prelude.{ℕ, ◌+◌, ◌-◌, ◌*◌, ◌/◌, nat_le, if◌then◌else◌, List, [], ◌∷◌, ◌++◌, map, min}
use Rattle.std.specs.List.{range_with_len}
use Rattle.league.specs.Counts.{slot_count}
use Rattle.command_show.specs.declared.blocks.Block.{Block}

-- how many parts of at most so many make up the whole
abbrev pub parts_of : ℕ → ℕ → ℕ
parts_of whole most = (whole + most - 1) / most

-- as few blocks of one width as it takes, of which the last may be narrower, for so many slots from one on
abbrev pub cut : ℕ → ℕ → ℕ → List Block
cut first slots room =
    let blocks = parts_of slots room in
    let width = parts_of slots blocks in
    map (λ k. record { first = first + k * width; slots = min width (slots - k * width) }) (range_with_len 0 blocks)

-- the blocks of a season, where so many slots have room beside each other: one where all have, or else each half by
-- itself
abbrev pub blocks_of : ℕ → ℕ → List Block
blocks_of n room =
    if nat_le (slot_count n) room
    then record { first = 0; slots = slot_count n } ∷ []
    else cut 0 (n - 1) room ++ cut (n - 1) (n - 1) room
