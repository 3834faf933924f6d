-- Blocks hold each slot once, and fit into the season.
use Rattle.std.proofs.Common.{◌≡◌, ℕ, zero, suc, ◌+◌, ◌-◌, ◌*◌, ◌<◌, ◌≤◌, min, List, [], ◌∷◌, ◌++◌, map, get_or, inl, inr, sym, ap, ◌∙◌, arith, append_assoc, zero-add}
use Rattle.std.specs.Prelude.{nat_le}
use Rattle.std.specs.List.{All, flat_map, range_with_len}
use Rattle.std.proofs.lemmas.Bool.{cases_lt, cond-true, cond_both, le-leb}
use Rattle.std.proofs.lemmas.List.{append-nil}
use Rattle.std.proofs.lemmas.List.Elements.{All-append, All-cons, All-map, All-nil}
use Rattle.std.proofs.lemmas.List.FromFn.{get_or-range_with_len, length-range_with_len, map-range_with_len_more}
use Rattle.std.proofs.lemmas.Grind.{flat_map-append}
use Rattle.std.proofs.lemmas.Nat.{div_below, le-div, mul-le}
use Rattle.league.specs.Counts.{slot_count, slots_of}
use Rattle.command_show.specs.declared.blocks.Block.{Block}
use Rattle.command_show.specs.Blocks.{blocks_of, cut, parts_of}
use Rattle.command_show.specs.Grid.{slots_in}
use Rattle.command_show.specs.Laws.{BlocksHoldSlots}

-- ---- parts

-- the parts make up the whole
parts_cover : (whole most : ℕ) → 0 < most → whole ≤ parts_of whole most * most
parts_cover whole most h = omega arith

-- there is one at least
pub parts_some : (whole most : ℕ) → 0 < whole → 0 < most → 0 < parts_of whole most
parts_some whole most h some = le-div 1 (whole + most - 1) most some (omega arith)

-- a part begins within the whole
part_begins : (whole most k : ℕ) → 0 < whole → 0 < most → k < parts_of whole most → k * most < whole
part_begins whole most k h some within =
    let parts = parts_of whole most in
    let so_far : (k + 1) * most ≤ parts * most = mul-le (k + 1) most parts most (omega arith) (omega arith) in
    let whole_of : parts * most ≤ whole + most - 1 = omega arith in
    omega (arith, so_far, whole_of)

-- the width of as many blocks as it takes is within the room
width_within : (slots room : ℕ) → 0 < slots → 0 < room → parts_of slots (parts_of slots room) ≤ room
width_within slots room h some =
    let blocks = parts_of slots room in
    let any : 0 < blocks = parts_some slots room h some in
    let cover : slots ≤ blocks * room = parts_cover slots room some in
    let below : parts_of slots blocks < room + 1 = div_below (slots + blocks - 1) blocks (room + 1) any (omega (arith, any, cover)) in
    omega (arith, below)

-- each block begins within the slots
pub block_begins : (slots room k : ℕ) → 0 < slots → 0 < room → k < parts_of slots room → k * parts_of slots (parts_of slots room) < slots
block_begins slots room k h some within =
    omega (arith, part_begins slots room k h some within, mul-le k (parts_of slots (parts_of slots room)) k room (omega arith) (width_within slots room h some))

-- ---- ranges

range_append : (a x y : ℕ) → range_with_len a (x + y) ≡ range_with_len a x ++ range_with_len (a + x) y
range_append a zero y =
    let none : zero + y ≡ y = omega arith in
    let same : a ≡ a + zero = omega arith in
    ap (range_with_len a) none ∙ ap (λ b. range_with_len b y) same
range_append a (suc x) y =
    let more : suc x + y ≡ suc (x + y) = omega arith in
    let from : a + 1 + x ≡ a + suc x = omega arith in
    ap (range_with_len a) more
    ∙ ap (λ xs. a ∷ xs) (range_append (a + 1) x y ∙ ap (λ b. range_with_len (a + 1) x ++ range_with_len b y) from)

-- ---- blocks

-- a block of so many slots from one on
abbrev pub cut_block : ℕ → ℕ → ℕ → ℕ → Block
cut_block first slots width k = record { first = first + k * width; slots = min width (slots - k * width) }

-- one block more
pub block_added : (first slots width k : ℕ) (old found now : List Block) (block : Block)
    → found ≡ old ++ map (cut_block first slots width) (range_with_len 0 k) → now ≡ found ++ block ∷ []
    → block ≡ cut_block first slots width k → now ≡ old ++ map (cut_block first slots width) (range_with_len 0 (k + 1))
block_added first slots width k old found now block so_far added is =
    let before = map (cut_block first slots width) (range_with_len 0 k) in
    added
    ∙ ap (λ xs. xs ++ block ∷ []) so_far
    ∙ append_assoc old before (block ∷ [])
    ∙ ap (λ b. old ++ (before ++ b ∷ [])) is
    ∙ ap (λ xs. old ++ xs) (sym (map-range_with_len_more (cut_block first slots width) 0 k k (zero-add k)))

-- the slots before a block and those of the block
glue : (first slots width before after : ℕ) → after ≡ before + width → range_with_len first (min slots before) ++ range_with_len (first + before) (min width (slots - before)) ≡ range_with_len first (min slots after)
glue first slots width before after is =
    elim (cases_lt before slots) [
      | inl h ↦
          let all : min slots before ≡ before = omega arith in
          let longer : before + min width (slots - before) ≡ min slots after = omega arith in
          ap (λ x. range_with_len first x ++ range_with_len (first + before) (min width (slots - before))) all
          ∙ sym (range_append first before (min width (slots - before)))
          ∙ ap (range_with_len first) longer
      | inr h ↦
          let none : min width (slots - before) ≡ 0 = omega arith in
          let same : min slots before ≡ min slots after = omega arith in
          ap (λ x. range_with_len first (min slots before) ++ range_with_len (first + before) x) none
          ∙ append-nil (range_with_len first (min slots before))
          ∙ ap (range_with_len first) same
    ]

-- the slots of the first k blocks
slots_so_far : (first slots width k : ℕ) → flat_map slots_in (map (cut_block first slots width) (range_with_len 0 k)) ≡ range_with_len first (min slots (k * width))
slots_so_far first slots width zero =
    let none : 0 ≡ min slots (zero * width) = omega arith in ap (range_with_len first) none
slots_so_far first slots width (suc k) =
    let one : suc k ≡ k + 1 = omega arith in
    let blocks = map (cut_block first slots width) (range_with_len 0 k) in
    let next = cut_block first slots width k in
    ap (λ l. flat_map slots_in (map (cut_block first slots width) (range_with_len 0 l))) one
    ∙ ap (flat_map slots_in) (map-range_with_len_more (cut_block first slots width) 0 k k (zero-add k))
    ∙ flat_map-append slots_in blocks (next ∷ [])
    ∙ ap (λ xs. flat_map slots_in blocks ++ xs) (append-nil (slots_in next))
    ∙ ap (λ xs. xs ++ slots_in next) (slots_so_far first slots width k)
    ∙ glue first slots width (k * width) (suc k * width) (omega arith)

cut_slots : (first slots room : ℕ) → 0 < slots → 0 < room → flat_map slots_in (cut first slots room) ≡ range_with_len first slots
cut_slots first slots room h some =
    let blocks = parts_of slots room in
    let width = parts_of slots blocks in
    let cover : slots ≤ width * blocks = parts_cover slots blocks (parts_some slots room h some) in
    let all : min slots (blocks * width) ≡ slots = omega (arith, cover) in
    slots_so_far first slots width blocks ∙ ap (range_with_len first) all

pub blocks_hold : BlocksHoldSlots
blocks_hold n room h some =
    cond_both (nat_le (slot_count n) room) (record { first = 0; slots = slot_count n } ∷ []) (cut 0 (n - 1) room ++ cut (n - 1) (n - 1) room)
    (λ blocks. flat_map slots_in blocks ≡ slots_of n)
    (λ _. append-nil (slots_of n))
    (λ _.
    let half : (n - 1) + (n - 1) ≡ slot_count n = omega arith in
    flat_map-append slots_in (cut 0 (n - 1) room) (cut (n - 1) (n - 1) room)
    ∙ ap (λ xs. xs ++ flat_map slots_in (cut (n - 1) (n - 1) room)) (cut_slots 0 (n - 1) room (omega arith) some)
    ∙ ap (λ xs. range_with_len 0 (n - 1) ++ xs) (cut_slots (n - 1) (n - 1) room (omega arith) some)
    ∙ ap (λ a. range_with_len 0 (n - 1) ++ range_with_len a (n - 1)) (sym (zero-add (n - 1)))
    ∙ sym (range_append 0 (n - 1) (n - 1))
    ∙ ap (range_with_len 0) half)

-- whether the slots of a block are slots of the season
abbrev pub IsWithin : ℕ → Block → Type 0
IsWithin n block = block.first + block.slots ≤ slot_count n

cut_within : (n first slots room : ℕ) → first + slots ≤ slot_count n → 0 < slots → 0 < room → All (IsWithin n) (cut first slots room)
cut_within n first slots room fits h some =
    let blocks = parts_of slots room in
    let width = parts_of slots blocks in
    All-map (IsWithin n) (cut_block first slots width) (range_with_len 0 blocks)
    (λ k d l.
    let within : k < blocks = omega (arith, l, length-range_with_len 0 blocks) in
    let place : get_or (range_with_len 0 blocks) k d * width ≡ k * width =
    ap (λ x. x * width) (get_or-range_with_len 0 blocks k d within ∙ zero-add k) in
    omega (arith, fits, place, block_begins slots room k h some within))

pub blocks_within : (n room : ℕ) → 1 < n → 0 < room → All (IsWithin n) (blocks_of n room)
blocks_within n room h some =
    cond_both (nat_le (slot_count n) room) (record { first = 0; slots = slot_count n } ∷ []) (cut 0 (n - 1) room ++ cut (n - 1) (n - 1) room)
    (All (IsWithin n))
    (λ _. All-cons (IsWithin n) (record { first = 0; slots = slot_count n }) [] (omega arith) (All-nil (IsWithin n)))
    (λ _.
    All-append (IsWithin n) (cut 0 (n - 1) room) (cut (n - 1) (n - 1) room)
    (cut_within n 0 (n - 1) room (omega arith) (omega arith) some)
    (cut_within n (n - 1) (n - 1) room (omega arith) (omega arith) some))

-- more room than a season has slots makes no other blocks
pub blocks_of-most : (n room : ℕ) → n ≤ 40 → blocks_of n (min room 78) ≡ blocks_of n room
blocks_of-most n room small =
    elim (cases_lt room 78) [
      | inl h ↦ let same : min room 78 ≡ room = omega arith in ap (blocks_of n) same
      | inr h ↦
          let one : List Block = record { first = 0; slots = slot_count n } ∷ [] in
          let halves = λ (k : ℕ). cut 0 (n - 1) k ++ cut (n - 1) (n - 1) k in
          cond-true (nat_le (slot_count n) (min room 78)) one (halves (min room 78)) (le-leb (slot_count n) (min room 78) (omega arith))
          ∙ sym (cond-true (nat_le (slot_count n) room) one (halves room) (le-leb (slot_count n) room (omega arith)))
    ]
