-- A season as a grid: a line a team and a column a slot, and below it what is counted of each team.
use Rattle.std.specs.Prelude.{ℕ, ◌+◌, ◌-◌, ◌/◌, max, Bool, ◌&&◌, ◌||◌, ◌==◌, if◌then◌else◌, List, [], ◌++◌, length}
use Rattle.std.specs.Prelude.{bytes_eq, codes, decimal}
use Rattle.std.specs.List.{flat_map, fold, range_with_len}
use Rattle.league.specs.Counts.{Counts, slots_of, teams_of}
use Rattle.robinx.specs.Names.{Names, team_name, slot_name}
use Rattle.league.specs.Structure.{first_half}
use Rattle.command_show.specs.declared.columns.Columns.{Columns}
use Rattle.command_show.specs.declared.blocks.Block.{Block}
use Rattle.command_show.specs.Widths.{at_right, front_of, line, spaces, width_of}
use Rattle.command_show.specs.Cell.{games_text, has_break, is_misphased, mark}
use Rattle.command_show.specs.Blocks.{blocks_of}
use Rattle.command_show.specs.Tallies.{away_run, breaks_in_all, home_among, home_run, second_half}

-- A season of a league of n teams, phased or not, with the counts of its games and the names of the league.
pub record Season : Type 0 where
  pub n : ℕ
  pub phased : Bool
  pub counts : Counts
  pub names : Names

-- how many digits the number of a team has at most
abbrev pub digits_of : ℕ → ℕ
digits_of n = length (decimal (n - 1))

-- the name of a team in the grid, of at most 20 characters
abbrev pub grid_name : Names → ℕ → List ℕ
grid_name names i = front_of 20 (team_name names i)

-- the width of the widest of them
abbrev pub name_width : ℕ → Names → ℕ
name_width n names = fold (λ widest i. max widest (width_of (grid_name names i))) 0 (teams_of n)

-- the columns of a season's grid: the digits of a team's number, and the width in front of the first cell, which is that
-- of `slot`, or of a number, a space and the widest name, and a space
abbrev pub columns_of : Season → Columns
columns_of s =
    let digits = digits_of s.n in
    let names = name_width s.n s.names in
    record { digits = digits; front = max 4 (digits + (if names == 0 then 0 else 1 + names)) + 1 }

-- a team's number and name, in the width in front of the cells
abbrev pub head : Columns → ℕ → List ℕ → List ℕ
head columns i name =
    at_right columns.digits (decimal i)
    ++ (codes " " ++ (name ++ spaces (columns.front - (columns.digits + 1 + width_of name))))

-- the cell of a team and a slot
abbrev pub cell : Columns → Season → ℕ → ℕ → List ℕ
cell columns s i t =
    at_right (columns.digits + 1) (games_text s.n s.counts i t)
    ++ mark (has_break s.n s.counts i t) (s.phased && is_misphased s.n s.counts i t)

-- the slots of a block
abbrev pub slots_in : Block → List ℕ
slots_in block = range_with_len block.first block.slots

-- the line above a block: the numbers of its slots
abbrev pub slots_line : Columns → Block → List ℕ
slots_line columns block =
    line (codes "slot" ++ (spaces (columns.front - 4)
    ++ flat_map (λ t. at_right (columns.digits + 1) (decimal t) ++ codes " ") (slots_in block)))

-- the line of a team in a block
abbrev pub team_line : Columns → Season → Block → ℕ → List ℕ
team_line columns s block i =
    line (head columns i (grid_name s.names i) ++ flat_map (cell columns s i) (slots_in block))

-- a block: its slots, a line a team, and an empty line
abbrev pub block_text : Columns → Season → Block → List ℕ
block_text columns s block =
    slots_line columns block ++ (flat_map (team_line columns s block) (teams_of s.n) ++ codes "\n")

-- what the signs of the cells mean, and those of a phased league
abbrev pub signs : List ℕ
signs = codes "@ away   * break: at home, or away, twice in a row   - no game   #2 two games\n"

abbrev pub phase_signs : List ℕ
phase_signs = codes "! a pair that doesn't meet just once in the first half   % such a pair and a break\n"

-- the lines that tell them
abbrev pub legend : Bool → List ℕ
legend phased = signs ++ (if phased then phase_signs else [])

-- whether a slot's name says no more than its number
abbrev pub is_number_alone : ℕ → List ℕ → Bool
is_number_alone t name =
    bytes_eq name [] || bytes_eq name (decimal t) || bytes_eq name (codes "Slot " ++ decimal t)

-- the name of a slot, if it says more
abbrev pub slot_line : Names → ℕ → List ℕ
slot_line names t =
    if is_number_alone t (slot_name names t) then []
    else codes "slot " ++ (decimal t ++ (codes " is " ++ (slot_name names t ++ codes "\n")))

-- what is counted of a team
abbrev pub tally : Columns → Season → ℕ → List ℕ
tally columns s i =
    line (head columns i (grid_name s.names i)
    ++ (at_right 9 (decimal (home_among s.n s.counts i (first_half s.n)))
    ++ (at_right 10 (decimal (home_among s.n s.counts i (second_half s.n)))
    ++ (at_right 8 (decimal (breaks_in_all s.n s.counts i))
    ++ (at_right 10 (decimal (home_run s.n s.counts i)) ++ at_right 10 (decimal (away_run s.n s.counts i)))))))

-- the table below the grid
abbrev pub tallies : Columns → Season → List ℕ
tallies columns s =
    codes "team" ++ (spaces (columns.front - 4)
    ++ (codes " home 1st  home 2nd  breaks  run home  run away\n" ++ flat_map (tally columns s) (teams_of s.n)))

-- how many cells have room beside each other on a page of this width: at least one
abbrev pub room : Columns → ℕ → ℕ
room columns width = max 1 ((width - columns.front) / (columns.digits + 2))

-- the grid itself, on a page of this width
abbrev pub blocks_text : Columns → Season → ℕ → List ℕ
blocks_text columns s width = flat_map (block_text columns s) (blocks_of s.n (room columns width))

-- the names of slots that say more than their numbers
abbrev pub slot_lines : Season → List ℕ
slot_lines s = flat_map (slot_line s.names) (slots_of s.n)

-- the whole text on a page of this width
abbrev pub grid_text : Season → ℕ → List ℕ
grid_text s width =
    blocks_text (columns_of s) s width
    ++ (legend s.phased ++ (slot_lines s ++ (codes "\n" ++ tallies (columns_of s) s)))
