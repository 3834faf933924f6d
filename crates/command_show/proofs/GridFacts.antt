-- Worked parts of grids and a whole one, counted by hand, so that a wrong definition does not check.
use Rattle.std.proofs.Common.{◌≡◌, ℕ, true, false, [], ◌∷◌, refl}
use Rattle.std.specs.Prelude.{codes, nat_lt}
use Rattle.std.specs.Fmt.{digits}
use Rattle.std.specs.Str.{chars}
use Rattle.league.specs.Counts.{Counts, counts_of}
use Rattle.league.specs.declared.game.Game.{Game}
use Rattle.command_show.specs.Widths.{at_right, front_of, line, width_of}
use Rattle.command_show.specs.Cell.{games_text, has_break, is_misphased, many_games}
use Rattle.command_show.specs.Blocks.{blocks_of}
use Rattle.command_show.specs.Tallies.{away_run, breaks_in_all, home_run, longest_run}
use Rattle.command_show.specs.Grid.{Season, grid_text, is_number_alone}
use Rattle.command_show.specs.declared.blocks.Block.{Block}

abbrev game : ℕ → ℕ → ℕ → Game
game i j s = record { home = record { 0 = i }; away = record { 0 = j }; slot = record { 0 = s } }

-- ---- texts

pub at_right-some : (at_right 3 (codes "12") ≡ codes " 12") × (at_right 1 (codes "12") ≡ codes "12")
at_right-some = (refl, refl)

pub line-some : (line (codes "a b  ") ≡ codes "a b\n") × (line (codes "  ") ≡ codes "\n")
line-some = (refl, refl)

-- é has two bytes and is one character
pub width_of-some : (width_of (195 ∷ 169 ∷ 97 ∷ []) ≡ 2) × (front_of 1 (195 ∷ 169 ∷ 97 ∷ []) ≡ 195 ∷ 169 ∷ []) × (front_of 5 (codes "ab") ≡ codes "ab")
unfolding chars lib.Utf8.encode
width_of-some = (refl, refl, refl)

-- ---- blocks

abbrev block : ℕ → ℕ → Block
block first slots = record { first = first; slots = slots }

-- all six slots have room, or five have: then each half has
pub blocks_of-four : (blocks_of 4 6 ≡ block 0 6 ∷ []) × (blocks_of 4 5 ≡ block 0 3 ∷ block 3 3 ∷ []) × (blocks_of 4 2 ≡ block 0 2 ∷ block 2 1 ∷ block 3 2 ∷ block 5 1 ∷ [])
blocks_of-four = (refl, refl, refl)

-- twenty teams on 80 columns, without names and with names of 20 characters: 19 slots in 10 and 9
pub blocks_of-twenty : (blocks_of 20 18 ≡ block 0 10 ∷ block 10 9 ∷ block 19 10 ∷ block 29 9 ∷ []) × (blocks_of 20 14 ≡ block 0 10 ∷ block 10 9 ∷ block 19 10 ∷ block 29 9 ∷ [])
blocks_of-twenty = (refl, refl)

-- forty teams: three blocks of 13 in each half, and one of 39 on 200 columns
pub blocks_of-forty : (blocks_of 40 18 ≡ block 0 13 ∷ block 13 13 ∷ block 26 13 ∷ block 39 13 ∷ block 52 13 ∷ block 65 13 ∷ []) × (blocks_of 40 44 ≡ block 0 39 ∷ block 39 39 ∷ [])
blocks_of-forty = (refl, refl)

-- ---- cells

-- team 0 is at home to 1, away at 2, twice at home in slot 2, and free in slot 3
abbrev some_games : Counts
some_games = counts_of (game 0 1 0 ∷ game 2 0 1 ∷ game 0 1 2 ∷ game 0 3 2 ∷ [])

pub games_text-some : (games_text 4 some_games 0 0 ≡ codes "1") × (games_text 4 some_games 0 1 ≡ codes "@2") × (games_text 4 some_games 0 2 ≡ codes "#2") × (games_text 4 some_games 0 3 ≡ codes "-")
unfolding digits
games_text-some = (refl, refl, refl, refl)

pub many_games-some : (many_games 9 ≡ codes "#9") × (many_games 10 ≡ codes "#+")
unfolding digits
many_games-some = (refl, refl)

-- a home game, an away game and a home game in a row
pub has_break-none : (has_break 4 some_games 0 1 ≡ false) × (has_break 4 some_games 0 2 ≡ false)
has_break-none = (refl, refl)

pub has_break-some : (has_break 4 (counts_of (game 0 1 0 ∷ game 0 2 1 ∷ [])) 0 1 ≡ true) × (has_break 4 (counts_of (game 1 0 4 ∷ game 2 0 5 ∷ [])) 0 5 ≡ true) × (has_break 4 (counts_of (game 0 1 0 ∷ game 0 2 1 ∷ [])) 0 0 ≡ false)
has_break-some = (refl, refl, refl)

-- 0 and 1 meet twice in the first half, slots 0 to 2, at either venue; 0 and 2 once
pub is_misphased-some : (is_misphased 4 (counts_of (game 0 1 0 ∷ game 1 0 2 ∷ game 0 2 1 ∷ [])) 1 2 ≡ true) × (is_misphased 4 (counts_of (game 0 1 0 ∷ game 1 0 2 ∷ game 0 2 1 ∷ [])) 0 1 ≡ false) × (is_misphased 4 (counts_of (game 0 1 4 ∷ [])) 0 4 ≡ true)
is_misphased-some = (refl, refl, refl)

-- ---- what is counted

pub longest_run-some : (longest_run (λ s. nat_lt s 3) (0 ∷ 5 ∷ 1 ∷ 2 ∷ 7 ∷ []) ≡ 2) × (longest_run (λ s. nat_lt s 3) (7 ∷ []) ≡ 0)
longest_run-some = (refl, refl)

-- Dam of the worked season: HHAAHA
abbrev dam : Counts
dam = counts_of (game 3 0 0 ∷ game 3 2 1 ∷ game 1 3 2 ∷ game 0 3 3 ∷ game 3 1 4 ∷ game 2 3 5 ∷ [])

pub runs-dam : (breaks_in_all 4 dam 3 ≡ 2) × (home_run 4 dam 3 ≡ 2) × (away_run 4 dam 3 ≡ 2)
runs-dam = (refl, refl, refl)

-- ---- a whole grid

pub is_number_alone-some : (is_number_alone 5 (codes "5") ≡ true) × (is_number_alone 5 (codes "Slot 5") ≡ true) × (is_number_alone 5 [] ≡ true) × (is_number_alone 5 (codes "Slot 6") ≡ false)
unfolding digits
is_number_alone-some = (refl, refl, refl, refl)

abbrev two : Season
two = record {
  n = 2;
  phased = false;
  counts = counts_of (game 0 1 0 ∷ game 1 0 1 ∷ []);
  names = record { teams = codes "A" ∷ codes "B" ∷ []; slots = codes "May" ∷ [] ∷ [] };
}

pub grid_text-two : grid_text two 80 ≡
    codes "slot  0  1\n0 A   1 @1\n1 B  @0  0\n\n@ away   * break: at home, or away, twice in a row   - no game   #2 two games\nslot 0 is May\n\nteam  home 1st  home 2nd  breaks  run home  run away\n0 A          1         0       0         1         1\n1 B          0         1       0         1         1\n"
unfolding digits chars lib.Utf8.encode
grid_text-two = refl
