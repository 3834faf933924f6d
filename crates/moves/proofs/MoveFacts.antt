-- Worked moves on the canonical double round robin of four teams, so that a wrong definition of a move does not check.
use Rattle.std.proofs.Common.{◌≡◌, ℕ, true, false, List, [], ◌∷◌, length, map, refl}
use Rattle.moves.specs.Neighbours.{all_moves, home_swap, part_round_swap, part_team_swap, round_swap, team_swap}
use Rattle.league.specs.Counts.{Counts, counts_of}
use Rattle.league.specs.Structure.{pairs_wrong, cells_wrong, phases_wrong}
use Rattle.league.specs.declared.game.Game.{Game}
use Rattle.league.proofs.DoubleFour.{four, eleven, last_game}
use Rattle.moves.specs.Moves.{game, moved, relabel, teams_linked, slots_linked, IsInOwnRange}
use Rattle.moves.specs.declared.swap.Swap.{Swap}

abbrev games : List Game
games = last_game ∷ eleven

abbrev after : Swap → List Game
after step = map (relabel 4 four step) games

abbrev wrongs : Counts → ℕ × ℕ × ℕ
wrongs m = (pairs_wrong 4 m, cells_wrong 4 m, phases_wrong 4 true m)

-- takes out (3,0,0) and (0,3,3), puts in (0,3,0) and (3,0,3)
home_swap-games : after (home_swap (0, 3)) ≡ game 1 0 5 ∷ game 0 3 0 ∷ game 1 2 0 ∷ game 1 3 1 ∷ game 2 0 1 ∷ game 3 2 2 ∷ game 0 1 2 ∷ game 3 0 3 ∷ game 2 1 3 ∷ game 3 1 4 ∷ game 0 2 4 ∷ game 2 3 5 ∷ []
home_swap-games = refl

-- in no phased round robin, since slots 2 and 3 are in two halves
round_swap-wrongs : wrongs (moved 4 four (round_swap (2, 3))) ≡ (0, 0, 4)
round_swap-wrongs = refl

-- the slots of the cycle
part_team_swap-slots : slots_linked 4 four 0 1 0 ≡ 0 ∷ 4 ∷ []
part_team_swap-slots = refl

part_team_swap-games : after (part_team_swap (0, 1) 0) ≡ game 1 0 5 ∷ game 3 1 0 ∷ game 0 2 0 ∷ game 1 3 1 ∷ game 2 0 1 ∷ game 3 2 2 ∷ game 0 1 2 ∷ game 0 3 3 ∷ game 2 1 3 ∷ game 3 0 4 ∷ game 1 2 4 ∷ game 2 3 5 ∷ []
part_team_swap-games = refl

part_team_swap-wrongs : wrongs (moved 4 four (part_team_swap (0, 1) 0)) ≡ (0, 0, 4)
part_team_swap-wrongs = refl

-- teams 0 and 3 meet in slot 0
part_team_swap-mutual : IsInOwnRange four (part_team_swap (0, 3) 0) → ⊥
part_team_swap-mutual own = let h : true ≡ false = own.1 in cc

part_round_swap-teams : teams_linked 4 four 0 0 1 ≡ 0 ∷ 1 ∷ 2 ∷ 3 ∷ []
part_round_swap-teams = refl

-- teams 0 and 2 meet in slots 1 and 4, in either half: a legal move of a phased league, which is a home swap
part_round_swap-pair : teams_linked 4 four 0 1 4 ≡ 0 ∷ 2 ∷ []
part_round_swap-pair = refl

part_round_swap-wrongs : wrongs (moved 4 four (part_round_swap 0 (1, 4))) ≡ (0, 0, 0)
part_round_swap-wrongs = refl

team_swap-wrongs : wrongs (moved 4 four (team_swap (1, 2))) ≡ (0, 0, 0)
team_swap-wrongs = refl

-- the two slots of a league of two teams hold the same pair, so that a phased league takes their exchange
abbrev two_teams : Counts
two_teams = moved 2 (counts_of (game 1 0 0 ∷ game 0 1 1 ∷ [])) (round_swap (0, 1))

two_teams-wrongs : phases_wrong 2 true two_teams ≡ 0
two_teams-wrongs = refl

-- a league of two teams has seven moves
all_moves-two : all_moves 2 ≡ home_swap (0, 1) ∷ round_swap (0, 1) ∷ team_swap (0, 1) ∷ part_round_swap 0 (0, 1) ∷ part_round_swap 1 (0, 1) ∷ part_team_swap (0, 1) 0 ∷ part_team_swap (0, 1) 1 ∷ []
all_moves-two = refl

all_moves-four : length (all_moves 4) ≡ 123
all_moves-four = refl

all_moves-six : length (all_moves 6) ≡ 495
all_moves-six = refl

all_moves-eight : length (all_moves 8) ≡ 1267
all_moves-eight = refl

-- the teams of a league of two never play another team, so that their exchange changes nothing, and is legal
team_swap-two : map (relabel 2 (counts_of (game 1 0 0 ∷ game 0 1 1 ∷ [])) (team_swap (0, 1))) (game 1 0 0 ∷ game 0 1 1 ∷ []) ≡ game 1 0 0 ∷ game 0 1 1 ∷ []
team_swap-two = refl
