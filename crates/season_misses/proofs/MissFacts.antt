-- Which constraints are missed, in which order they are told, and what a season lacks, worked by hand.
use Rattle.std.proofs.Common.{◌≡◌, ℕ, Bool, List, [], ◌∷◌, codes, refl, true, false}
use Rattle.std.specs.Fmt.{digits}
use Rattle.league.specs.declared.game.Game.{Game}
use Rattle.season_misses.specs.Lacks.{lack_at, lacks_text}
use Rattle.season_misses.specs.Misses.{counts_text, cut_lines, gravest_first}
use Rattle.season_misses.specs.declared.miss.Miss.{Miss}
use Rattle.season_misses.specs.declared.structure.Lack.TheVariants.{Meeting, Cell, Early}
use Rattle.season_misses.proofs.LineFacts.{game, names}

abbrev miss : ℕ → Bool → ℕ → Miss
miss place hard cost = record { place = place; hard = hard; deviation = 1; cost = cost }

-- hard ones first, then what costs more, then what stands earlier; a hard one that costs nothing too
pub gravest-some : gravest_first (miss 0 false 9 ∷ miss 1 true 0 ∷ miss 2 true 3 ∷ miss 3 false 12 ∷ miss 4 true 3 ∷ []) ≡ miss 2 true 3 ∷ miss 4 true 3 ∷ miss 1 true 0 ∷ miss 3 false 12 ∷ miss 0 false 9 ∷ []
gravest-some = refl

pub counts-some : counts_text 5 (miss 1 true 0 ∷ miss 3 false 12 ∷ miss 2 true 3 ∷ []) ≡ codes "missed: 2 hard and 1 soft of 5 constraints\n"
unfolding digits
counts-some = refl

pub cut-some : (cut_lines (codes "  ") (codes " more") 1 (codes "a" ∷ codes "b" ∷ codes "c" ∷ []) ≡ codes "  a\n  and 2 more\n")
    × (cut_lines (codes "  ") (codes " more") 3 (codes "a" ∷ codes "b" ∷ codes "c" ∷ []) ≡ codes "  a\n  b\n  c\n")
    × (cut_lines (codes "    ") (codes " teams more") 0 (codes "a" ∷ []) ≡ codes "    and 1 teams more\n")
unfolding digits
cut-some = (refl, refl, refl)

-- 0-1 twice in slot 0, and back in slot 2, of four teams: the first half has slots 0 to 2
abbrev played : List Game
played = game 0 1 0 ∷ game 0 1 0 ∷ game 1 0 2 ∷ []

pub lacks-some : (lack_at Meeting 4 names played 0 1 ≡ codes "Ajax at home to Brug: 2 times, Ajax - Brug (0), Ajax - Brug (0)" ∷ [])
    × (lack_at Meeting 4 names played 1 0 ≡ []) × (lack_at Meeting 4 names played 0 0 ≡ [])
    × (lack_at Meeting 4 names played 0 3 ≡ codes "Ajax at home to Dam: no game" ∷ [])
    × (lack_at Cell 4 names played 1 0 ≡ codes "Brug in slot 0: 2 games, Ajax - Brug (0), Ajax - Brug (0)" ∷ [])
    × (lack_at Cell 4 names played 1 2 ≡ []) × (lack_at Cell 4 names played 1 3 ≡ codes "Brug in slot 3: no game" ∷ [])
    × (lack_at Early 4 names played 0 1 ≡ codes "Ajax and Brug in the first half: 3 games, Ajax - Brug (0), Ajax - Brug (0), Brug - Ajax (2)" ∷ [])
    × (lack_at Early 4 names played 1 0 ≡ []) × (lack_at Early 4 names played 2 3 ≡ codes "Club and Dam in the first half: no game" ∷ [])
unfolding digits
lacks-some = (refl, refl, refl, refl, refl, refl, refl, refl, refl, refl)

-- two teams that meet once: the other meeting and slot 1 are lacking; of counts that are all 0 nothing is told
pub lacks_text-two : (lacks_text 2 false names 2 (game 0 1 0 ∷ []) (record { pairs_wrong = 1; cells_wrong = 2; phases_wrong = 0 }) ≡ codes "no double round robin:\n  Brug at home to Ajax: no game\n  Ajax in slot 1: no game\n  and 1 more\n\n")
    × (lacks_text 2 false names 2 (game 0 1 0 ∷ []) (record { pairs_wrong = 0; cells_wrong = 0; phases_wrong = 0 }) ≡ [])
unfolding digits
lacks_text-two = (refl, refl)
