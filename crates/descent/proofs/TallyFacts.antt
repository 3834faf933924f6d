-- Worked values, so that a wrong definition does not check: a rule of r entries, of which entry k is k more than how
-- often team 0 is at home to team 1 in slot 0, and a game touches key 0 and the key of its slot's number.
use Rattle.std.proofs.Common.{◌≡◌, ℕ, ◌+◌, true, false, List, [], ◌∷◌, refl}
use Rattle.league.specs.Counts.{Counts}
use Rattle.league.specs.declared.game.Game.{Game}
use Rattle.league.proofs.DoubleFour.{game}
use Rattle.rule_core.specs.declared.rule.Entries.{Ghosts}
use Rattle.descent.specs.Tallies.{all_terms, all_touched, infeasibility_on, objective_on, touched_count, vector_on, with_games}
use Rattle.descent.specs.declared.weighted.Weighted.{Weighted}

abbrev worked : Ghosts ℕ
worked = record { team_count = λ r. 4; term_count = λ r. r; reach_of = λ r. 2; entry = λ r k m. k + m 0 1 0; touches = λ r g. 0 ∷ g.slot.0 ∷ []; watched = λ r t. true }

abbrev ones : Counts
ones i j s = 1

abbrev weights : List (Weighted ℕ)
weights = record { rule = 3; hard = true; penalty = 10 } ∷ record { rule = 2; hard = false; penalty = 5 } ∷ record { rule = 1; hard = true; penalty = 7 } ∷ []

abbrev games : List Game
games = game 0 1 0 ∷ game 1 0 1 ∷ game 0 1 0 ∷ []

pub vector-three : vector_on worked ones 3 ≡ 1 ∷ 2 ∷ 3 ∷ []
vector-three = refl

-- 10 * 6 + 7 * 1
pub infeasibility-hard : infeasibility_on worked ones weights ≡ 67
infeasibility-hard = refl

-- 5 * 3
pub objective-soft : objective_on worked ones weights ≡ 15
objective-soft = refl

-- with two games more in that cell, each of the entries is 2 more
pub infeasibility-more : infeasibility_on worked (with_games ones games) weights ≡ 141
infeasibility-more = refl

pub terms-all : all_terms worked weights ≡ 6
terms-all = refl

-- the keys 0 and 1, each once
pub touched-once : touched_count worked 3 games ≡ 2
touched-once = refl

pub touched-all : all_touched worked weights games ≡ 6
touched-all = refl
