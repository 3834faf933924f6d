-- Worked examples of the places of numbers and of the keys that they give: each was worked out by hand.
use Rattle.std.proofs.Common.{◌≡◌, ℕ, ◌==◌, ◌||◌, List, [], ◌∷◌, map, replicate, refl, arith}
use Rattle.league.specs.Meetings.{pairs_of}
use Rattle.rule_core.specs.KeptPairs.{first_key, key_at}
use Rattle.rule_core.specs.Keys.{keys_where}
use Rattle.rule_core.specs.Pairs.{key_between, keys_with}
use Rattle.rule_core.specs.KeyPlaces.{ArePlaces}

-- the places of 2, 3 and 7 in their list, counted from 1, by number; all later numbers have none
abbrev places : List ℕ
places = 0 ∷ 0 ∷ 1 ∷ 2 ∷ 0 ∷ 0 ∷ 0 ∷ 3 ∷ replicate 70 0

-- the keys of numbers in 2, 3 and 7 are their places from 0 on; the smaller first, in whichever order two are asked for
pub keys_where-each : (keys_where (λ x. x == 7) (2 ∷ 3 ∷ 7 ∷ []) ≡ 2 ∷ []) × (keys_where (λ x. x == 4) (2 ∷ 3 ∷ 7 ∷ []) ≡ []) × (keys_where (λ x. (x == 7) || (x == 2)) (2 ∷ 3 ∷ 7 ∷ []) ≡ 0 ∷ 2 ∷ [])
keys_where-each = (refl, refl, refl)

-- a table of nothing isn't that of a list with a 2
pub ArePlaces-not_empty : ArePlaces 1 (2 ∷ []) (replicate 78 0) → ⊥
ArePlaces-not_empty are = absurd (omega (arith, are.there 0 (omega arith)))

-- a table in which 3 comes before 2 isn't that of the list
pub ArePlaces-not_exchanged : ArePlaces 2 (2 ∷ 3 ∷ []) (0 ∷ 0 ∷ 2 ∷ 1 ∷ replicate 74 0) → ⊥
ArePlaces-not_exchanged are = absurd (omega (arith, are.there 0 (omega arith)))

-- a table in which 5, which isn't in the list, has the place of 2 isn't that of the list
pub ArePlaces-not_another : ArePlaces 1 (2 ∷ []) (0 ∷ 0 ∷ 1 ∷ 0 ∷ 0 ∷ 1 ∷ replicate 72 0) → ⊥
ArePlaces-not_another are = absurd (omega (arith, are.here 5 (omega arith)))

-- four teams have six pairs, with the keys 0 to 5: 1 with 4, 6 and 9, then 4 with 6 and 9, then 6 with 9
abbrev teams : List ℕ
teams = 1 ∷ 4 ∷ 6 ∷ 9 ∷ []

pub pairs_of-four : pairs_of teams ≡ (1, 4) ∷ (1, 6) ∷ (1, 9) ∷ (4, 6) ∷ (4, 9) ∷ (6, 9) ∷ []
pairs_of-four = refl

pub keys_with-each : map (keys_with teams) (1 ∷ 4 ∷ 6 ∷ 9 ∷ 5 ∷ []) ≡ (0 ∷ 1 ∷ 2 ∷ []) ∷ (0 ∷ 3 ∷ 4 ∷ []) ∷ (1 ∷ 3 ∷ 5 ∷ []) ∷ (2 ∷ 4 ∷ 5 ∷ []) ∷ [] ∷ []
keys_with-each = refl

-- in either order; none where one of the two isn't among them
pub key_between-each : (key_between teams 4 9 ≡ 4 ∷ []) × (key_between teams 9 4 ≡ 4 ∷ []) × (key_between teams 1 4 ≡ 0 ∷ []) × (key_between teams 5 9 ≡ []) × (key_between teams 6 0 ≡ [])
key_between-each = (refl, refl, refl, refl, refl)

-- the keys by place: that of 6, at place 2, begins after the five of 1 and 4
pub first_key-each : map (first_key teams) (0 ∷ 1 ∷ 2 ∷ 3 ∷ []) ≡ 0 ∷ 3 ∷ 5 ∷ 6 ∷ []
first_key-each = refl

pub key_at-each : (key_at teams 0 3 ≡ 2) × (key_at teams 1 2 ≡ 3) × (key_at teams 2 3 ≡ 5)
key_at-each = (refl, refl, refl)
