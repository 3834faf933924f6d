-- The keys of classes in a league of four teams, whose season has six slots.
use Rattle.std.proofs.Common.{◌≡◌, ℕ, List, [], ◌∷◌, length, map, refl}
use Rattle.std.specs.List.{flat_map}
use Rattle.league.specs.declared.class.Class.{Class}
use Rattle.league.specs.declared.class.Class.TheVariants.{Ca1, Ca2, Ca3, Ca4, Ga1, Br1, Br2, Fa2, Se1}
use Rattle.league.specs.declared.class.Side.TheVariants.{H, A, Both}
use Rattle.league.specs.declared.class.Span.TheVariants.{Global, Every}
use Rattle.encoding.specs.Keys.{Bounded, key_of, places_of, subjects_of}

-- all keys of a class
abbrev keys : Class → List Bounded
keys class = flat_map (λ subject. map (λ place. key_of 4 class subject place) (places_of 4 class)) (subjects_of class)

-- how many literals each has
abbrev counts : Class → List ℕ
counts class = map (λ key. length key.literals) (keys class)

-- Against 1 and 2 team 0 has two opponents, and team 1 one: at home in three slots 2 * 3 and 1 * 3 literals, on both sides
-- twice as many; in windows of five slots, of which there are two, 2 * 5 and 1 * 5. Between 0 and 1 there are two meetings,
-- on both sides. Slot 0 has no break. Two teams have two literals for each slot up to one, and two games in each slot of a
-- window.
abbrev lists : List (List ℕ)
lists =
    counts (Ca1 (0 ∷ 3 ∷ []) 0 1 A (0 ∷ 2 ∷ 5 ∷ []))
    ∷ counts (Ca2 (0 ∷ 1 ∷ []) (1 ∷ 2 ∷ []) 0 1 H (0 ∷ 1 ∷ 2 ∷ []))
    ∷ counts (Ca2 (0 ∷ 1 ∷ []) (1 ∷ 2 ∷ []) 0 1 Both (0 ∷ 1 ∷ 2 ∷ []))
    ∷ counts (Ca3 (0 ∷ 1 ∷ []) (1 ∷ 2 ∷ []) 0 1 5 H)
    ∷ counts (Ca3 (0 ∷ []) (1 ∷ []) 0 1 7 H)
    ∷ counts (Ca4 (0 ∷ []) (1 ∷ []) 0 1 Both Global (1 ∷ 2 ∷ 3 ∷ []))
    ∷ counts (Ca4 (0 ∷ []) (1 ∷ []) 0 1 Both Every (1 ∷ 2 ∷ 3 ∷ []))
    ∷ counts (Ga1 ((0, 1) ∷ (2, 3) ∷ []) 0 1 (4 ∷ []))
    ∷ counts (Br1 (0 ∷ 1 ∷ []) 0 Both (0 ∷ 1 ∷ 2 ∷ []))
    ∷ counts (Br2 (0 ∷ 1 ∷ 2 ∷ []) 0 (0 ∷ 1 ∷ []))
    ∷ counts (Fa2 (0 ∷ 1 ∷ 3 ∷ []) 1 (1 ∷ 3 ∷ []))
    ∷ counts (Se1 (0 ∷ 1 ∷ []) 2)
    ∷ counts (Se1 (0 ∷ 1 ∷ []) 9)
    ∷ []

pub four-lists : lists
    ≡ (3 ∷ 3 ∷ []) ∷ (6 ∷ 3 ∷ []) ∷ (12 ∷ 6 ∷ []) ∷ (10 ∷ 10 ∷ 5 ∷ 5 ∷ []) ∷ [] ∷ (6 ∷ []) ∷ (2 ∷ 2 ∷ 2 ∷ []) ∷ (2 ∷ [])
    ∷ (4 ∷ 4 ∷ []) ∷ (6 ∷ []) ∷ (4 ∷ 8 ∷ 4 ∷ 8 ∷ 4 ∷ 8 ∷ []) ∷ (6 ∷ 6 ∷ 6 ∷ 6 ∷ []) ∷ (12 ∷ []) ∷ []
four-lists = refl

-- A lead of at most one after two slots, and after four: of four literals 1 to 3 are true, and of eight 3 to 5. At most
-- one game of two teams is in a window.
pub lead-bounds : map {B = ℕ × ℕ} (λ key. (key.low, key.high)) (keys (Fa2 (0 ∷ 1 ∷ []) 1 (1 ∷ 3 ∷ []))) ≡ (1, 3) ∷ (3, 5) ∷ []
lead-bounds = refl

pub parted-bounds : map {B = ℕ × ℕ} (λ key. (key.low, key.high)) (keys (Se1 (0 ∷ 1 ∷ []) 4)) ≡ (0, 1) ∷ (0, 1) ∷ []
parted-bounds = refl
