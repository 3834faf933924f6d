-- Keys of the entries of a rule: an entry's key is its place in the deviation vector, counted from 0.
use Rattle.std.specs.Prelude.{ℕ, ◌+◌, Bool, if◌then◌else◌, List, [], ◌∷◌, ◌++◌}

-- a list of keys, and the number of keys that there is room for
pub record KeyList : Type 0 where
  pub list : List ℕ
  pub room : ℕ

-- the list with some keys more
abbrev pub with_keys : KeyList → List ℕ → KeyList
with_keys keys more = record { list = keys.list ++ more; room = keys.room }

-- the places of the elements that pass a test, counted from start on
abbrev pub places_from : {X : Type 0} → ℕ → (X → Bool) → List X → List ℕ
places_from start test [] = []
places_from start test (x ∷ xs) =
    if test x then start ∷ places_from (start + 1) test xs else places_from (start + 1) test xs

-- the keys of the elements that pass a test: their places, counted from 0
abbrev pub keys_where : {X : Type 0} → (X → Bool) → List X → List ℕ
keys_where test xs = places_from 0 test xs
