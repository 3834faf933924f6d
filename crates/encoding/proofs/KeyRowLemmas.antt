-- The rows of a class, key by key, without those that demand nothing.
use Rattle.std.proofs.Common.{◌≡◌, Bool, List, [], ◌∷◌, ◌++◌, map, refl, ap, ◌∙◌}
use Rattle.std.proofs.lemmas.List.{append-nil}
use Rattle.std.proofs.lemmas.List.Elements.{filter-append}
use Rattle.std.proofs.lemmas.List.Folds.{flat_map-map}
use Rattle.std.specs.List.{filter, flat_map}
use Rattle.rows.specs.Rows.{Row}
use Rattle.encoding.specs.Encoding.{demands}

-- what passes a test, list by list
pub filter-flat_map : {X Y : Type 0} (p : Y → Bool) (f : X → List Y) (xs : List X) → filter p (flat_map f xs) ≡ flat_map (λ x. filter p (f x)) xs
filter-flat_map p f [] = refl
filter-flat_map p f (x ∷ xs) =
    filter-append p (f x) (flat_map f xs) ∙ ap (λ ys. filter p (f x) ++ ys) (filter-flat_map p f xs)

-- the rows of many keys that demand something
pub key_rows : {K : Type 0} (f : K → List Row) (keys : List K) → filter demands (flat_map (λ rows. rows) (map f keys)) ≡ flat_map (λ k. filter demands (f k)) keys
key_rows f keys = ap (filter demands) (flat_map-map (λ (rows : List Row). rows) f keys) ∙ filter-flat_map demands f keys

-- the rows of one key that demand something
pub one_key_rows : (rows : List Row) → filter demands (flat_map (λ rows. rows) (rows ∷ [])) ≡ filter demands rows
one_key_rows rows = ap (filter demands) (append-nil rows)
