-- Lists that are mapped by functions with equal values, and the elements of lists that are mapped.
use Rattle.std.proofs.Common.{◌≡◌, zero, suc, List, [], ◌∷◌, map, arith, ap, sym, subst}
use Rattle.std.proofs.Math.Path.{fun_ext}
use Rattle.std.specs.List.{flat_map}
use Rattle.std.specs.Prelude.{Contains}
use Rattle.std.proofs.lemmas.List.Elements.{Contains-append_left, Contains-append_right}

pub map-same : {X Y : Type 0} (f g : X → Y) → ((x : X) → f x ≡ g x) → (xs : List X) → map f xs ≡ map g xs
map-same {X} {Y} f g same xs = ap (λ (h : X → Y). map h xs) (fun_ext same)

pub flat_map-same : {X Y : Type 0} (f g : X → List Y) → ((x : X) → f x ≡ g x) → (xs : List X) → flat_map f xs ≡ flat_map g xs
flat_map-same {X} {Y} f g same xs = ap (λ (h : X → List Y). flat_map h xs) (fun_ext same)

-- what is made of an element of a list is in the list mapped, and in what is made of its elements joined
pub Contains-map : {X Y : Type 0} (f : X → Y) (xs : List X) (x : X) → Contains xs x → Contains (map f xs) (f x)
Contains-map f [] x (k, within, is) = absurd (omega (arith, within))
Contains-map f (first ∷ xs) x (zero, within, is) = (zero, omega arith, ap f is)
Contains-map f (first ∷ xs) x (suc k, within, is) =
    let rest = Contains-map f xs x (k, omega (arith, within), is) in
    (suc rest.0, omega (arith, rest.1), rest.2)

pub Contains-flat_map : {X Y : Type 0} (f : X → List Y) (xs : List X) (x : X) (y : Y) → Contains xs x
    → Contains (f x) y → Contains (flat_map f xs) y
Contains-flat_map f [] x y (k, within, is) there = absurd (omega (arith, within))
Contains-flat_map {X} {Y} f (first ∷ xs) x y (zero, within, is) there =
    Contains-append_left (f first) (flat_map f xs) y (subst (λ (z : X). Contains (f z) y) (sym is) there)
Contains-flat_map f (first ∷ xs) x y (suc k, within, is) there =
    Contains-append_right (f first) (flat_map f xs) y
    (Contains-flat_map f xs x y (k, omega (arith, within), is) there)
