-- The position of a walk as it lies in memory and as it is seen.
use Rattle.std.proofs.Common.{◌≡◌, ℕ, ◌||◌, List, [], ◌∷◌, refl, ap}
use Rattle.std.specs.Prelude.{bytes_eq}
use Rattle.std.specs.Borrow.{Bor}
use Rattle.std.specs.List.{list_any}
use Rattle.robinx.specs.Seen.{names_of}

pub seen_in : (name : List ℕ) (names : List (Bor (List ℕ))) → list_any (bytes_eq name) (names_of names) ≡ list_any (λ n. bytes_eq name n.now) names
seen_in name [] = refl
seen_in name (n ∷ names) = ap (λ b. bytes_eq name n.now || b) (seen_in name names)
