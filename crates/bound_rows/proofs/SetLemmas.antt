-- Sets that are put together of numbers in ascending order.
use Rattle.std.proofs.Common.{◌≡◌, ℕ, ◌+◌, ◌<◌, List, [], ◌∷◌, length}
use Rattle.std.proofs.Common.{get_or, take, refl, sym, ap, ◌∙◌, arith}
use Rattle.std.proofs.lemmas.List.{get_or-take, get_or_default, length-take-le, take_more}
use Rattle.std.proofs.lemmas.List.Elements.{All-cons, All-nil}
use Rattle.std.specs.List.{All}
use Rattle.std.specs.Ordering.{nat_cmp}
use Rattle.league.specs.Sets.{IsAscending, with_item}
use Rattle.league.proofs.SetLemmas.{less_than}
use Rattle.league.proofs.NumberSets.{with_item-last}

-- of numbers that ascend those before a place are below the one there
first_below : (numbers : List ℕ) (i : ℕ) → IsAscending nat_cmp numbers → i < length numbers
    → All (λ y. y < get_or numbers i 0) (take i numbers)
first_below numbers i ascending within k d inside =
    let small : k < i = omega (arith, length-take-le i numbers (omega arith)) in
    let less : get_or numbers k d < get_or numbers i d =
    less_than (get_or numbers k d) (get_or numbers i d) (ascending k i d small within) in
    omega (arith, less, get_or-take i numbers k d small, get_or_default numbers i d 0 within)

-- the set of the first numbers of a list, with the next one
pub set-next : (numbers : List ℕ) (i : ℕ) (set next : List ℕ) → IsAscending nat_cmp numbers → i < length numbers
    → set ≡ take i numbers → next ≡ with_item nat_cmp (get_or numbers i 0) set → next ≡ take (i + 1) numbers
set-next numbers i set next ascending within so_far put =
    put
    ∙ ap (with_item nat_cmp (get_or numbers i 0)) so_far
    ∙ with_item-last (get_or numbers i 0) (take i numbers) (first_below numbers i ascending within)
    ∙ sym (take_more numbers i 0 within)

-- sets of one number, and of two
pub one_item : (x : ℕ) → with_item nat_cmp x [] ≡ x ∷ []
one_item x = refl

pub two_items : (x y : ℕ) → x < y → with_item nat_cmp y (x ∷ []) ≡ x ∷ y ∷ []
two_items x y order = with_item-last y (x ∷ []) (All-cons (λ z. z < y) x [] order (All-nil (λ z. z < y)))
