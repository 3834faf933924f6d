-- Games that are sorted are in order.
use Rattle.std.proofs.Common.{◌≡◌, ℕ, List, false, get_or, refl, subst, arith, IsTrue}
use Rattle.std.specs.Cmp.{IsTotalOrder}
use Rattle.std.specs.Fn.{Called, ComputesKey, Mut}
use Rattle.std.specs.List.Sorted.{IsSorted, IsSortedByKey}
use Rattle.std.specs.Ordering.{is_le, is_lt, nat_cmp, ordering_reverse, ordering_then}
use Rattle.std.specs.declared.cmp.Ordering.{Ordering}
use Rattle.std.specs.declared.cmp.Ordering.TheVariants.{Less, Equal, Greater}
use Rattle.std.proofs.lemmas.Cmp.{then_total, on_total, nat_cmp_total}
use Rattle.std.proofs.lemmas.List.Sorted.{answers_always, ranks_by, sorted_far}
use denote.Ref.{Bor}
use Rattle.league.specs.Order.{IsInOrder, game_cmp}
use Rattle.league.specs.declared.game.Game.{Game}

pub game_cmp-total : IsTotalOrder game_cmp
game_cmp-total =
    then_total (then_total (on_total (λ (g : Game). g.slot.0) nat_cmp_total) (on_total (λ (g : Game). g.home.0) nat_cmp_total)) (on_total (λ (g : Game). g.away.0) nat_cmp_total)

le_from_not_after : (o : Ordering) → is_lt (ordering_reverse o) ≡ false → IsTrue (is_le o)
le_from_not_after Less h = refl
le_from_not_after Equal h = refl
le_from_not_after Greater h = absurd (cc)

-- no game is less than the one before it, so none is less than any before it
pub IsInOrder-from_sorted : (games : List Game) → IsSorted game_cmp games → IsInOrder games
IsInOrder-from_sorted games sorted i j d before within =
    let far : is_lt (game_cmp (get_or games j d) (get_or games i d)) ≡ false = sorted_far (λ g h. is_lt (game_cmp g h)) (ranks_by game_cmp-total (λ (g : Game). g)) games sorted i j d (omega arith) within in
    le_from_not_after (game_cmp (get_or games i d) (get_or games j d)) (subst (λ (o : Ordering). is_lt o ≡ false) (game_cmp-total.antisymm (get_or games j d) (get_or games i d)) far)

-- what a game is sorted by
abbrev key_of : Game → ℕ × ℕ × ℕ
key_of game = (game.slot.0, game.home.0, game.away.0)

abbrev key_cmp : ℕ × ℕ × ℕ → ℕ × ℕ × ℕ → Ordering
key_cmp k l = ordering_then (ordering_then (nat_cmp k.0 l.0) (nat_cmp k.1 l.1)) (nat_cmp k.2 l.2)

-- from what a sort by that key ensures
pub IsInOrder-from_sort_by_key : {F : Type 0} {g : Mut F (Bor Game × Unit {0}) (ℕ × ℕ × ℕ)} {f : F} (games : List Game)
    → ((key : Game → ℕ × ℕ × ℕ) → ComputesKey g key f → IsSortedByKey key key_cmp games)
    → ((f : F) (a : Bor Game × Unit {0}) (r : ℕ × ℕ × ℕ) (f' : F) → Called g f a r f' → r ≡ key_of a.0.now)
    → IsInOrder games
IsInOrder-from_sort_by_key {g = g} {f = f} games sorted computes = IsInOrder-from_sorted games (sorted key_of (answers_always g (λ a r. r ≡ key_of a.0.now) f computes))
