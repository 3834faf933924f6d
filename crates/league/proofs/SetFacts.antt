-- Sets with an item more, orders, and places in a table.
use Rattle.std.proofs.Common.{◌≡◌, [], ◌∷◌, arith, refl}
use Rattle.std.specs.List.{range_with_len}
use Rattle.std.specs.Ordering.{nat_cmp}
use Rattle.std.specs.declared.cmp.Ordering.TheVariants.{Less, Equal, Greater}
use Rattle.std.specs.Prelude.{IsTrue}
use Rattle.std.specs.Ordering.{is_le}
use Rattle.league.specs.Grid.{entry}
use Rattle.league.specs.Order.{IsInOrder, game_cmp}
use Rattle.league.specs.Sets.{IsAscending, pair_cmp, with_item}
use Rattle.league.proofs.DoubleFour.{game}

pub insert-empty : with_item nat_cmp 4 [] ≡ 4 ∷ []
insert-empty = refl

pub insert-front : with_item nat_cmp 0 (2 ∷ 5 ∷ []) ≡ 0 ∷ 2 ∷ 5 ∷ []
insert-front = refl

pub insert-middle : with_item nat_cmp 3 (2 ∷ 5 ∷ []) ≡ 2 ∷ 3 ∷ 5 ∷ []
insert-middle = refl

pub insert-end : with_item nat_cmp 6 (2 ∷ 5 ∷ []) ≡ 2 ∷ 5 ∷ 6 ∷ []
insert-end = refl

pub insert-again : with_item nat_cmp 5 (2 ∷ 5 ∷ []) ≡ 2 ∷ 5 ∷ []
insert-again = refl

-- the home team comes first: (0, 3) before (1, 0) before (1, 2)
pub insert-pair : with_item pair_cmp (1, 0) ((0, 3) ∷ (1, 2) ∷ []) ≡ (0, 3) ∷ (1, 0) ∷ (1, 2) ∷ []
insert-pair = refl

-- (3, 0) isn't (0, 3)
pub insert-pair_turned : with_item pair_cmp (3, 0) ((0, 3) ∷ []) ≡ (0, 3) ∷ (3, 0) ∷ []
insert-pair_turned = refl

-- a set has no item twice
pub ascending-repeat : IsAscending nat_cmp (4 ∷ 4 ∷ []) → ⊥
ascending-repeat h = let e : Equal ≡ Less = h 0 1 0 (omega arith) (omega arith) in absurd (cc)

pub ascending-down : IsAscending nat_cmp (5 ∷ 4 ∷ []) → ⊥
ascending-down h = let e : Greater ≡ Less = h 0 1 0 (omega arith) (omega arith) in absurd (cc)

-- the slot counts before the home team, and the home team before the away team
pub order-slot_first : game_cmp (game 3 2 0) (game 0 1 1) ≡ Less
order-slot_first = refl

pub order-then_home : game_cmp (game 1 3 2) (game 2 0 2) ≡ Less
order-then_home = refl

pub order-then_away : game_cmp (game 1 3 2) (game 1 0 2) ≡ Greater
order-then_away = refl

-- a game twice in a row is in order, and two games the wrong way round aren't
pub order-repeat : game_cmp (game 1 3 2) (game 1 3 2) ≡ Equal
order-repeat = refl

pub order-down : IsInOrder (game 1 3 2 ∷ game 1 0 2 ∷ []) → ⊥
order-down h = let e : IsTrue (is_le Greater) = h 0 1 (game 0 0 0) (omega arith) (omega arith) in absurd (cc)

-- in a table of the numbers 0 to 79, row 1 begins with 78; no row has a column 78, and behind the list there are zeros
pub table-last_column : entry (range_with_len 0 80) 0 77 ≡ 77
table-last_column = refl

pub table-second_row : entry (range_with_len 0 80) 1 0 ≡ 78
table-second_row = refl

pub table-no_column : entry (range_with_len 0 80) 0 78 ≡ 0
table-no_column = refl

pub table-behind : entry (range_with_len 0 80) 1 2 ≡ 0
table-behind = refl
