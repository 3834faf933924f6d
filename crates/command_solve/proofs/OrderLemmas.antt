-- Two lists in order that have the same games are one list.
use Rattle.std.proofs.Common.{◌≡◌, ℕ, ◌+◌, ◌<◌, Bool, true, false, if◌then◌else◌, List, [], ◌∷◌, length, suc, get_or, refl, sym, ap, ◌∙◌, subst, arith, IsTrue}
use Rattle.std.specs.List.{count_by}
use Rattle.std.specs.List.Sorted.{IsPermutation}
use Rattle.std.specs.Ordering.{is_eq, is_gt, is_le, is_lt, nat_cmp, ordering_reverse, ordering_then}
use Rattle.std.specs.declared.cmp.Ordering.{Ordering}
use Rattle.std.specs.declared.cmp.Ordering.TheVariants.{Less, Equal, Greater}
use Rattle.std.proofs.lemmas.Bool.Decides.{nat_tests}
use Rattle.std.proofs.lemmas.Cmp.{upto, tied_itself}
use Rattle.std.proofs.lemmas.List.Sorted.{sum_by-IsPermutation}
use Rattle.std.proofs.lemmas.List.Sums.{sum_by-cons}
use Rattle.league.specs.Order.{game_cmp, IsInOrder}
use Rattle.league.specs.declared.game.Game.{Game}
use Rattle.league.proofs.OrderLemmas.{game_cmp-total}
use Rattle.command_solve.specs.Circle.{with_game, in_order}

-- numbers that compare as equal are equal
nat_cmp-equal : (x y : ℕ) → nat_cmp x y ≡ Equal → x ≡ y
nat_cmp-equal x y h = grind (arith, nat_tests)

first_equal : (o p : Ordering) → ordering_then o p ≡ Equal → o ≡ Equal
first_equal Less p h = cc
first_equal Equal p h = refl
first_equal Greater p h = cc

second_equal : (o p : Ordering) → ordering_then o p ≡ Equal → p ≡ Equal
second_equal Less p h = cc
second_equal Equal p h = h
second_equal Greater p h = cc

abbrev game : ℕ → ℕ → ℕ → Game
game i j s = record { home = record { 0 = i }; away = record { 0 = j }; slot = record { 0 = s } }

-- games that compare as equal are the same game
game_cmp-equal : (g h : Game) → game_cmp g h ≡ Equal → g ≡ h
game_cmp-equal g h e =
    let two : ordering_then (nat_cmp g.slot.0 h.slot.0) (nat_cmp g.home.0 h.home.0) ≡ Equal = first_equal _ (nat_cmp g.away.0 h.away.0) e in
    let slot : g.slot.0 ≡ h.slot.0 = nat_cmp-equal _ _ (first_equal _ (nat_cmp g.home.0 h.home.0) two) in
    let home : g.home.0 ≡ h.home.0 = nat_cmp-equal _ _ (second_equal (nat_cmp g.slot.0 h.slot.0) _ two) in
    let away : g.away.0 ≡ h.away.0 = nat_cmp-equal _ _ (second_equal (ordering_then (nat_cmp g.slot.0 h.slot.0) (nat_cmp g.home.0 h.home.0)) _ e) in
    ap (λ (i : ℕ). game i g.away.0 g.slot.0) home ∙ ap (λ (j : ℕ). game h.home.0 j g.slot.0) away ∙ ap (λ (s : ℕ). game h.home.0 h.away.0 s) slot

-- numbers
add_zero_left : (n : ℕ) → 0 + n ≡ n
add_zero_left n = omega arith

none_is_one : (n : ℕ) → 1 + n ≡ 0 → ⊥
none_is_one n h = omega arith

cancel : (a m n : ℕ) → a + m ≡ a + n → m ≡ n
cancel a m n h = omega arith

-- no game of the list comes before g
abbrev NoneBefore : Game → List Game → Type 0
NoneBefore g [] = Unit {0}
NoneBefore g (h ∷ games) = (is_gt (game_cmp g h) ≡ false) × NoneBefore g games

-- no game comes before an earlier one
abbrev Ascends : List Game → Type 0
Ascends [] = Unit {0}
Ascends (g ∷ games) = NoneBefore g games × Ascends games

-- how often a game stands in a list
abbrev occurrences : Game → List Game → ℕ
occurrences g games = count_by (λ h. is_eq (game_cmp g h)) games

abbrev one_if : Bool → ℕ
one_if b = if b then 1 else 0

occurrences-cons : (g h : Game) (games : List Game) → occurrences g (h ∷ games) ≡ one_if (is_eq (game_cmp g h)) + occurrences g games
occurrences-cons g h games = sum_by-cons (λ x. one_if (is_eq (game_cmp g x))) h games

-- what comes before a game comes before those that none of comes before it
NoneBefore-earlier : (g h : Game) (games : List Game) → is_gt (game_cmp g h) ≡ false → NoneBefore h games → NoneBefore g games
NoneBefore-earlier g h [] le none = tt
NoneBefore-earlier g h (x ∷ games) le none = (upto game_cmp-total g h x le none.0, NoneBefore-earlier g h games le none.1)

-- a game before g is before those that g isn't behind
less_before : (x g h : Game) (o : Ordering) → game_cmp x g ≡ Less → game_cmp g h ≡ o → is_gt o ≡ false → game_cmp x h ≡ Less
less_before x g h Less less is le = game_cmp-total.trans x g h less is
less_before x g h Equal less is le = subst (λ (y : Game). game_cmp x y ≡ Less) (game_cmp-equal g h is) less
less_before x g h Greater less is le = absurd (cc)

-- a list of games of which none is before g has no game that is before g
occurrences-none : (x g : Game) (games : List Game) → game_cmp x g ≡ Less → NoneBefore g games → occurrences x games ≡ 0
occurrences-none x g [] less none = refl
occurrences-none x g (h ∷ games) less none =
    occurrences-cons x h games
    ∙ ap (λ (o : Ordering). one_if (is_eq o) + occurrences x games) (less_before x g h (game_cmp g h) less refl none.0)
    ∙ add_zero_left (occurrences x games)
    ∙ occurrences-none x g games less none.1

-- the first game stands there once more than in the rest
occurrences-first : (g : Game) (games : List Game) → occurrences g (g ∷ games) ≡ 1 + occurrences g games
occurrences-first g games = occurrences-cons g g games ∙ ap (λ (o : Ordering). one_if (is_eq o) + occurrences g games) (tied_itself game_cmp-total g)

-- a game isn't in a list in which it comes before the first, if it is in a list as often
absent_first : (x y : Game) (xs ys : List Game) → game_cmp x y ≡ Less → NoneBefore y ys → occurrences x (x ∷ xs) ≡ occurrences x (y ∷ ys) → ⊥
absent_first x y xs ys less none same =
    let some : occurrences x (x ∷ xs) ≡ 1 + occurrences x xs = occurrences-first x xs in
    let apart : occurrences x (y ∷ ys) ≡ 0 + occurrences x ys = occurrences-cons x y ys ∙ ap (λ (o : Ordering). one_if (is_eq o) + occurrences x ys) less in
    let no : occurrences x ys ≡ 0 = occurrences-none x y ys less none in
    none_is_one (occurrences x xs) (sym some ∙ same ∙ apart ∙ ap (λ (n : ℕ). 0 + n) no)

-- from the comparison of the two first games
by_first : (x y : Game) (xs ys : List Game) (o : Ordering) → game_cmp x y ≡ o → Ascends (x ∷ xs) → Ascends (y ∷ ys) → ((g : Game) → occurrences g (x ∷ xs) ≡ occurrences g (y ∷ ys)) → (((g : Game) → occurrences g xs ≡ occurrences g ys) → xs ≡ ys) → x ∷ xs ≡ y ∷ ys
by_first x y xs ys Less is up_xs up_ys same rest = absurd (absent_first x y xs ys is up_ys.0 (same x))
by_first x y xs ys Equal is up_xs up_ys same rest =
    let first : x ≡ y = game_cmp-equal x y is in
    let same_rest : (g : Game) → occurrences g xs ≡ occurrences g ys = λ g. cancel (one_if (is_eq (game_cmp g y)))
    (occurrences g xs) (occurrences g ys) (ap (λ (z : Game). one_if (is_eq (game_cmp g z)) + occurrences g xs)
    (sym first) ∙ sym (occurrences-cons g x xs) ∙ same g ∙ occurrences-cons g y ys) in
    ap (λ (z : Game). z ∷ xs) first ∙ ap (λ (l : List Game). y ∷ l) (rest same_rest)
by_first x y xs ys Greater is up_xs up_ys same rest = absurd (absent_first y x ys xs (game_cmp-total.antisymm y x ∙ ap ordering_reverse is) up_xs.0 (sym (same y)))

-- two lists in order that have each game as often are one list
pub same_games : (xs ys : List Game) → Ascends xs → Ascends ys → ((g : Game) → occurrences g xs ≡ occurrences g ys) → xs ≡ ys
same_games [] [] up_xs up_ys same = refl
same_games [] (y ∷ ys) up_xs up_ys same = absurd (none_is_one (occurrences y ys) (sym (occurrences-first y ys) ∙ sym (same y)))
same_games (x ∷ xs) [] up_xs up_ys same = absurd (none_is_one (occurrences x xs) (sym (occurrences-first x xs) ∙ same x))
same_games (x ∷ xs) (y ∷ ys) up_xs up_ys same = by_first x y xs ys (game_cmp x y) refl up_xs up_ys same (same_games xs ys up_xs.1 up_ys.1)

-- what is in order ascends
le_not_gt : (o : Ordering) → IsTrue (is_le o) → is_gt o ≡ false
le_not_gt Less h = refl
le_not_gt Equal h = refl
le_not_gt Greater h = absurd (cc)

NoneBefore-from_all : (g : Game) (games : List Game) → ((j : ℕ) (d : Game) → j < length games → IsTrue (is_le (game_cmp g (get_or games j d)))) → NoneBefore g games
NoneBefore-from_all g [] all = tt
NoneBefore-from_all g (h ∷ games) all = (le_not_gt (game_cmp g h) (all 0 g (omega arith)), NoneBefore-from_all g games (λ j d within. all (suc j) d (omega arith)))

pub Ascends-from_order : (games : List Game) → IsInOrder games → Ascends games
Ascends-from_order [] ordered = tt
Ascends-from_order (g ∷ games) ordered = (NoneBefore-from_all g games (λ j d within. ordered 0 (suc j) d (omega arith) (omega arith)), Ascends-from_order games (λ i j d before within. ordered (suc i) (suc j) d (omega arith) (omega arith)))

-- a game more, behind g
NoneBefore-with_game : (g h : Game) (games : List Game) → is_gt (game_cmp g h) ≡ false → NoneBefore g games → NoneBefore g (with_game h games)
NoneBefore-with_game g h [] le none = (le, tt)
NoneBefore-with_game g h (x ∷ games) le none =
    elim (is_lt (game_cmp x h)) as (λ (b : Bool). NoneBefore g (if b then x ∷ with_game h games else h ∷ x ∷ games)) [
      | true ↦ (none.0, NoneBefore-with_game g h games le none.1)
      | false ↦ (le, none)
    ]

lt_not_gt : (o : Ordering) → is_lt o ≡ true → is_gt o ≡ false
lt_not_gt Less h = refl
lt_not_gt Equal h = refl
lt_not_gt Greater h = absurd (cc)

not_lt_back : (o : Ordering) → is_lt o ≡ false → is_gt (ordering_reverse o) ≡ false
not_lt_back Less h = absurd (cc)
not_lt_back Equal h = refl
not_lt_back Greater h = refl

-- put into a list in order, a game leaves it in order
Ascends-with_game : (g : Game) (games : List Game) → Ascends games → Ascends (with_game g games)
Ascends-with_game g [] up = (tt, tt)
Ascends-with_game g (h ∷ games) up =
    let put : (b : Bool) → is_lt (game_cmp h g) ≡ b → Ascends (if b then h ∷ with_game g games else g ∷ h ∷ games) = λ b. elim b as (λ (b : Bool). is_lt (game_cmp h g) ≡ b → Ascends (if b then h ∷ with_game g games else g ∷ h ∷ games)) [
      | true ↦ λ is. (NoneBefore-with_game h g games (lt_not_gt (game_cmp h g) is) up.0, Ascends-with_game g games up.1)
      | false ↦ λ is. let le : is_gt (game_cmp g h) ≡ false = subst (λ (o : Ordering). is_gt o ≡ false) (sym (game_cmp-total.antisymm g h)) (not_lt_back (game_cmp h g) is) in ((le, NoneBefore-earlier g h games le up.0), up)
    ] in
    put (is_lt (game_cmp h g)) refl

Ascends-in_order : (games : List Game) → Ascends (in_order games)
Ascends-in_order [] = tt
Ascends-in_order (g ∷ games) = Ascends-with_game g (in_order games) (Ascends-in_order games)

exchanged : (a b n : ℕ) → a + (b + n) ≡ b + (a + n)
exchanged a b n = omega arith

-- a list with a game more has each game as often as with this game first
occurrences-with_game : (x g : Game) (games : List Game) → occurrences x (with_game g games) ≡ one_if (is_eq (game_cmp x g)) + occurrences x games
occurrences-with_game x g [] = occurrences-cons x g []
occurrences-with_game x g (h ∷ games) =
    elim (is_lt (game_cmp h g)) as (λ (b : Bool). occurrences x (if b then h ∷ with_game g games else g ∷ h ∷ games) ≡ one_if (is_eq (game_cmp x g)) + occurrences x (h ∷ games)) [
      | true ↦
          occurrences-cons x h (with_game g games) ∙ ap (λ (n : ℕ). one_if (is_eq (game_cmp x h)) + n)
          (occurrences-with_game x g games) ∙ exchanged (one_if (is_eq (game_cmp x h))) (one_if (is_eq (game_cmp x g)))
          (occurrences x games) ∙ ap (λ (n : ℕ). one_if (is_eq (game_cmp x g)) + n) (sym (occurrences-cons x h games))
      | false ↦ occurrences-cons x g (h ∷ games)
    ]

occurrences-in_order : (x : Game) (games : List Game) → occurrences x (in_order games) ≡ occurrences x games
occurrences-in_order x [] = refl
occurrences-in_order x (g ∷ games) = occurrences-with_game x g (in_order games) ∙ ap (λ (n : ℕ). one_if (is_eq (game_cmp x g)) + n) (occurrences-in_order x games) ∙ sym (occurrences-cons x g games)

-- games in order are one list: that of `in_order`
pub in_order_unique : (games ordered : List Game) → IsPermutation games ordered → IsInOrder ordered → ordered ≡ in_order games
in_order_unique games ordered same up =
    same_games ordered (in_order games) (Ascends-from_order ordered up) (Ascends-in_order games) (λ x. sum_by-IsPermutation (λ h. one_if (is_eq (game_cmp x h))) games ordered same ∙ sym (occurrences-in_order x games))
