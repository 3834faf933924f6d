-- Vectors by their entries, and counts by their games.
use Rattle.std.proofs.Common.{◌≡◌, ℕ, ◌+◌, ◌*◌, ◌<◌, ◌≤◌, zero, suc, List, [], ◌∷◌, ◌++◌, length, map, get_or, take, sum, refl, ap, sym, ◌∙◌, arith}
use Rattle.std.proofs.lemmas.List.{take_more}
use Rattle.std.proofs.lemmas.List.Sums.{sum_by-cons, sum_by_push}
use Rattle.std.proofs.lemmas.List.Sums.{fold-append}
use Rattle.std.specs.List.{range_with_len}
use Rattle.league.specs.Counts.{Counts, counts_of, one_more, is_game}
use Rattle.league.specs.Deviation.{entry_of, vector_of}
use Rattle.league.proofs.ListLemmas.{map-same}
use Rattle.league.proofs.RangeLemmas.{one_if}
use Rattle.league.specs.declared.class.Class.{Class}
use Rattle.league.specs.declared.game.Game.{Game}
use Rattle.rule_core.proofs.ListedLemmas.{same_counts}

-- a sum with one number more
pub sum-push : (xs : List ℕ) (x : ℕ) → sum (xs ++ x ∷ []) ≡ sum xs + x
sum-push xs x = fold-append (λ a y. a + y) 0 xs (x ∷ [])

-- the elements of a list, each by its place
shifted : (f g : ℕ → ℕ) (a k : ℕ) → ((i : ℕ) → f (i + 1) ≡ g i) → map f (range_with_len (a + 1) k) ≡ map g (range_with_len a k)
shifted f g a zero same = refl
shifted f g a (suc k) same = ap (λ (y : ℕ). y ∷ map f (range_with_len (a + 1 + 1) k)) (same a) ∙ ap (λ (l : List ℕ). g a ∷ l) (shifted f g (a + 1) k same)

behind : (x : ℕ) (xs : List ℕ) (i : ℕ) → get_or (x ∷ xs) (i + 1) 0 ≡ get_or xs i 0
behind x xs i = let next : i + 1 ≡ suc i = omega arith in ap (λ (k : ℕ). get_or (x ∷ xs) k 0) next

pub listed : (xs : List ℕ) → map (λ k. get_or xs k 0) (range_with_len 0 (length xs)) ≡ xs
listed [] = refl
listed (x ∷ xs) = ap (λ (l : List ℕ). x ∷ l) (shifted (λ k. get_or (x ∷ xs) k 0) (λ k. get_or xs k 0) 0 (length xs) (behind x xs) ∙ listed xs)

-- a rule's entries, where each is the constraint's and there are as many, are the vector
pub vector-by_entries : (n : ℕ) (m : Counts) (class : Class) (count : ℕ) (entry : ℕ → ℕ) (entries : List ℕ) → count ≡ length (vector_of n m class) → ((k : ℕ) → entry k ≡ entry_of n m class k) → entries ≡ map entry (range_with_len 0 count) → entries ≡ vector_of n m class
vector-by_entries n m class count entry entries many each are =
    are
    ∙ ap (λ (k : ℕ). map entry (range_with_len 0 k)) many
    ∙ map-same entry (λ k. entry_of n m class k) each (range_with_len 0 (length (vector_of n m class)))
    ∙ listed (vector_of n m class)

-- what an index past the end of a list of games would read
abbrev no_game : Game
no_game = record { home = record { 0 = 0 }; away = record { 0 = 0 }; slot = record { 0 = 0 } }

-- counts with a schedule's next game
pub counts-next : (games : List Game) (i : ℕ) (before after : Counts) → i < length games → before ≡ counts_of (take i games) → after ≡ one_more before (get_or games i no_game) → after ≡ counts_of (take (i + 1) games)
counts-next games i before after within so_far more =
    let g : Game = get_or games i no_game in
    more
    ∙ ap (λ (m : Counts). one_more m g) so_far
    ∙ same_counts (one_more (counts_of (take i games)) g) (counts_of (take i games ++ g ∷ [])) (λ h a s. sym (sum_by_push (λ x. one_if (is_game h a s x)) (take i games) g))
    ∙ ap (λ (gs : List Game). counts_of gs) (sym (take_more games i no_game within))

-- a sum of numbers below a bound
pub sum-le : (bound : ℕ) (xs : List ℕ) → ((i : ℕ) → get_or xs i 0 < bound) → sum xs ≤ bound * length xs
sum-le bound [] small = omega arith
sum-le bound (x ∷ xs) small = omega (arith, sum_by-cons (λ y. y) x xs, small 0, sum-le bound xs (λ i. small (suc i)))
