-- The comments of moves, one more.
use Rattle.std.proofs.Common.{◌≡◌, ℕ, zero, suc, ◌+◌, ◌<◌, List, [], ◌∷◌, ◌++◌, length, take, get_or, Some, refl, ap, sym, ◌∙◌, append_assoc}
use Rattle.std.specs.List.{flat_map, slice_get}
use Rattle.std.proofs.lemmas.List.{take_more}
use Rattle.std.proofs.lemmas.List.Concat.{flat_map-append, flat_map-cons}
use Rattle.moves.specs.declared.swap.Swap.{Swap}
use Rattle.command_solve.specs.Solve.{move_line}

read-is : (trail : List Swap) (k : ℕ) (step : Swap) → slice_get trail k ≡ Some step → get_or trail k step ≡ step
read-is [] k step is = refl
read-is (x ∷ trail) zero step is = cc
read-is (x ∷ trail) (suc k) step is = read-is trail k step is

append_none : (xs : List ℕ) → xs ++ [] ≡ xs
append_none [] = refl
append_none (x ∷ xs) = ap (λ (l : List ℕ). x ∷ l) (append_none xs)

one-line : (step : Swap) → flat_map move_line (step ∷ []) ≡ move_line step
one-line step = flat_map-cons move_line step [] ∙ append_none (move_line step)

pub moves-more : (trail : List Swap) (k : ℕ) (step : Swap) → k < length trail → slice_get trail k ≡ Some step
    → flat_map move_line (take (k + 1) trail) ≡ flat_map move_line (take k trail) ++ move_line step
moves-more trail k step within is =
    ap (λ (moves : List Swap). flat_map move_line moves)
    (take_more trail k step within ∙ ap (λ (s : Swap). take k trail ++ s ∷ []) (read-is trail k step is))
    ∙ flat_map-append move_line (take k trail) (step ∷ [])
    ∙ ap (λ (line : List ℕ). flat_map move_line (take k trail) ++ line) (one-line step)

-- a text with one more comment
pub text-more : (start text line : List ℕ) (trail : List Swap) (k : ℕ) (step : Swap) → k < length trail
    → slice_get trail k ≡ Some step → line ≡ move_line step → text ≡ start ++ flat_map move_line (take k trail)
    → text ++ line ≡ start ++ flat_map move_line (take (k + 1) trail)
text-more start text line trail k step within is wrote so_far =
    ap (λ (front : List ℕ). front ++ line) so_far
    ∙ ap (λ (l : List ℕ). (start ++ flat_map move_line (take k trail)) ++ l) wrote
    ∙ append_assoc start (flat_map move_line (take k trail)) (move_line step)
    ∙ ap (λ (l : List ℕ). start ++ l) (sym (moves-more trail k step within is))
