-- What a search answers, in the words of the definitions.
use Rattle.std.proofs.Common.{◌≡◌, ℕ, ◌<◌, ◌+◌, Bool, false, cond, List, length, get_or, drop, Some, ap, ◌∙◌}
use Rattle.std.specs.List.{find}
use Rattle.std.proofs.lemmas.List.{at_drop_more}

-- a search in a list goes on after what fails
pub found_later : {X : Type 0} (test : X → Bool) (xs : List X) (i : ℕ) (d : X) → i < length xs → test (get_or xs i d) ≡ false → find test (drop i xs) ≡ find test (drop (i + 1) xs)
found_later test xs i d below isnt =
    at_drop_more (find test) xs i d below ∙ ap (λ (b : Bool). cond b (Some (get_or xs i d)) (find test (drop (i + 1) xs))) isnt
