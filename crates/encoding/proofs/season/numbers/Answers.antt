use Rattle.std.proofs.Common.{List, ℕ, [], ◌∷◌, ◌++◌, ap, sym, ◌∙◌}
use Rattle.encoding.proofs.NumberLemmas.{numbers-more}
use Rattle.encoding.proofs.season.numbers.Goals as goal

pub loop-number-preserved : goal.loop-number-preserved
loop-number-preserved c =
    c.in_ok-push.ensures.items ∙ ap (λ (xs : List ℕ). xs ++ c.loop-number.number ∷ []) c.loop-number.invariant
    ∙ sym (numbers-more c.loop-number.number)
