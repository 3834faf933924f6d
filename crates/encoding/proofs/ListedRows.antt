-- Rows as they are listed, one after the other.
use Rattle.std.proofs.Common.{◌≡◌, List, [], ◌∷◌, ◌++◌, ap, sym, ◌∙◌}
use Rattle.std.proofs.lemmas.List.{append_assoc}
use Rattle.std.proofs.lemmas.List.Elements.{filter-append}
use Rattle.std.specs.List.{filter}
use Rattle.rows.specs.Rows.{Row}
use Rattle.encoding.specs.Encoding.{demands}

-- two rows are listed one after the other
pub both_listed : (rows : List Row) (first second : Row) → (rows ++ filter demands (first ∷ [])) ++ filter demands (second ∷ []) ≡ rows ++ filter demands (first ∷ second ∷ [])
both_listed rows first second =
    append_assoc rows (filter demands (first ∷ [])) (filter demands (second ∷ []))
    ∙ ap (λ (more : List Row). rows ++ more) (sym (filter-append demands (first ∷ []) (second ∷ [])))
