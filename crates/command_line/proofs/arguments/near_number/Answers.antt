use Rattle.std.proofs.Common.{◌∙◌, if◌then◌else◌, Bool, ℕ, List, ◌∷◌, None, Some, map, string_bytes, ap, sym}
use Rattle.std.specs.Prelude.{option_and_then, option_map}
use Rattle.command_line.specs.Words.{arguments_of, number_in, one_number, without_near}
use Rattle.command_line.proofs.StandingLemmas.{near_number_behind}
use Rattle.command_line.proofs.arguments.near_number.Goals as goal

pub returns-then-has_near_alone : goal.returns-then-has_near_alone
returns-then-has_near_alone c =
    let first : List ℕ = c.in-Some.first.now in
    let more : List (List ℕ) = arguments_of (map string_bytes c.in-Some.rest.now) in
    c.number.ensures
    ∙ ap (λ (b : Bool). if b then number_in first else None) (sym (sym c.has_near_alone.ensures ∙ c.if-has_near_alone.true))
    ∙ near_number_behind first more
    ∙ ap (λ (b : Bool). option_and_then one_number (if b then Some more else option_map (λ rest. first ∷ rest) (without_near more)))
    (sym (sym c.is_near.ensures ∙ c.if-is_near.false))
    ∙ ap (λ (words : List (List ℕ)). option_and_then one_number (without_near words)) (sym c.in-Some.ensures)

pub returns-else-has_near_alone : goal.returns-else-has_near_alone
returns-else-has_near_alone c =
    let first : List ℕ = c.in-Some.first.now in
    let more : List (List ℕ) = arguments_of (map string_bytes c.in-Some.rest.now) in
    ap (λ (b : Bool). if b then number_in first else None) (sym (sym c.has_near_alone.ensures ∙ c.if-has_near_alone.false))
    ∙ near_number_behind first more
    ∙ ap (λ (b : Bool). option_and_then one_number (if b then Some more else option_map (λ rest. first ∷ rest) (without_near more)))
    (sym (sym c.is_near.ensures ∙ c.if-is_near.false))
    ∙ ap (λ (words : List (List ℕ)). option_and_then one_number (without_near words)) (sym c.in-Some.ensures)
