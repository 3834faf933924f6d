use Rattle.std.proofs.Common.{◌≡◌, ◌∙◌, Bor, if◌then◌else◌, Bool, true, ℕ, List, ◌∷◌, Option, None, Some, map, string_bytes, ap, sym}
use Rattle.std.specs.Prelude.{option_and_then, option_map}
use Rattle.command_line.specs.Words.{arguments_of, near_files_and_number, one_number, without_near}
use Rattle.command_line.proofs.StandingLemmas.{near_files_behind}
use Rattle.command_line.proofs.arguments.near_behind.Goals as goal

pub returns : goal.returns
returns c =
    let first : List ℕ = c.args.first.now in
    let second : List ℕ = c.in-Some.second.now in
    let more : List (List ℕ) = arguments_of (map string_bytes c.in-Some.rest.now) in
    let names : c.are_names.result ≡ true = c.if-not-are_names.false in
    let number : c.near_number.result ≡ Some c.in_ok-number.number = c.in_ok-number.was in
    ap (λ (o : Option ℕ). option_map (λ (n : ℕ). (first, second, n)) o) (sym (sym c.near_number.ensures ∙ number))
    ∙ ap (λ (b : Bool). if b then option_map (λ (n : ℕ). (first, second, n)) (option_and_then one_number (without_near more)) else None)
    (sym (sym c.are_names.ensures ∙ names))
    ∙ near_files_behind first second more c.requires (sym c.is_near.ensures ∙ c.if-is_near.false)
    ∙ ap (λ (words : List (List ℕ)). near_files_and_number (first ∷ words)) (sym c.in-Some.ensures)

pub returns-in_err-number : goal.returns-in_err-number
returns-in_err-number c =
    let first : List ℕ = c.args.first.now in
    let second : List ℕ = c.in-Some.second.now in
    let more : List (List ℕ) = arguments_of (map string_bytes c.in-Some.rest.now) in
    let names : c.are_names.result ≡ true = c.if-not-are_names.false in
    let number : c.near_number.result ≡ None = c.in_err-number.was in
    ap (λ (o : Option (Bor (List ℕ) × Bor (List ℕ) × ℕ)).
    option_map {U = List ℕ × List ℕ × ℕ} (λ found. (found.0.now, found.1.now, found.2)) o) c.from_residual.ensures
    ∙ ap (λ (o : Option ℕ). option_map (λ (n : ℕ). (first, second, n)) o) (sym (sym c.near_number.ensures ∙ number))
    ∙ ap (λ (b : Bool). if b then option_map (λ (n : ℕ). (first, second, n)) (option_and_then one_number (without_near more)) else None)
    (sym (sym c.are_names.ensures ∙ names))
    ∙ near_files_behind first second more c.requires (sym c.is_near.ensures ∙ c.if-is_near.false)
    ∙ ap (λ (words : List (List ℕ)). near_files_and_number (first ∷ words)) (sym c.in-Some.ensures)
