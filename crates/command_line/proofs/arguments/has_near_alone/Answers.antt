use Rattle.std.proofs.Common.{◌∙◌, ◌&&◌, ◌==◌, Bool, ℕ, List, length, map, string_bytes, ap, sym}
use Rattle.command_line.specs.Standing.{is_near_alone}
use Rattle.command_line.specs.Words.{arguments_of}
use Rattle.command_line.proofs.StandingLemmas.{near_alone_first}
use Rattle.command_line.proofs.arguments.has_near_alone.Goals as goal

pub returns-then-is_near : goal.returns-then-is_near
returns-then-is_near c =
    let more : List (List ℕ) = arguments_of (map string_bytes c.in-Some.rest.now) in
    c.has_no_argument.ensures
    ∙ ap (λ (b : Bool). b && (length more == 0)) (sym (sym c.is_near.ensures ∙ c.if-is_near.true))
    ∙ near_alone_first c.in-Some.first.now more ∙ ap is_near_alone (sym c.in-Some.ensures)

pub returns-else-is_near : goal.returns-else-is_near
returns-else-is_near c =
    let more : List (List ℕ) = arguments_of (map string_bytes c.in-Some.rest.now) in
    c.if-is_near.false
    ∙ ap (λ (b : Bool). b && (length more == 0)) (sym (sym c.is_near.ensures ∙ c.if-is_near.false))
    ∙ near_alone_first c.in-Some.first.now more ∙ ap is_near_alone (sym c.in-Some.ensures)
