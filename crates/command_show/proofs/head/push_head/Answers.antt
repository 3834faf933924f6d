use Rattle.std.proofs.Common.{◌≡◌, ℕ, List, ◌+◌, ◌-◌, ◌++◌, ap, ◌∙◌, arith}
use Rattle.std.specs.Prelude.{codes, decimal}
use Rattle.std.proofs.lemmas.Result.{on_ok_weaker}
use Rattle.command_show.specs.Widths.{at_right, spaces, width_of}
use Rattle.command_show.specs.Grid.{grid_name}
use Rattle.command_show.proofs.JoinedTexts.{added_four}
use Rattle.command_show.proofs.head.push_head.Goals as goal

pub returns : goal.returns
returns c =
    let old = c.args.text.now.items in
    let digits = c.args.columns.digits in
    let front = c.args.columns.front in
    let name = grid_name c.args.season.now.names.now c.args.team.0 in
    let width : c.width_of.result ≡ width_of name = c.width_of.ensures.value ∙ ap width_of (c.deref.ensures ∙ c.in_ok-name.ensures) in
    let pad : c.saturating_sub.result ≡ front - (digits + 1 + width_of name) = omega (arith, c.saturating_sub.ensures, c.saturating_sub-left.ensures, width) in
    on_ok_weaker c.push_spaces.result
    (λ e.
    added_four old (at_right digits (decimal c.args.team.0)) (codes " ") name (spaces (front - (digits + 1 + width_of name)))
    c.push_number.new.text.items c.push.new.self.items c.extend_from_slice.new.self.items c.push_spaces.new.text.items
    (c.in_ok-push_number.ensures ∙ ap (λ (k : ℕ). old ++ at_right digits (decimal k)) c.from.ensures)
    c.in_ok-push.ensures.items
    (c.in_ok-extend_from_slice.ensures.items ∙ ap (λ (x : List ℕ). c.push.new.self.items ++ x) (c.as_bytes.ensures.value ∙ c.in_ok-name.ensures))
    (e ∙ ap (λ (k : ℕ). c.extend_from_slice.new.self.items ++ spaces k) pad))
    c.push_spaces.ensures
