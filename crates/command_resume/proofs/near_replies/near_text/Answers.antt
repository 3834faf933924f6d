use Rattle.std.proofs.Common.{ℕ, ◌++◌, List, ap, sym, ◌∙◌}
use Rattle.command_resume.specs.Near.{near_line}
use Rattle.command_resume.proofs.near_replies.near_text.Goals as goal

pub returns : goal.returns
returns c =
    c.in_ok-extend_from_slice.ensures.items
    ∙ ap (λ (line : List ℕ). c.in_ok-text.text.items ++ line) (c.as_bytes.ensures.value ∙ c.in_ok-line.ensures)
    ∙ ap (λ (text : List ℕ). text ++ near_line c.args.changed c.args.games c.args.settled) c.in_ok-text.ensures.text
