use Rattle.std.proofs.Common.{sym, ◌∙◌}
use Rattle.robinx.proofs.PieceLemmas.{pieces_from-last}
use Rattle.robinx.proofs.reader.TagReader.end_line.Goals as goal

pub returns : goal.returns
returns c = λ line is.
    let here = rw (← c.self.view_is) at is in
    c.line_past.ensures ∙ sym (pieces_from-last c.self.inside.line 0 c.self.inside.rest.now line here)
