use Rattle.robinx.proofs.PieceLemmas.{GivesNext-moved}
use Rattle.robinx.proofs.reader.TagReader.next.Goals as goal

pub returns : goal.returns
returns c = GivesNext-moved _ _ c.in_ok-tag.tag c.in_ok-tag.line c.in_ok-tag.rest c.self.view_is c.in_ok-tag.ensures.pieces
