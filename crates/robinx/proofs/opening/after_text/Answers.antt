use Rattle.std.proofs.Common.{Some, sym}
use Rattle.std.proofs.lemmas.List.{take_rest}
use Rattle.robinx.proofs.PieceTexts.{after_text_is}
use Rattle.robinx.proofs.opening.after_text.Goals as goal

pub returns : goal.returns
returns c =
    let found = after_text_is c.args.text.now c.args.bytes.now (Some c.in_ok-at.at) c.requires c.in_ok-at.ensures in
    rw take_rest (sym found)
