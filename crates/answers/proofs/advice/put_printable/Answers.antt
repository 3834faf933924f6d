use Rattle.answers.proofs.PrintableLemmas.{appended}
use Rattle.answers.proofs.advice.put_printable.Goals as goal

pub returns-in_err-extend_from_slice : goal.returns-in_err-extend_from_slice
returns-in_err-extend_from_slice c = rw c.in_err-extend_from_slice.ensures.items c.requires.text

pub returns : goal.returns
returns c =
    appended c.args.text.now.items c.args.piece.now c.extend_from_slice.new.self.items c.requires.text c.requires.piece c.in_ok-extend_from_slice.ensures.items
