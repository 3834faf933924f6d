use Rattle.robinx.proofs.WrittenTexts.{three_pieces}
use Rattle.robinx.proofs.write_solution.put_score.Goals as goal

pub returns : goal.returns
returns c =
    rw c.in-Some.is (three_pieces c.args.text.now.items c.extend_from_slice.new.self.items c.put_tag.new.text.items c.extend_from_slice-2.new.self.items _ _ _ c.in_ok-extend_from_slice.ensures.items c.in_ok-put_tag.ensures c.in_ok-extend_from_slice-2.ensures.items)
