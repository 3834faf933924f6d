use Rattle.std.proofs.Common.{◌++◌, ℕ, List, ap, ◌∙◌}
use Rattle.robinx.proofs.WrittenTexts.{four_pieces}
use Rattle.robinx.proofs.write_instance.put_head.Goals as goal

pub returns : goal.returns
returns c =
    four_pieces c.args.text.now.items c.extend_from_slice.new.self.items c.extend_from_slice-2.new.self.items c.extend_from_slice-3.new.self.items c.extend_from_slice-4.new.self.items _ _ _ _
    c.in_ok-extend_from_slice.ensures.items c.in_ok-extend_from_slice-2.ensures.items
    (c.in_ok-extend_from_slice-3.ensures.items ∙ ap (λ (l : List ℕ). c.extend_from_slice-2.new.self.items ++ l) (c.as_bytes.ensures.value ∙ c.mode_word.ensures)) c.in_ok-extend_from_slice-4.ensures.items
