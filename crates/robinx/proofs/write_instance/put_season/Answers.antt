use Rattle.std.proofs.Common.{◌++◌, ℕ, ap, ◌∙◌}
use Rattle.std.specs.List.{flat_map, range_with_len}
use Rattle.robinx.specs.Texts.{slot_line}
use Rattle.robinx.proofs.WrittenTexts.{four_pieces}
use Rattle.robinx.proofs.write_instance.put_season.Goals as goal

pub returns : goal.returns
returns c =
    four_pieces c.args.text.now.items c.put_ids.new.text.items c.extend_from_slice.new.self.items c.put_ids-2.new.text.items c.extend_from_slice-2.new.self.items _ _ _ _
    c.in_ok-put_ids.ensures c.in_ok-extend_from_slice.ensures.items
    (c.in_ok-put_ids-2.ensures ∙ ap (λ (k : ℕ). c.extend_from_slice.new.self.items ++ flat_map slot_line (range_with_len 0 k)) c.slot_count.ensures) c.in_ok-extend_from_slice-2.ensures.items
