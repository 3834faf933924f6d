use Rattle.std.proofs.Common.{◌≡◌, ◌++◌, drop}
use Rattle.std.specs.List.{flat_map}
use Rattle.robinx.specs.SeenValues.{further_text}
use Rattle.robinx.proofs.write_tag.put_further_ids.Given as goal

-- the text so far, and then the ids that are left, is the whole
abbrev pub invariant-loop-id : goal.invariant-loop-id
invariant-loop-id l = l.text.items ++ flat_map further_text (drop l.id-index l.ids) ≡ l.fn.text.items ++ flat_map further_text l.ids
