use Rattle.std.proofs.Common.{◌≡◌, ◌++◌, drop}
use Rattle.std.specs.List.{flat_map}
use Rattle.robinx.specs.SeenValues.{pair_text}
use Rattle.robinx.proofs.write_tag.put_pairs.Given as goal

-- the text so far, and then the pairs that are left, is the whole
abbrev pub invariant-loop-home : goal.invariant-loop-home
invariant-loop-home l = l.text.items ++ flat_map pair_text (drop l.home-index l.pairs) ≡ l.fn.text.items ++ flat_map pair_text l.pairs
