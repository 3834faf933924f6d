use Rattle.std.proofs.Common.{◌≡◌, ◌+◌, length}
use Rattle.robinx.specs.Tags as tags
use Rattle.robinx.proofs.reading.attributes_at.Given as goal

abbrev pub invariant-attributes : goal.invariant-attributes
invariant-attributes l = record {
  tag : tags.attributes_at l.left l.attrs l.rest ≡ tags.attributes_at 64 l.fn.attrs l.bytes;
  count : length l.attrs + tags.more_attributes l.left l.attrs l.rest ≡ length l.fn.attrs + tags.more_attributes 64 l.fn.attrs l.bytes;
}

abbrev pub decreases-attributes : goal.decreases-attributes
decreases-attributes l = l.left
