use Rattle.std.proofs.Common.{ℕ, ◌≤◌, ◌<◌, get_or}
use Rattle.rows.specs.Partials.{IsQuietRow}
use Rattle.rows.specs.Values.{valued}
use Rattle.propagate.specs.Links.{links_of}
use Rattle.propagate.specs.Numbered.{row_at}
use Rattle.propagate.specs.declared.link.Link.{Link}
use Rattle.propagate.proofs.counters.Counters.past_quiet.Given as goal

abbrev pub invariant-rows : goal.invariant-rows
invariant-rows l = record {
  within : l.left ≤ l.fn.at;
  quiet : (i : ℕ) (d : Link) → l.left ≤ i → i < l.fn.at
      → IsQuietRow (valued l.fn.self.values) (row_at l.fn.self.rows (get_or (links_of l.fn.self.lists l.fn.lit) i d).row);
}

abbrev pub decreases-rows : goal.decreases-rows
decreases-rows l = l.left
