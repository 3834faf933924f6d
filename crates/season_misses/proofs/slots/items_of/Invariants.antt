use Rattle.std.proofs.Common.{◌≡◌, take}
use Rattle.std.specs.List.{flat_map}
use Rattle.season_misses.specs.Phrases as phrases
use Rattle.season_misses.proofs.slots.items_of.Given as goal

-- the items of the runs so far
abbrev pub invariant-loop-run : goal.invariant-loop-run
invariant-loop-run l = l.items.items ≡ flat_map phrases.run_items (take l.run-index l.runs)
