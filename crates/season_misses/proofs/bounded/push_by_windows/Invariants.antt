use Rattle.std.proofs.Common.{◌≡◌, ◌++◌}
use Rattle.std.specs.List.{filter, flat_map, range_with_len}
use Rattle.season_misses.specs.Counting.{counts_in_ca3}
use Rattle.season_misses.specs.Reasons.{by_window}
use Rattle.season_misses.proofs.bounded.push_by_windows.Given as goal

-- the reasons of the windows so far
abbrev pub invariant-loop-first : goal.invariant-loop-first
invariant-loop-first l = l.reasons.items
    ≡ l.fn.reasons.items ++ flat_map (λ first. by_window l.entry.key l.entry.min l.entry.max first (filter (counts_in_ca3 l.others l.windows.intp l.fn.player.side l.fn.player.team first) l.season.games.now)) (range_with_len 0 l.first)
