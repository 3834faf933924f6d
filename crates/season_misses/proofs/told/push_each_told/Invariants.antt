use Rattle.std.proofs.Common.{◌≡◌, ◌++◌, drop, string_bytes}
use Rattle.std.specs.List.{flat_map}
use Rattle.season_misses.specs.Misses.{told}
use Rattle.season_misses.proofs.told.push_each_told.Given as goal

-- the text so far, and then what is left, is the whole
abbrev pub invariant-loop-miss : goal.invariant-loop-miss
invariant-loop-miss l = string_bytes l.text ++ flat_map (told l.season.league.now l.season.names.now l.season.most l.season.games.now) (drop l.miss-index l.order) ≡ string_bytes l.fn.text ++ flat_map (told l.season.league.now l.season.names.now l.season.most l.season.games.now) l.order
