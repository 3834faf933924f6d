use Rattle.std.proofs.Common.{◌≡◌, ◌++◌, drop, map, string_bytes}
use Rattle.std.specs.List.{flat_map}
use Rattle.season_misses.specs.Lines.{next_break_slot}
use Rattle.season_misses.proofs.break_lines.push_slots.Given as goal

-- the text so far, and then what is left, is the whole
abbrev pub invariant-loop-found : goal.invariant-loop-found
invariant-loop-found l =
    string_bytes l.text ++ flat_map next_break_slot (map (λ b. b.now) (drop l.found-index l.others))
    ≡ string_bytes l.fn.text ++ flat_map next_break_slot (map (λ b. b.now) l.others)
