use Rattle.std.proofs.Common.{◌≡◌, ◌++◌, drop, string_bytes}
use Rattle.std.specs.List.{flat_map}
use Rattle.command_show.specs.Demands.{demand_at}
use Rattle.command_show.proofs.asked.push_demands.Given as goal

-- the text so far, and then what is left, is the whole
abbrev pub invariant-loop-number : goal.invariant-loop-number
invariant-loop-number l = string_bytes l.text ++ flat_map (demand_at l.league l.labels l.hard) (drop l.number-index l.numbers) ≡ string_bytes l.fn.text ++ flat_map (demand_at l.league l.labels l.hard) l.numbers
