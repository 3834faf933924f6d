use Rattle.std.proofs.Common.{◌≡◌, ◌++◌, drop, string_bytes}
use Rattle.std.specs.List.{flat_map}
use Rattle.season_misses.specs.Misses.{all_breaks_text}
use Rattle.season_misses.proofs.told.push_breaks.Given as goal

-- the text so far, and then what is left, is the whole
abbrev pub invariant-loop-reason : goal.invariant-loop-reason
invariant-loop-reason l = string_bytes l.text ++ flat_map (all_breaks_text l.names l.most l.teams l.intp) (drop l.reason-index l.reasons) ≡ string_bytes l.fn.text ++ flat_map (all_breaks_text l.names l.most l.teams l.intp) l.reasons
