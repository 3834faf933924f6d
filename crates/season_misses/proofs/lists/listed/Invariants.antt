use Rattle.std.proofs.Common.{◌≡◌, ◌++◌, length, string_bytes}
use Rattle.season_misses.specs.Phrases as phrases
use Rattle.season_misses.proofs.lists.listed.Given as goal

-- the text so far, with the items that are left
abbrev pub invariant-loop-rest : goal.invariant-loop-rest
invariant-loop-rest l = string_bytes l.text ++ phrases.listed l.word l.rest ≡ phrases.listed l.word l.items

abbrev pub decreases-loop-rest : goal.decreases-loop-rest
decreases-loop-rest l = length l.rest
