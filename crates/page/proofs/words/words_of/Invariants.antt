use Rattle.std.proofs.Common.{◌≡◌, ◌++◌, ◌==◌, drop, map, string_bytes}
use Rattle.std.specs.List.{slice_split}
use Rattle.page.proofs.words.words_of.Given as goal

-- the words so far, and then the lines that are left, are all lines
abbrev pub invariant-loop-line : goal.invariant-loop-line
invariant-loop-line l =
    map string_bytes l.words.items ++ map (λ line. line.now) (drop l.line-index l.line-items) ≡ slice_split (λ b. b == 10) l.fn.text
