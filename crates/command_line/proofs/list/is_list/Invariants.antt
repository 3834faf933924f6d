use Rattle.std.specs.Prelude.{◌≡◌, is_some, length}
use Rattle.command_line.specs.Words.{members_in, rising, words_of}
use Rattle.command_line.proofs.list.is_list.Given as goal

-- the words that are left decide it
abbrev pub invariant-words : goal.invariant-words
invariant-words l = is_some (rising l.before (words_of l.rest)) ≡ is_some (members_in l.list)

-- each turn takes a word
abbrev pub decreases-words : goal.decreases-words
decreases-words l = length l.rest
