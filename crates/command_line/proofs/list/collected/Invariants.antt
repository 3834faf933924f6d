use Rattle.std.specs.Prelude.{◌≡◌, length}
use Rattle.command_line.specs.Words.{members_in, rising, words_of}
use Rattle.command_line.proofs.ListLemmas.{onto}
use Rattle.command_line.proofs.list.collected.Given as goal

-- the numbers so far, and those of the words that are left
abbrev pub invariant-words : goal.invariant-words
invariant-words l = onto l.members.items (rising l.before (words_of l.rest)) ≡ members_in l.list

-- each turn takes a word
abbrev pub decreases-words : goal.decreases-words
decreases-words l = length l.rest
