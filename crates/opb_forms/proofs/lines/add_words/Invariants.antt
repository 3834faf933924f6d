use Rattle.std.proofs.Common.{◌≡◌, ◌≤◌, length}
use Rattle.opb_forms.specs.Answers.{behind}
use Rattle.opb_forms.specs.Values.{said_by_words, words_of}
use Rattle.opb_forms.proofs.lines.add_words.Given as goal

-- what is said so far, and then by the rest, is what the whole line says
abbrev pub invariant-words : goal.invariant-words
invariant-words l = record {
  said : behind l.lits.items (said_by_words (words_of l.rest)) ≡ behind l.fn.lits.items (said_by_words (words_of l.text));
  short : length l.rest ≤ length l.text;
}

abbrev pub decreases-words : goal.decreases-words
decreases-words l = length l.rest
