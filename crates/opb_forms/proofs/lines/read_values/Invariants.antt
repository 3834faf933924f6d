use Rattle.std.proofs.Common.{◌≡◌, ◌+◌, ◌≤◌, length}
use Rattle.opb_forms.specs.Values.{said_from}
use Rattle.opb_forms.proofs.SaidLemmas.{in_front, lines_of}
use Rattle.opb_forms.proofs.lines.read_values.Given as goal

-- what is said so far, and then by the rest, is what the whole file says
abbrev pub invariant-lines : goal.invariant-lines
invariant-lines l = record {
  said : in_front l.lits.items (said_from l.line (lines_of l.rest)) ≡ said_from 1 (lines_of l.bytes);
  line : l.line + length l.rest ≤ length l.bytes + 1;
  least : 1 ≤ l.line;
}

abbrev pub decreases-lines : goal.decreases-lines
decreases-lines l = length l.rest
