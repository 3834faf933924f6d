use Rattle.std.proofs.Common.{◌≡◌, ◌++◌, drop, string_bytes}
use Rattle.command_check.specs.Report.{entries_text}
use Rattle.command_check.proofs.lines.push_entries.Given as goal

-- the text so far, and then what is left, is the whole
abbrev pub invariant-loop-entry : goal.invariant-loop-entry
invariant-loop-entry l = string_bytes l.text ++ entries_text (drop l.entry-index l.entries) ≡ string_bytes l.fn.text ++ entries_text l.entries
