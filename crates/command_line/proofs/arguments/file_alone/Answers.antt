use Rattle.std.proofs.Common.{sym, ◌∙◌}
use Rattle.command_line.proofs.StandingLemmas.{one_file-more, one_file-refused}
use Rattle.command_line.proofs.arguments.file_alone.Goals as goal
use Rattle.command_line.proofs.arguments.file_alone.Goals.{else-is_name-via-then-is_name+else-has_no_argument, else-is_name-via-else-is_name}

pub returns-else-is_name : goal.returns-else-is_name
returns-else-is_name c = elim c.else-is_name.branch [
  | else-is_name-via-then-is_name+else-has_no_argument w ↦
      one_file-more c.args.file.now _ (sym w.has_no_argument.ensures ∙ w.if-has_no_argument.false)
  | else-is_name-via-else-is_name w ↦ one_file-refused c.args.file.now _ (sym c.is_name.ensures ∙ w.if-is_name.false)
]
