-- What a contract sees of a command.
use Rattle.std.specs.Option.{option_copied}
use Rattle.std.specs.Prelude.{option_map}
use Rattle.command_line.specs.Words.{Command, members_of}
use Rattle.command_line.specs.Words.Command.{Validate, Show, Demands, Sheet, Check, Solve, SolveFrom, Patterns, Explain, Part, Prove}
use Rattle.command_line.specs.Words.Command.{Bound, Resume, ResumeNear, Audit, Rows, Values, Circle, Make, Trial, Help, Version}
use Rattle.command_line.specs.declared.words.Words.{Words}
use Rattle.command_line.specs.declared.words.Words.TheVariants as words

-- the command without where its words lie in memory, and with the numbers of a list in place of its text
abbrev pub command_of : Words → Command
command_of (words.Validate instance solution) = Validate instance.now solution.now
command_of (words.Show instance solution most width) = Show instance.now solution.now most width
command_of (words.Demands instance list) = Demands instance.now (option_map members_of (option_copied list))
command_of (words.Sheet instance solution) = Sheet instance.now solution.now
command_of (words.Check instance log) = Check instance.now log.now
command_of (words.Solve instance budgets) = Solve instance.now budgets
command_of (words.SolveFrom instance solution budgets) = SolveFrom instance.now solution.now budgets
command_of (words.Patterns instance conflicts) = Patterns instance.now conflicts
command_of (words.Explain instance conflicts) = Explain instance.now conflicts
command_of (words.Part instance list) = Part instance.now (members_of list.now)
command_of (words.Prove instance solution floor conflicts) = Prove instance.now solution.now floor conflicts
command_of (words.Bound instance log) = Bound instance.now log.now
command_of (words.Resume instance solution k conflicts) = Resume instance.now solution.now k conflicts
command_of (words.ResumeNear instance solution k budgets) = ResumeNear instance.now solution.now k budgets
command_of (words.Audit instance solution k log) = Audit instance.now solution.now k log.now
command_of (words.Rows instance goal) = Rows instance.now goal
command_of (words.Values instance values) = Values instance.now values.now
command_of (words.Circle n) = Circle n
command_of (words.Make n seed) = Make n seed
command_of (words.Trial n seed budgets) = Trial n seed budgets
command_of (words.Help topic) = Help topic
command_of words.Version = Version
