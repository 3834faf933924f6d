-- The options with values of a command, their names, and what their values are to be.
use Rattle.std.specs.Prelude.{ℕ, List, Option, Some, None}
use Rattle.command_line.specs.Faults.{log_option, prove_option, row_option, search_option, show_option, solve_option}
use Rattle.command_line.specs.Faults.{start_option, timed_option}
use Rattle.command_line.specs.Words.{log_options, prove_options, row_options, search_options, show_options}
use Rattle.command_line.specs.Words.{solve_options, start_options, timed_options}
use Rattle.command_line.specs.declared.option_names.Options.{Options}
use Rattle.command_line.specs.declared.option_names.Options.TheVariants as variants
use Rattle.command_line.specs.declared.role.Role.{Role}
use Rattle.command_line.specs.declared.topic.Topic.{Topic}
use Rattle.command_line.specs.declared.topic.Topic.TheVariants as topic

abbrev pub names_of : Options → List (List ℕ)
names_of variants.Search = search_options
names_of variants.Timed = timed_options
names_of variants.Solve = solve_options
names_of variants.Start = start_options
names_of variants.Prove = prove_options
names_of variants.Log = log_options
names_of variants.Rows = row_options
names_of variants.Show = show_options

abbrev pub role_among : Options → List ℕ → Option Role
role_among variants.Search word = search_option word
role_among variants.Timed word = timed_option word
role_among variants.Solve word = solve_option word
role_among variants.Start word = start_option word
role_among variants.Prove word = prove_option word
role_among variants.Log word = log_option word
role_among variants.Rows word = row_option word
role_among variants.Show word = show_option word

abbrev pub options_of : Topic → Option Options
options_of topic.Solve = Some variants.Start
options_of topic.Trial = Some variants.Solve
options_of topic.Patterns = Some variants.Search
options_of topic.Explain = Some variants.Timed
options_of topic.Prove = Some variants.Prove
options_of topic.Resume = Some variants.Solve
options_of topic.Rows = Some variants.Rows
options_of topic.Show = Some variants.Show
options_of topic.Check = Some variants.Log
options_of topic.Bound = Some variants.Log
options_of topic.Audit = Some variants.Log
options_of _ = None
