-- How many bytes a run takes from its store.
use Rattle.std.specs.Prelude.{ℕ, ◌+◌, Option, None, Some}
use Rattle.command_line.specs.Words.{Command}
use Rattle.command_line.specs.Words.Command.{Validate, Show, Demands, Sheet, Check, Solve, SolveFrom, Patterns, Explain, Part, Prove}
use Rattle.command_line.specs.Words.Command.{Bound, Resume, ResumeNear, Audit, Rows, Values, Circle, Make, Trial, Help, Version}
use Rattle.robinx.specs.declared.instance.TheConstants.{INSTANCE_LIMIT, SOLUTION_LIMIT}
use Rattle.command_check.specs.declared.feeding.TheConstants.{LOG_LIMIT}

-- the most bytes that are taken of a file of each kind: its limit, and one more, which shows that it is too long
abbrev of_instance : ℕ
of_instance = INSTANCE_LIMIT + 1

abbrev of_solution : ℕ
of_solution = SOLUTION_LIMIT + 1

abbrev of_log : ℕ
of_log = LOG_LIMIT + 1

-- the most bytes that a run takes whose words are these: of each file that they name, one more than its limit
abbrev pub most_taken : Option Command → ℕ
most_taken None = 0
most_taken (Some (Validate instance solution)) = of_instance + of_solution
most_taken (Some (Show instance solution most width)) = of_instance + of_solution
most_taken (Some (Demands instance members)) = of_instance
most_taken (Some (Sheet instance solution)) = of_instance + of_solution
most_taken (Some (Check instance log)) = of_instance + of_log
most_taken (Some (Solve instance budgets)) = of_instance
most_taken (Some (SolveFrom instance solution budgets)) = of_instance + of_solution
most_taken (Some (Patterns instance conflicts)) = of_instance
most_taken (Some (Explain instance conflicts)) = of_instance
most_taken (Some (Part instance members)) = of_instance
most_taken (Some (Prove instance solution floor conflicts)) = of_instance + of_solution
most_taken (Some (Bound instance log)) = of_instance + of_log
most_taken (Some (Resume instance solution k conflicts)) = of_instance + of_solution
most_taken (Some (ResumeNear instance solution k budgets)) = of_instance + of_solution
most_taken (Some (Audit instance solution k log)) = of_instance + of_solution + of_log
most_taken (Some (Rows instance goal)) = of_instance
most_taken (Some (Values instance values)) = of_instance + of_log
most_taken (Some (Circle n)) = 0
most_taken (Some (Make n seed)) = 0
most_taken (Some (Trial n seed budgets)) = 0
most_taken (Some (Help topic)) = 0
most_taken (Some Version) = 0
