-- How a run may end, where its text is written whole.
use Rattle.std.specs.Prelude.{true, ◌≢◌, ◌≡◌, Bool, ◌==◌, List, [], ◌∷◌, Option, None, Some}
use Rattle.std.specs.List.{list_any}
use Rattle.answers.specs.Status.{status_code}
use Rattle.answers.specs.declared.status.Status.{Status}
use Rattle.answers.specs.declared.status.Status.TheVariants.{Yes, No, Words, File, Refuted, Spent, ReadFault, Better}
use Rattle.answers.specs.declared.status.Status.TheVariants.{Memory, WriteFault}
use Rattle.command_line.specs.Words.{Command}
use Rattle.command_line.specs.Words.Command.{Validate, Show, Demands, Sheet, Check, Solve, SolveFrom, Patterns, Explain, Part, Prove}
use Rattle.command_line.specs.Words.Command.{Bound, Resume, ResumeNear, Audit, Rows, Values, Circle, Make, Trial, Help, Version}
use Rattle.robin_run.specs.Run.{Run}

-- the ends that these words have
abbrev pub ends_of : Option Command → List Status
ends_of None = Words ∷ []
ends_of (Some (Validate instance solution)) = Yes ∷ No ∷ File ∷ ReadFault ∷ []
ends_of (Some (Show instance solution most width)) = Yes ∷ No ∷ File ∷ ReadFault ∷ []
ends_of (Some (Demands instance members)) = Yes ∷ File ∷ ReadFault ∷ []
ends_of (Some (Sheet instance solution)) = Yes ∷ No ∷ File ∷ ReadFault ∷ []
ends_of (Some (Check instance log)) = Yes ∷ No ∷ File ∷ ReadFault ∷ []
ends_of (Some (Solve instance budgets)) = Yes ∷ Refuted ∷ Spent ∷ File ∷ ReadFault ∷ []
ends_of (Some (SolveFrom instance solution budgets)) = Yes ∷ No ∷ Refuted ∷ Spent ∷ File ∷ ReadFault ∷ []
ends_of (Some (Patterns instance conflicts)) = Yes ∷ Refuted ∷ Spent ∷ File ∷ ReadFault ∷ []
ends_of (Some (Explain instance conflicts)) = Yes ∷ Refuted ∷ Spent ∷ File ∷ ReadFault ∷ []
ends_of (Some (Part instance members)) = Yes ∷ File ∷ ReadFault ∷ []
ends_of (Some (Prove instance solution floor conflicts)) = Yes ∷ No ∷ Better ∷ Spent ∷ File ∷ ReadFault ∷ []
ends_of (Some (Bound instance log)) = Yes ∷ No ∷ File ∷ ReadFault ∷ []
ends_of (Some (Resume instance solution k conflicts)) = Yes ∷ Refuted ∷ Spent ∷ File ∷ ReadFault ∷ []
ends_of (Some (ResumeNear instance solution k budgets)) = Yes ∷ Refuted ∷ Spent ∷ File ∷ ReadFault ∷ []
ends_of (Some (Audit instance solution k log)) = Yes ∷ No ∷ File ∷ ReadFault ∷ []
ends_of (Some (Rows instance goal)) = Yes ∷ File ∷ ReadFault ∷ []
ends_of (Some (Values instance values)) = Yes ∷ No ∷ File ∷ ReadFault ∷ []
ends_of (Some (Circle n)) = Yes ∷ []
ends_of (Some (Make n seed)) = Yes ∷ []
ends_of (Some (Trial n seed budgets)) = Yes ∷ File ∷ []
ends_of (Some (Help topic)) = Yes ∷ []
ends_of (Some Version) = Yes ∷ []

-- whether a run with these words may end so
abbrev pub may_end : Option Command → Status → Bool
may_end words status = list_any (λ one. status_code one == status_code status) (ends_of words)

-- a run ends as its words may, unless memory runs out or the text can't be written
abbrev pub EndsByWords : Run → Type 0
EndsByWords run = run.ended ≢ Memory → run.ended ≢ WriteFault → may_end run.command run.ended ≡ true
