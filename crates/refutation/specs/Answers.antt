-- What a reader answers of what is read. Want of memory says nothing of it.
use Rattle.std.specs.Prelude.{◌≡◌, List, Result, Ok, Err}
use Rattle.refutation.specs.Steps.{Step}
use Rattle.refutation.specs.Logs.{Fault, Reading, no_steps_but, nothing_more}
use Rattle.refutation.specs.declared.fault.LogFault.{LogFault}
use Rattle.refutation.specs.declared.fault.LogFault.TheVariants.{Form, Mem}

-- the answer at the end of the text, which takes no memory
abbrev pub Finishes : Reading → Result (Unit {0}) LogFault → Type 0
Finishes read (Ok _) = read ≡ nothing_more
Finishes read (Err (Form kind line)) = read ≡ no_steps_but kind line
Finishes read (Err Mem) = ⊥

-- the answer to a whole text
abbrev pub SaysLog : Result (List Step) Fault → Result (List Step) LogFault → Type 0
SaysLog said (Ok steps) = said ≡ Ok steps
SaysLog said (Err (Form kind line)) = said ≡ Err (kind, line)
SaysLog said (Err Mem) = Unit {0}
