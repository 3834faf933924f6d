-- What functions answer of what is read. Want of memory says nothing of it.
use Rattle.std.specs.Prelude.{◌≡◌, ⊤, ℕ, Result, Ok, Err}
use Rattle.robinx.specs.Faults.{fault_on}
use Rattle.robinx.specs.declared.tag_fault.FormKind.{FormKind}
use Rattle.robinx.specs.declared.tag_fault.Stop.{Stop}
use Rattle.robinx.specs.declared.tag_fault.Stop.TheVariants as stops
use Rattle.robinx.specs.Walk.{Fault}
use Rattle.robinx.specs.Tagged.{of_tags}
use Rattle.robinx.specs.declared.fault.ReadFault.{ReadFault}
use Rattle.robinx.specs.declared.fault.ReadFault.TheVariants as faults

-- What a file says is the answer: a value, or the first fault, its kind and its line.
abbrev pub Says : {A : Type 0} → Result A Fault → Result A ReadFault → Type 0
Says said (Ok x) = said ≡ Ok x
Says said (Err (faults.Form fault)) = said ≡ Err (fault.kind, fault.line)
Says said (Err faults.Mem) = ⊤

-- What is read is what a call makes of a value, which is `now` after it.
abbrev pub Changes : {A : Type 0} → Result A FormKind → Result (Unit {0}) Stop → A → Type 0
Changes read (Ok _) now = read ≡ Ok now
Changes read (Err (stops.Form kind)) now = read ≡ Err kind
Changes read (Err stops.Mem) now = ⊤

-- What is read is what a call makes of a value, where a fault has its line.
abbrev pub Walks : {A : Type 0} → Result A Fault → Result (Unit {0}) ReadFault → A → Type 0
Walks read (Ok _) now = read ≡ Ok now
Walks read (Err (faults.Form fault)) now = read ≡ Err (fault.kind, fault.line)
Walks read (Err faults.Mem) now = ⊤

-- an answer, of which a fault is on this line
abbrev pub answer_on : ℕ → Result (Unit {0}) Stop → Result (Unit {0}) ReadFault
answer_on line (Ok x) = Ok x
answer_on line (Err stop) = Err (of_tags (fault_on line stop))
