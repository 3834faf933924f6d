-- The exit status that says how a run ended.
use Rattle.std.specs.Prelude.{ℕ}
use Rattle.answers.specs.declared.status.Status.{Status}
use Rattle.answers.specs.declared.status.Status.TheVariants.{Yes, No, Words, File, Refuted, Spent, ReadFault}
use Rattle.answers.specs.declared.status.Status.TheVariants.{WriteFault, Memory, Better}

-- the exit status
abbrev pub status_code : Status → ℕ
status_code Yes = 0
status_code No = 1
status_code Words = 2
status_code File = 3
status_code Refuted = 4
status_code Spent = 5
status_code ReadFault = 6
status_code WriteFault = 7
status_code Memory = 8
status_code Better = 9
