-- What a draft shows of its fields.
use Rattle.std.specs.Prelude.{ℕ, Option}
use Rattle.robin_host.specs.declared.draft.Begun.{Begun}
use Rattle.robin_host.specs.declared.draft.Draft.{Draft}

-- the new file, where it is made
abbrev pub draft_file : {R F D : Type 0} → Draft R F D → Option (Begun F)
draft_file draft = draft.begun

-- how often the draft has failed
abbrev pub draft_faults : {R F D : Type 0} → Draft R F D → ℕ
draft_faults draft = draft.faults
