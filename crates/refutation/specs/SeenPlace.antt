-- How a place is kept, and where it goes.
use Rattle.std.specs.Prelude.{◌≡◌, ℕ, ◌+◌, ◌≤◌, ◌==◌, Bool, true, List, [], length, IfSome, Some, Result, Ok}
use Rattle.std.specs.Prelude.{Err}
use Rattle.refutation.specs.Steps.{Step}
use Rattle.std.specs.Str.{byte}
use Rattle.refutation.specs.Logs.{Line, most_bytes}
use Rattle.refutation.specs.Cuts.{Lacks}
use Rattle.refutation.specs.Logs.Line.{End, Heading}
use Rattle.refutation.specs.Places.{Place}
use Rattle.refutation.specs.Outcomes.{AddsLine}
use Rattle.refutation.specs.declared.fault.LogKind.{LogKind}
use Rattle.refutation.specs.declared.fault.Stop.{Stop}
use Rattle.refutation.specs.declared.fault.Stop.TheVariants.{Form}
use Rattle.refutation.specs.declared.line.LineKind.{LineKind}
use Rattle.refutation.specs.declared.line.LineKind.TheVariants as kinds
use Rattle.refutation.specs.declared.place.Place.{Place as Kept}
use Rattle.refutation.specs.declared.place.Outcome.{Outcome}
use Rattle.refutation.specs.declared.place.Outcome.TheVariants as outcomes

abbrev pub is_line_feed : ℕ → Bool
is_line_feed b = b == byte "\n"

-- what each reader keeps: the bytes of one line, not too many, and none behind `end`; a fault is of the line that it is
-- in
pub record IsPlace (at : Place) : Type 0 where
  pub one_line : Lacks is_line_feed at.text
  pub short : length at.text ≤ most_bytes
  pub nothing : at.ended ≡ true → at.text ≡ []
  pub at_fault : IfSome at.fault (λ fault. fault.1 ≡ at.line)

-- a place as contracts see it
abbrev pub place_of : Kept → Place
place_of p = record { line = p.line; text = p.text.items; version = p.version; ended = p.ended; fault = p.fault }

-- what a line's reader answered, where memory sufficed
abbrev pub GivesOutcome : Result LineKind Stop → Outcome → Type 0
GivesOutcome read (outcomes.Heading version) = read ≡ Ok (kinds.Heading version)
GivesOutcome read outcomes.End = read ≡ Ok kinds.End
GivesOutcome read outcomes.Step = read ≡ Ok kinds.Step
GivesOutcome read (outcomes.Fault kind) = read ≡ Err (Form kind)

-- what a line that was read says
abbrev pub SaysOutcome : Result Line LogKind → Outcome → List Step → List Step → Type 0
SaysOutcome said (outcomes.Heading version) old new = (said ≡ Ok (Heading version)) × (new ≡ old)
SaysOutcome said outcomes.End old new = (said ≡ Ok End) × (new ≡ old)
SaysOutcome said outcomes.Step old new = AddsLine said old new
SaysOutcome said (outcomes.Fault kind) old new = (said ≡ Err kind) × (new ≡ old)

-- where a reader is behind a line
abbrev pub next_place : Place → Outcome → Place
next_place at (outcomes.Heading version) =
    record { line = at.line + 1; text = []; version = Some version; ended = at.ended; fault = at.fault }
next_place at outcomes.End =
    record { line = at.line + 1; text = []; version = at.version; ended = true; fault = at.fault }
next_place at outcomes.Step =
    record { line = at.line + 1; text = []; version = at.version; ended = at.ended; fault = at.fault }
next_place at (outcomes.Fault kind) =
    record { line = at.line; text = []; version = at.version; ended = at.ended; fault = Some (kind, at.line) }

-- only the line's bytes changed
pub record IsSameButText (old new : Place) : Type 0 where
  pub line : new.line ≡ old.line
  pub version : new.version ≡ old.version
  pub ended : new.ended ≡ old.ended
  pub fault : new.fault ≡ old.fault
