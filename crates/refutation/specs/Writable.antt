-- Logs whose text is read as them, and the texts of a log.
use Rattle.std.specs.Prelude.{◌≡◌, ℕ, ◌≤◌, false, List, length}
use Rattle.std.specs.List.{All}
use Rattle.refutation.specs.Steps.{Step, is_linear}
use Rattle.refutation.specs.Logs.{most_bytes}
use Rattle.refutation.specs.Texts.{step_text, text_in, version_of}
use Rattle.refutation.specs.declared.version.Version.{Version}
use Rattle.refutation.specs.declared.version.Version.TheVariants.{One}

-- no line passes the limit of a line
abbrev pub HasShortLines : List Step → Type 0
HasShortLines steps = All (λ step. length (step_text (version_of steps) step) ≤ most_bytes) steps

-- a step that a text of this version can say: version 1 has no linear steps
abbrev pub CanSay : Version → Step → Type 0
CanSay version step = version ≡ One → is_linear step ≡ false

-- bytes that are the text of these steps, in one of the versions that can say them
abbrev pub IsLogText : List ℕ → List Step → Type 0
IsLogText bytes steps = (version : Version) × All (CanSay version) steps × (bytes ≡ text_in version steps)
