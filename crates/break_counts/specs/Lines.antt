-- Steps whose lines are short for certain.
use Rattle.std.specs.Prelude.{ℕ, ◌≤◌, length}
use Rattle.refutation.specs.Logs.{most_bytes}
use Rattle.refutation.specs.Steps.{Step}
use Rattle.refutation.specs.Texts.{step_text}
use Rattle.refutation.specs.declared.version.Version.{Version}

-- 10^12
abbrev pub most_number : ℕ
most_number = 1000000000000

-- in each version its line is within the limit of a line
abbrev pub IsShort : Step → Type 0
IsShort step = (version : Version) → length (step_text version step) ≤ most_bytes
