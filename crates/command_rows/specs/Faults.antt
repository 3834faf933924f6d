-- How a contract sees that a file of values is refused.
use Rattle.std.specs.Prelude.{◌≡◌, ℕ, List, Result, Err}
use Rattle.answers.specs.Reply.{Answer}
use Rattle.rows.specs.Literals.{Literal}
use Rattle.command_rows.specs.Valued.{values_malformed}

-- a file has a fault, and is refused by it
abbrev pub IsMalformed : Result (List Literal) ℕ → Answer → Type 0
IsMalformed said answer = (line : ℕ) × (said ≡ Err line) × (answer ≡ values_malformed line)
