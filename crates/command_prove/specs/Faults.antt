-- How a contract sees that a certificate's text is refused.
use Rattle.std.specs.Prelude.{◌≡◌, Result, Err}
use Rattle.answers.specs.Reply.{Answer, log_malformed}
use Rattle.refutation.specs.Logs.{Fault}

-- a text has a fault of form, and is refused by it
abbrev pub IsMalformed : {X : Type 0} → Result X Fault → Answer → Type 0
IsMalformed {X} said answer = (fault : Fault) × (said ≡ Err fault) × (answer ≡ log_malformed fault.0 fault.1)
