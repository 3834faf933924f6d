-- What a contract sees of what is written.
use Rattle.std.specs.Prelude.{ℕ, List, Option, option_map}
use Rattle.std.specs.Borrow.{Bor}
use Rattle.rows.specs.Rows.{Row}
use Rattle.rows.specs.declared.lit.Term.{Term}
use Rattle.opb_forms.specs.Systems.{System}

-- rows of so many variables, with the terms of what is to be least, if anything is
abbrev pub system_of : ℕ → Option (Bor (List Term)) → List Row → System
system_of vars least rows = record { vars = vars; least = option_map (λ terms. terms.now) least; rows = rows }
