-- A literal gives its number back.
use Rattle.std.specs.Prelude.{◌≡◌, ℕ}
use Rattle.std.proofs.Common.{ap}
use Rattle.rows.specs.Codes.{code_of, literal_of, code_of-literal_of}
use Rattle.rows.specs.declared.lit.Lit.TheInside.{Inside}

abbrev pub with_code : ℕ → Inside
with_code code = record { code = code }

pub code_is : (l : Inside) → with_code (code_of (literal_of l.code)) ≡ l
code_is l = ap with_code (code_of-literal_of l.code)
