-- Cases: whether a member of a conflict is known to be needed.
use Rattle.std.specs.Prelude.{Bool, true, false}
use Rattle.explain.specs.declared.cases.Case.{Case}
use Rattle.explain.specs.declared.cases.Case.TheVariants.{Without, Undecided}

-- whether there is a schedule without the member
abbrev pub is_decided : Case → Bool
is_decided (Without schedule) = true
is_decided (Undecided log) = false
