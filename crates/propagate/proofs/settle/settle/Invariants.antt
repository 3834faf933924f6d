use Rattle.propagate.specs.Looks.{IsGrownOver, IsTrail, left_of}
use Rattle.propagate.proofs.settle.settle.Given as goal

abbrev pub invariant-turns : goal.invariant-turns
invariant-turns l = record { grown : IsGrownOver l.fn.path l.path; trail : IsTrail l.path l.watches l.looked }

-- how much is left to look at
abbrev pub decreases-turns : goal.decreases-turns
decreases-turns l = left_of l.path l.looked
