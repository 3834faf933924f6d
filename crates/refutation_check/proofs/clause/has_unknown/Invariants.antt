use Rattle.std.proofs.Common.{◌≡◌, ◌≤◌, false, nat_lt, take}
use Rattle.std.specs.List.{All, list_any}
use Rattle.refutation_check.proofs.clause.has_unknown.Given as goal

abbrev pub invariant-loop-lit : goal.invariant-loop-lit
invariant-loop-lit l = record {
  none : list_any (λ m. nat_lt l.vars m.var) (take l.lit-index l.clause) ≡ false;
  known : All (λ m. m.var ≤ l.vars) (take l.lit-index l.clause);
}
