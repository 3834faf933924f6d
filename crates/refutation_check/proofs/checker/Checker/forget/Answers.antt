use Rattle.refutation_check.proofs.checker.Checker.forget.Goals as goal

pub invariant_of-self : goal.invariant_of-self
invariant_of-self c = record {
  free = c.self.invariant.free;
  sized = c.self.invariant.sized;
  unset = c.self.invariant.unset;
  nothing_added = c.self.invariant.nothing_added;
  within = c.let_row_go.ensures.within c.self.inside.rows.now c.self.inside.vars c.self.invariant.within;
  counted = c.let_row_go.ensures.counted;
}
