-- Each law is a theorem about the definitions.
use Rattle.bound_rows.proofs.Faithful.{bounded-from_rows, bounds-from_refuted, values-from_bounded}
use Rattle.bound_rows.proofs.laws.faithful.Goals as goal

pub returns-clause-values : goal.returns-clause-values
returns-clause-values c = values-from_bounded

pub returns-clause-answers : goal.returns-clause-answers
returns-clause-answers c = bounded-from_rows

pub returns-clause-refuted : goal.returns-clause-refuted
returns-clause-refuted c = bounds-from_refuted
