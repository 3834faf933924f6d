-- How a checker is kept: between two steps nothing is set or added up, all its rows are within its variables, and the
-- bytes of its steps are counted.
use Rattle.std.specs.Prelude.{◌≡◌, [], length, map}
use Rattle.rows.specs.Values.{valued}
use Rattle.rows.specs.Sums.{no_totals}
use Rattle.rows.specs.Tables.{totals_of}
use Rattle.refutation.specs.Following.{all_free}
use Rattle.refutation_check.specs.Judged.{Judged}
use Rattle.refutation_check.specs.Kept.{all_rows, judged_step, state_of}
use Rattle.refutation_check.specs.Room.{steps_bytes}
use Rattle.refutation_check.specs.Within.{AreWithin}
use Rattle.refutation_check.specs.declared.checker.Checker.TheInside.{Inside}

abbrev pub judged_of : Inside → Judged
judged_of c = state_of c.rows.now c.vars c.steps.items c.rejection

pub record IsKept (c : Inside) : Type 0 where
  pub free : valued c.partial ≡ all_free
  pub sized : length c.partial ≡ c.vars
  pub unset : c.trail.items ≡ []
  pub nothing_added : totals_of c.sum ≡ no_totals
  pub within : AreWithin c.vars (all_rows c.rows.now c.steps.items)
  pub counted : c.bytes ≡ steps_bytes (map judged_step c.steps.items)
