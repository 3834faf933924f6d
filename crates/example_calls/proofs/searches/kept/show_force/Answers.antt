use Rattle.rows.proofs.TrailLemmas.{IsListed-none}
use Rattle.example_calls.proofs.searches.kept.show_force.Goals as goal

pub force-requires-clause-listed : goal.force-requires-clause-listed
force-requires-clause-listed c = rw (c.in_ok-partial.ensures, c.new-trail.ensures.items) (IsListed-none 2)
