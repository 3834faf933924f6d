use Rattle.std.proofs.lemmas.Option.{slice_get-get_or}
use Rattle.refutation.proofs.log.ends_of.Goals as goal

pub returns-clause-to : goal.returns-clause-to
returns-clause-to c = slice_get-get_or c.args.ends.now c.args.k _ c.requires
