use Rattle.std.proofs.Common.{ap}
use Rattle.std.specs.Prelude.{is_some}
use Rattle.refutation.specs.SeenPlace.{place_of}
use Rattle.refutation.proofs.FeedLemmas.{finish-open}
use Rattle.refutation.proofs.place.Place.finish.Goals as goal

pub returns : goal.returns
returns c = finish-open (place_of c.args.self.now) (ap is_some c.in_default.is) c.if-self.false c.requires
