use Rattle.std.proofs.Common.{arith, sym, ◌∙◌}
use Rattle.refutation.specs.SeenPlace.{place_of}
use Rattle.refutation.proofs.FeedLemmas.{keep-long}
use Rattle.refutation.proofs.place.Place.keep.Goals as goal

pub returns-then-front-len-clause-read : goal.returns-then-front-len-clause-read
returns-then-front-len-clause-read c = λ rest.
    keep-long (place_of c.args.self.now) (place_of c.stop-then-front-len.new.self) c.args.front.now rest
    (sym c.is_some.ensures ∙ c.if-is_some.false) c.if-self.false c.requires.place c.requires.front
    (omega (arith, c.if-front-len.true, c.len.ensures, c.args.self.now.text.ok)) c.stop-then-front-len.ensures
