use Rattle.std.proofs.Common.{[], sym, ◌∙◌}
use Rattle.refutation.specs.SeenPlace.{place_of}
use Rattle.refutation.proofs.FeedLemmas.{end-ended, fed-line, next-same}
use Rattle.refutation.proofs.place.Place.end_line.Goals as goal

pub returns-then-self-clause-read : goal.returns-then-self-clause-read
returns-then-self-clause-read c =
    end-ended (place_of c.args.self.now) (place_of c.stop.new.self) c.args.steps.now c.args.front.now
    (sym c.is_some.ensures ∙ c.if-is_some.false) c.if-self.true c.requires.place c.requires.front c.stop.ensures

pub returns-clause-read : goal.returns-clause-read
returns-clause-read c =
    let before = place_of c.args.self.now in
    let outcome = c.in_ok-read.field-0 in
    fed-line before c.args.front.now (sym c.is_some.ensures ∙ c.if-is_some.false) c.if-self.false c.requires.place
    c.requires.front outcome (place_of c.go_on.new.self) c.args.steps.now c.whole_line-read.new.steps
    c.in_ok-read.ensures.read
    (c.go_on.ensures ∙ next-same before (place_of c.whole_line-read.new.self) outcome c.in_ok-read.ensures.kept
    [])
