use Rattle.refutation.specs.SeenPlace.{place_of}
use Rattle.refutation.proofs.PlainLemmas.{front-then, line-front, next-at_line, next_line}
use Rattle.refutation.proofs.place.Place.plain_lines.Goals as goal

pub lines-preserved : goal.lines-preserved
lines-preserved c =
    let at = place_of c.lines.self in
    let left = c.in-Some-2.left.now in
    let adds = rw c.in-Some-2.is at c.in_ok-left.ensures in
    record {
      place = next-at_line at c.in-Some.version c.lines.invariant.place;
      read = front-then (place_of c.args.self.now) at (next_line at) c.args.steps.now c.lines.steps
          c.push_line.new.self c.args.bytes.now c.lines.rest.now left c.lines.invariant.read
          (line-front c.in-Some.version c.lines.rest.now left c.lines.steps c.push_line.new.self adds at
          c.lines.invariant.place);
    }
