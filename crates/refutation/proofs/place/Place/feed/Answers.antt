use Rattle.std.proofs.Common.{◌+◌, [], ◌∷◌, ◌++◌, length, take, arith, sym, ap, ◌∙◌}
use Rattle.std.proofs.lemmas.List.{length-drop, take_rest}
use Rattle.refutation.specs.SeenPlace.{place_of}
use Rattle.refutation.proofs.FeedLemmas.{ReadsOn-then, line-parts, rest-lacks}
use Rattle.refutation.proofs.PlainLemmas.{front-on}
use Rattle.refutation.proofs.place.Place.feed.Goals as goal

pub lines-init : goal.lines-init
lines-init c =
    let front = c.in_ok-rest.ensures in
    record {
      place = front.place;
      line = front.read.line;
      read = λ now new next.
          front-on (place_of c.args.self.now) (place_of c.plain_lines.new.self) now c.args.steps.now
          c.plain_lines.new.steps new c.args.piece.now c.in_ok-rest.rest.now front.read next;
    }

pub lines-preserved : goal.lines-preserved
lines-preserved c =
    let rest = c.lines.rest.now in
    let at = c.in-Some.at in
    let front = c.in_ok-rest-2.ensures in
    record {
      place = front.place;
      line = omega (
        arith,
        front.read.line,
        c.in_ok-end_line.ensures.line,
        c.lines.invariant.line,
        length-drop (at + 1) rest,
        ap length (take_rest rest (at + 1)),
        c.in-Some.ensures.0.high,
      );
      read = λ now new next. c.lines.invariant.read now new
          (ReadsOn-then _ _ _ _ _ _ rest (take at rest ++ 10 ∷ []) _
          (line-parts rest at c.in-Some.ensures ∙ ap (λ behind. (take at rest ++ 10 ∷ []) ++ behind)
          (sym (take_rest rest (at + 1))))
          c.in_ok-end_line.ensures.read
          (front-on (place_of c.end_line.new.self) (place_of c.plain_lines-in-Some.new.self) now c.end_line.new.steps
          c.plain_lines-in-Some.new.steps new _ c.in_ok-rest-2.rest.now front.read next));
    }

pub keep-requires-clause-front : goal.keep-requires-clause-front
keep-requires-clause-front c = rest-lacks c.lines.rest.now c.in_default.ensures
