use Rattle.std.proofs.Common.{length}
use Rattle.refutation.specs.Fronts.{IsAtLine, ReadsFront}
use Rattle.refutation.specs.SeenPlace.{place_of}
use Rattle.refutation.proofs.place.Place.plain_lines.Given as goal

abbrev pub invariant-lines : goal.invariant-lines
invariant-lines l = record {
  place : IsAtLine (place_of l.self) l.version;
  read : ReadsFront (place_of l.fn.self) l.fn.steps l.fn.bytes l.rest (place_of l.self) l.steps;
}

abbrev pub decreases-lines : goal.decreases-lines
decreases-lines l = length l.rest
