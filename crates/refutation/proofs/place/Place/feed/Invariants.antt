use Rattle.std.proofs.Common.{◌+◌, ◌≤◌, List, length}
use Rattle.refutation.specs.Steps.{Step}
use Rattle.refutation.specs.Places.{Place}
use Rattle.refutation.specs.Feeding.{ReadsOn}
use Rattle.refutation.specs.SeenPlace.{IsPlace, place_of}
use Rattle.refutation.proofs.place.Place.feed.Given as goal

-- said from the end: what the rest gives, the whole piece gives
abbrev pub invariant-lines : goal.invariant-lines
invariant-lines l = record {
  place : IsPlace (place_of l.self);
  line : l.self.line + length l.rest ≤ l.fn.self.line + length l.fn.piece;
  read : (now : Place) (new : List Step) → ReadsOn (place_of l.self) l.steps l.rest now new
      → ReadsOn (place_of l.fn.self) l.fn.steps l.fn.piece now new;
}

abbrev pub decreases-lines : goal.decreases-lines
decreases-lines l = length l.rest
