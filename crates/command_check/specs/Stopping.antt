-- A log of which some first steps were judged.
use Rattle.std.specs.Prelude.{◌≡◌, ℕ, ◌≤◌, List, length, take, false, Option}
use Rattle.std.specs.Io.KnownBytes.{Consumes}
use Rattle.std.specs.List.{fold}
use Rattle.refutation.specs.Places.{Place}
use Rattle.refutation_check.specs.Judged.{Judged, after_step}
use Rattle.refutation_check.specs.Room.{has_room}
use Rattle.command_check.specs.Feeding.{ChecksOn}

-- of the steps that these bytes say from one place on, so many first ones were judged
pub record ChecksSome (before : Place) (old : Judged) (bytes : List ℕ) (new : Judged) : Type 0 where
  pub now : Place
  pub whole : Judged
  pub count : ℕ
  pub all : ChecksOn before old bytes now whole count
  pub some : ℕ
  pub few : some ≤ length all.steps
  pub judged : new ≡ fold after_step old (take some all.steps)

-- The bytes at the front of a log's file, which are known or not, say some first steps that take more than they may.
pub record PassesLimit (known : Option (List ℕ)) (limit : Option ℕ) (before : Place) (old new : Judged) : Type 0 where
  pub bytes : List ℕ
  pub left : Option (List ℕ)
  pub front : Consumes known left bytes
  pub checked : ChecksSome before old bytes new
  pub passes : has_room limit new ≡ false
