-- The position of a walk without where it lies in memory.
use Rattle.std.specs.Prelude.{option_map}
use Rattle.robinx.specs.Walk as walk
use Rattle.robinx.specs.declared.position.Position.{Position}

-- with what was read up to there
abbrev pub position_of : {Read : Type 0} → Position → Read → walk.Position Read
position_of position read = record {
  inner = position.inner;
  outer = position.outer.items;
  passing = option_map (λ name. name.now) position.passing;
  read = read;
}
