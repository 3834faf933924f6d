-- A sink in memory, as its callers see it.
use Rattle.std.specs.Prelude.{ℕ, List}

pub record SinkView : Type 0 where
  -- the bytes so far
  pub written : List ℕ
  -- how many bytes more there is room for
  pub room : ℕ
  -- how many bytes a put takes at most
  pub piece : ℕ
  pub faults : ℕ
  -- the numbers of the puts that are planned to fail
  pub plan : List ℕ
  -- how many puts were counted
  pub calls : ℕ
