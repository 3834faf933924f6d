-- The rest of a run, before which so many bytes were taken: what the store shows in it, by what it shows in the whole.
use Rattle.std.specs.Prelude.{◌≡◌, ℕ, ◌+◌, List}
use Rattle.robin_io.specs.Outside.{Store}

pub record IsRest (before : ℕ) (whole rest : Store) : Type 0 where
  pub contents : (name : List ℕ) → rest.contents name ≡ whole.contents name
  pub took_more : (more : ℕ) → rest.took_more more → whole.took_more (before + more)
  pub failed : (name : List ℕ) → rest.failed name → whole.failed name
