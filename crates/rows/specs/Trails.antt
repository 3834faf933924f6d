-- Trails: lists of variables that may have a value.
use Rattle.std.specs.Prelude.{◌≢◌, ℕ, ◌≤◌, Bool, true, false, List, length, Contains}
use Rattle.std.specs.List.{All}
use Rattle.rows.specs.Forcing.{set_true}
use Rattle.rows.specs.Literals.{Literal}
use Rattle.rows.specs.Values.{valued}
use Rattle.rows.specs.declared.partial.Value.{Value}
use Rattle.rows.specs.declared.partial.Value.TheVariants.{Free}

-- Each variable that has a value is listed, and what is listed are variables. Their order says nothing, and one may
-- stand twice or be free.
pub record IsListed (values : List Value) (trail : List ℕ) : Type 0 where
  pub set : (v : ℕ) → valued values v ≢ Free → Contains trail v
  pub within : All (λ v. (1 ≤ v) × (v ≤ length values)) trail

-- a literal made true, if it is free, where a test says so
abbrev pub set_if : Bool → (ℕ → Value) → Literal → ℕ → Value
set_if true values l = set_true values l
set_if false values l = values
