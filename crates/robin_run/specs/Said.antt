-- A file that says a league.
use Rattle.std.specs.Prelude.{◌≡◌, ℕ, List, Some, Ok}
use Rattle.robin_io.specs.Outside.{Store}
use Rattle.league.specs.Instance.{Instance}
use Rattle.robinx.specs.Pieces.{pieces}
use Rattle.robinx.specs.InstanceFile.{instance_of}

-- the bytes of this file are known, and say this league
pub record SaysLeague (store : Store) (instance : List ℕ) (league : Instance) : Type 0 where
  pub bytes : List ℕ
  pub known : store.contents instance ≡ Some bytes
  pub says_league : instance_of (pieces bytes) ≡ Ok league
