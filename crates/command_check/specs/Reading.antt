-- What is read before a log.
use Rattle.std.specs.Prelude.{◌≡◌, ℕ, ◌≤◌, List, length, Option, Ok}
use Rattle.robin_io.specs.Counts.{raised}
use Rattle.robinx.specs.Pieces.{pieces}
use Rattle.league.specs.Instance.{Instance}
use Rattle.robinx.specs.InstanceFile.{instance_of}
use Rattle.robinx.specs.declared.instance.TheConstants.{INSTANCE_LIMIT}
use Rattle.answers.specs.Stages.{IsFile}
use Rattle.encoding.specs.Encoding.{encoding_size}
use Rattle.encoding.specs.Limit.{most_terms}

-- An instance file, whose bytes are known or not, was read, and says a league whose rows aren't too many. So many bytes
-- were taken before it, and so many with it.
pub record ReadsLeague (known : Option (List ℕ)) (before after : ℕ) (league : Instance) : Type 0 where
  pub bytes : List ℕ
  pub file : IsFile known INSTANCE_LIMIT bytes
  pub taken : after ≡ raised before (length bytes)
  pub says_league : instance_of (pieces bytes) ≡ Ok league
  pub small : encoding_size league ≤ most_terms
