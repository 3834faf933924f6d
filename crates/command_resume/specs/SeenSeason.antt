-- What the first two files said.
use Rattle.std.specs.Prelude.{◌≡◌, ℕ, ◌+◌, ◌≤◌, List, length, Option, Ok}
use Rattle.league.specs.Counts.{slot_count}
use Rattle.robinx.specs.Pieces.{pieces}
use Rattle.robinx.specs.InstanceFile.{instance_of}
use Rattle.robinx.specs.SolutionFile.{solution_of}
use Rattle.robinx.specs.declared.instance.TheConstants.{INSTANCE_LIMIT, SOLUTION_LIMIT}
use Rattle.answers.specs.Stages.{IsFile}
use Rattle.resume.specs.Kept.{resume_size}
use Rattle.command_resume.specs.declared.season.Season.{Season}
use Rattle.encoding.specs.Limit.{most_terms}

-- both files were read, and said this season, which has k slots and not too many resume rows
pub record IsSaid
    (contents : List ℕ → Option (List ℕ))
    (instance solution : List ℕ)
    (k : ℕ)
    (season : Season)
    : Type 0 where
  pub first : List ℕ
  pub second : List ℕ
  pub first_file : IsFile (contents instance) INSTANCE_LIMIT first
  pub second_file : IsFile (contents solution) SOLUTION_LIMIT second
  pub says_league : instance_of (pieces first) ≡ Ok season.league
  pub says_played : solution_of season.league.n (pieces second) ≡ Ok season.played
  pub slots : k ≤ slot_count season.league.n
  pub small : resume_size season.league k ≤ most_terms
  pub slots_are : season.slots ≡ k
  pub bytes_are : season.bytes ≡ length first + length second
