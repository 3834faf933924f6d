-- The stages that `resume` and `audit` have in common: a league, how many of its slots are played, and a list of games.
use Rattle.std.specs.Prelude.{◌≡◌, ℕ, ◌+◌, ◌<◌, ◌≤◌, ◌⊎◌, List, ◌++◌, length, codes, decimal, Some, Ok}
use Rattle.robin_io.specs.Outside.{Store}
use Rattle.league.specs.Counts.{slot_count}
use Rattle.league.specs.Instance.{Instance}
use Rattle.league.specs.declared.game.Game.{Game}
use Rattle.robinx.specs.Pieces.{pieces}
use Rattle.robinx.specs.InstanceFile.{instance_of}
use Rattle.robinx.specs.SolutionFile.{solution_of}
use Rattle.robinx.specs.declared.instance.TheConstants.{INSTANCE_LIMIT, SOLUTION_LIMIT}
use Rattle.answers.specs.Reply.{Answer, too_large}
use Rattle.answers.specs.Stages.{◌>>=◌, Outcome, reads, says}
use Rattle.answers.specs.declared.status.Status.TheVariants.{File}
use Rattle.resume.specs.Kept.{resume_size}
use Rattle.command_resume.specs.declared.season.Season.{Season}
use Rattle.encoding.specs.Limit.{most_terms}

-- ---- stages

-- the season doesn't have so many slots
abbrev pub slot_refused : ℕ → Answer
slot_refused k = record { status = File; text = codes "refused slot " ++ (decimal k ++ codes "\n") }

-- the stage that goes on only where the season has k slots
abbrev pub has_slots : Instance → ℕ → (Unit {0} → Outcome) → Outcome
has_slots league k next answer =
    ((k ≤ slot_count league.n) × next tt answer) ⊎ ((slot_count league.n < k) × (answer ≡ slot_refused k))

-- the stage that goes on only where the resume rows don't have too many terms, which needs no played games
abbrev pub has_size : Instance → ℕ → (Unit {0} → Outcome) → Outcome
has_size league k next answer =
    ((resume_size league k ≤ most_terms) × next tt answer)
    ⊎ ((most_terms < resume_size league k) × (answer ≡ too_large (resume_size league k)))

-- The stages of the first two files: a league, of which k slots are played, and a list of games. How many slots there
-- are, and how many terms the rows have, is judged before the second file is read.
abbrev pub plays : Store → List ℕ → List ℕ → ℕ
    → (Season → Outcome) → Outcome
plays store instance solution k next = do
  first ← reads store (codes "instance") instance INSTANCE_LIMIT 0
  league ← says (codes "instance") (instance_of (pieces first))
  slots ← has_slots league k
  size ← has_size league k
  second ← reads store (codes "solution") solution SOLUTION_LIMIT (length first)
  played ← says (codes "solution") (solution_of league.n (pieces second))
  next (record { league = league; played = played; slots = k; bytes = length first + length second })

-- ---- a run

-- two files whose bytes are known, and that say a league and a list of games
pub record SaySeason
    (store : Store)
    (instance solution : List ℕ)
    (league : Instance)
    (played : List Game)
    : Type 0 where
  pub first : List ℕ
  pub second : List ℕ
  pub first_known : store.contents instance ≡ Some first
  pub second_known : store.contents solution ≡ Some second
  pub says_league : instance_of (pieces first) ≡ Ok league
  pub says_played : solution_of league.n (pieces second) ≡ Ok played

-- files of a league and its games within their limits, of which the season has k slots and the resume rows are few
pub record IsWellFormedSeason
    (store : Store)
    (instance solution : List ℕ)
    (k : ℕ)
    (league : Instance)
    (played : List Game)
    : Type 0 where
  pub say : SaySeason store instance solution league played
  pub first_within : length say.first ≤ INSTANCE_LIMIT
  pub second_within : length say.second ≤ SOLUTION_LIMIT
  pub slots : k ≤ slot_count league.n
  pub small : resume_size league k ≤ most_terms
