-- A log's bytes that were read and checked.
use Rattle.std.specs.Prelude.{◌≡◌, ℕ, ◌+◌, ◌≤◌, List, ◌++◌, length, Option}
use Rattle.std.specs.Io.KnownBytes.{Consumes}
use Rattle.std.specs.List.{fold}
use Rattle.robin_io.specs.Counts.{raised}
use Rattle.answers.specs.Stages.{IsFile}
use Rattle.refutation.specs.Steps.{Step}
use Rattle.refutation.specs.Logs.{after}
use Rattle.refutation.specs.Places.{Place, log_from}
use Rattle.refutation_check.specs.Judged.{Judged, after_step}
use Rattle.refutation_check.specs.declared.fault.StepsFault.{StepsFault}
use Rattle.refutation_check.specs.declared.fault.StepsFault.TheVariants as wants
use Rattle.command_check.specs.Check.{most_log_bytes}
use Rattle.command_check.specs.declared.feeding.FeedFault.{FeedFault}
use Rattle.command_check.specs.declared.feeding.FeedFault.TheVariants.{Full, Mem}

-- why a file isn't judged to its end, where its steps aren't all judged
abbrev pub feed_fault : StepsFault → FeedFault
feed_fault wants.Full = Full
feed_fault wants.Mem = Mem

-- These bytes were read from one place on, and the steps that they say were judged. So many steps they were, and
-- whatever comes behind the bytes, the text is read as these steps and then as what is read from here.
pub record ChecksOn
    (before : Place)
    (old : Judged)
    (bytes : List ℕ)
    (now : Place)
    (new : Judged)
    (count : ℕ)
    : Type 0 where
  pub steps : List Step
  pub read : (rest : List ℕ) → log_from before (bytes ++ rest) ≡ after steps (log_from now rest)
  pub judged : new ≡ fold after_step old steps
  pub counted : count ≡ length steps

-- all bytes of a log's file, which are known or not, were read and their steps judged
pub record ChecksFile
    (known : Option (List ℕ))
    (before : Place)
    (old : Judged)
    (now : Place)
    (new : Judged)
    (count : ℕ)
    : Type 0 where
  pub bytes : List ℕ
  pub file : IsFile known most_log_bytes bytes
  pub checked : ChecksOn before old bytes now new count

-- So many bytes were taken of a log's file, which are known or not, and checked.
pub record IsUnderWay
    (known left : Option (List ℕ))
    (taken_before taken_now : ℕ)
    (before : Place)
    (old : Judged)
    (now : Place)
    (new : Judged)
    (count taken_bytes : ℕ)
    : Type 0 where
  pub bytes : List ℕ
  pub length_is : taken_bytes ≡ length bytes
  pub within : taken_bytes ≤ most_log_bytes
  pub consumed : Consumes known left bytes
  pub taken : taken_now ≡ raised taken_before taken_bytes
  pub checked : ChecksOn before old bytes now new count
  pub line : now.line ≤ before.line + taken_bytes
