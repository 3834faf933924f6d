-- A text on its way to a sink: some of it was written, and some waits.
use Rattle.std.specs.Prelude.{◌≡◌, ℕ, ◌+◌, ◌≤◌, List, ◌++◌, length, Option, Result, OnOk, OnErr}
use Rattle.std.specs.Io.KnownBytes.{Appends}
use Rattle.robin_io.specs.Counts.{HasOneCause}
use Rattle.robin_io.specs.Written.{AppendsPrefix}
use Rattle.robin_io.specs.declared.failed.Failed.{Failed}
use Rattle.robin_io.specs.declared.sink.Sink as sink

-- some bytes were written, and others wait: together they are those that waited before, and then the text
pub record Goes (before after : Option (List ℕ)) (waited waits text : List ℕ) : Type 0 where
  pub taken : List ℕ
  pub written : Appends before after taken
  pub whole : taken ++ waits ≡ waited ++ text

-- a call that is to send a text on its way: where the sink failed, some of it was cut off
pub record Sends {K : Type 0} (shown : sink.Ghosts K) (old new : K) (waited waits text : List ℕ)
    (result : Result (Unit {0}) Failed) : Type 0 where
  pub ok : OnOk result (Goes (shown.written old) (shown.written new) waited waits text)
  pub err : OnErr result (AppendsPrefix (shown.written old) (shown.written new) (waited ++ text))
  pub cause : HasOneCause (shown.faults old) (shown.faults new) result
  -- each call of the sink was for a byte that waited or is of the text, and that doesn't wait now
  pub calls : OnOk result (shown.calls new + length waits ≤ shown.calls old + (length waited + length text))
  pub cut_calls : OnErr result (shown.calls new ≤ shown.calls old + (length waited + length text))
