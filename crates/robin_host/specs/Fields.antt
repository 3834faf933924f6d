-- How the fields of the machine's watch are seen.
use Rattle.std.specs.Prelude.{ℕ, Bool, Option}
use Rattle.robin_host.specs.declared.watch.HostWatch.{HostWatch}

-- after how many seconds it ends a run
abbrev pub limit_of : {R : Type 0} → HostWatch R → Option ℕ
limit_of s = s.seconds

-- it ends a run when one of the signals waits
abbrev pub listens : {R : Type 0} → HostWatch R → Bool
listens s = s.listens
