-- Counts of bytes and of faults. A count never falls, and stays at 2^64 - 1, its last value.
use Rattle.std.specs.Prelude.{ℕ, ◌+◌, ◌-◌, ◌^◌, ◌≤◌, min, List, Result, OnErr}

-- a count that was raised so often
abbrev pub raised : ℕ → ℕ → ℕ
raised count by = min (count + by) (2 ^ 64 - 1)

-- the count rose from one moment to the next, or stands at its last value
abbrev pub Rose : ℕ → ℕ → Type 0
Rose before now = raised before 1 ≤ now

-- more than n bytes were taken from one moment to the next, or the count stands at its last value
abbrev pub TookMore : ℕ → ℕ → ℕ → Type 0
TookMore n before now = raised before (n + 1) ≤ now

-- a call of one file: no file's count of faults falls, and where the call fails, that of its file rose
pub record HasCause {T E : Type 0} (before now : List ℕ → ℕ) (name : List ℕ) (answer : Result T E) : Type 0 where
  pub later : (n : List ℕ) → before n ≤ now n
  pub fault : OnErr answer (Rose (before name) (now name))

-- a call of one file, by one count: the count doesn't fall, and where the call fails it rose
pub record HasOneCause {T E : Type 0} (before now : ℕ) (answer : Result T E) : Type 0 where
  pub later : before ≤ now
  pub fault : OnErr answer (Rose before now)
