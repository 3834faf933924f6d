-- What the nine classes demand, beside their sets of teams, meetings and slots: their numbers and words, each in the
-- order in which they are read (RobinX).
use Rattle.std.specs.Prelude.{ℕ, List, Ok, codes}
use Rattle.robinx.specs.Fronts.{◌>>=◌}
use Rattle.robinx.specs.Tags.{Attribute}
use Rattle.robinx.specs.Values.{Reading, required, optional, number, above_zero, only}
use Rattle.robinx.specs.Words.{home_or_away, side, span}
use Rattle.league.specs.declared.class.Side.{Side}
use Rattle.league.specs.declared.class.Span.{Span}

-- the number of an attribute that has to be there
abbrev pub number_in : List ℕ → List Attribute → Reading ℕ
number_in name tag = required name number tag

-- a word that may be absent, and that is this one where it is there
abbrev pub only_in : List ℕ → List ℕ → List Attribute → Reading (Unit {0})
only_in name word tag = optional name tt (only word) tag

-- from so many games to so many: the lower bound of a capacity class is 0 where it is absent (own)
abbrev pub bounds : List Attribute → Reading (ℕ × ℕ)
bounds tag = do
  min ← optional (codes "min") 0 number tag
  max ← number_in (codes "max") tag
  Ok (min, max)

-- CA1: from so many games to so many, at home or away
abbrev pub ca1 : List Attribute → Reading (ℕ × ℕ × Side)
ca1 tag = do
  games ← bounds tag
  mode ← required (codes "mode") home_or_away tag
  Ok (games.0, games.1, mode)

-- CA2, CA3 and CA4: from so many games to so many, on a side
abbrev pub bounds_on_side : List Attribute → Reading (ℕ × ℕ × Side)
bounds_on_side tag = do
  games ← bounds tag
  mode ← required (codes "mode1") side tag
  Ok (games.0, games.1, mode)

-- CA2: in all its slots together
abbrev pub ca2 : List Attribute → Reading (ℕ × ℕ × Side)
ca2 tag = do
  games ← bounds_on_side tag
  global ← only_in (codes "mode2") (codes "GLOBAL") tag
  Ok games

-- CA3: in each window of so many slots
abbrev pub ca3 : List Attribute → Reading (ℕ × ℕ × Side × ℕ)
ca3 tag = do
  games ← bounds_on_side tag
  in_slots ← only_in (codes "mode2") (codes "SLOTS") tag
  intp ← required (codes "intp") above_zero tag
  Ok (games.0, games.1, games.2, intp)

-- CA4: in all its slots together, or in each of them
abbrev pub ca4 : List Attribute → Reading (ℕ × ℕ × Side × Span)
ca4 tag = do
  games ← bounds_on_side tag
  over ← required (codes "mode2") span tag
  Ok (games.0, games.1, games.2, over)

-- GA1: from so many games to so many
abbrev pub ga1 : List Attribute → Reading (ℕ × ℕ)
ga1 tag = do
  min ← number_in (codes "min") tag
  max ← number_in (codes "max") tag
  Ok (min, max)

-- BR1: at most so many breaks on a side
abbrev pub br1 : List Attribute → Reading (ℕ × Side)
br1 tag = do
  intp ← number_in (codes "intp") tag
  at_most ← only_in (codes "mode1") (codes "LEQ") tag
  mode ← required (codes "mode2") side tag
  Ok (intp, mode)

-- BR2: at most so many breaks in all
abbrev pub br2 : List Attribute → Reading ℕ
br2 tag = do
  intp ← number_in (codes "intp") tag
  both ← only_in (codes "homeMode") (codes "HA") tag
  at_most ← only_in (codes "mode2") (codes "LEQ") tag
  Ok intp

-- FA2: home games that differ by at most so many
abbrev pub fa2 : List Attribute → Reading ℕ
fa2 tag = do
  intp ← number_in (codes "intp") tag
  at_home ← only_in (codes "mode") (codes "H") tag
  Ok intp

-- SE1: at least so many slots between two games
abbrev pub se1 : List Attribute → Reading ℕ
se1 tag = do
  min ← number_in (codes "min") tag
  in_slots ← only_in (codes "mode1") (codes "SLOTS") tag
  Ok min
