-- What makes a constraint ready to be a rule, and how many entries it has.
use Rattle.std.specs.Prelude.{ℕ, ◌≤◌, length, IsTrue}
use Rattle.league.specs.Deviation.{spans}
use Rattle.league.specs.Instance.{class_fits}
use Rattle.league.specs.Meetings.{pairs_of}
use Rattle.league.specs.declared.class.Class.{Class}
use Rattle.league.specs.declared.class.Class.TheVariants.{Ca1, Ca2, Ca3, Ca4, Ga1, Br1, Br2, Fa2, Se1}

-- a constraint that fits a league of n teams, at most 40
pub record IsReady (n : ℕ) (class : Class) : Type 0 where
  pub at_most : n ≤ 40
  pub fits : IsTrue (class_fits n class)

-- how many entries it has
abbrev pub entry_count : Class → ℕ
entry_count (Ca1 teams min max side slots) = length teams
entry_count (Ca2 teams1 teams2 min max side slots) = length teams1
entry_count (Ca3 teams1 teams2 min max intp side) = length teams1
entry_count (Ca4 teams1 teams2 min max side span slots) = length (spans span slots)
entry_count (Ga1 meetings min max slots) = 1
entry_count (Br1 teams intp side slots) = length teams
entry_count (Br2 teams intp slots) = 1
entry_count (Fa2 teams intp slots) = length (pairs_of teams)
entry_count (Se1 teams min) = length (pairs_of teams)
