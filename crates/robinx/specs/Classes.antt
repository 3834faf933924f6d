-- The attributes of the nine classes, each in the order in which they are read (RobinX).
use Rattle.std.specs.Prelude.{ℕ, List, Ok, codes}
use Rattle.robinx.specs.Fronts.{◌>>=◌}
use Rattle.robinx.specs.Tags.{Attribute}
use Rattle.robinx.specs.Values.{Reading, required, optional, number, teams, slots, meetings}
use Rattle.robinx.specs.Words.{hardness}
use Rattle.robinx.specs.Demands as demand
use Rattle.league.specs.declared.class.ClassName.{ClassName}
use Rattle.league.specs.declared.class.ClassName.TheVariants.{Ca1, Ca2, Ca3, Ca4, Ga1, Br1, Br2, Fa2, Se1}
use Rattle.league.specs.declared.class.Class.{Class}
use Rattle.league.specs.declared.class.Class.TheVariants as class
use Rattle.league.specs.declared.class.Constraint.{Constraint}

-- the teams and the slots of a class, and two sets of teams that play against each other
abbrev pub teams_in : ℕ → List Attribute → Reading (List ℕ)
teams_in n tag = required (codes "teams") (teams n) tag

abbrev pub slots_in : ℕ → List Attribute → Reading (List ℕ)
slots_in n tag = required (codes "slots") (slots n) tag

abbrev pub opponents : ℕ → List Attribute → Reading (List ℕ × List ℕ)
opponents n tag = do
  one ← required (codes "teams1") (teams n) tag
  other ← required (codes "teams2") (teams n) tag
  Ok (one, other)

-- a class in a league of n teams
abbrev pub class_of : ClassName → ℕ → List Attribute → Reading Class
class_of Ca1 n tag = do
  i ← teams_in n tag
  games ← demand.ca1 tag
  s ← slots_in n tag
  Ok (class.Ca1 i games.0 games.1 games.2 s)
class_of Ca2 n tag = do
  i ← opponents n tag
  games ← demand.ca2 tag
  s ← slots_in n tag
  Ok (class.Ca2 i.0 i.1 games.0 games.1 games.2 s)
class_of Ca3 n tag = do
  i ← opponents n tag
  games ← demand.ca3 tag
  Ok (class.Ca3 i.0 i.1 games.0 games.1 games.3 games.2)
class_of Ca4 n tag = do
  i ← opponents n tag
  games ← demand.ca4 tag
  s ← slots_in n tag
  Ok (class.Ca4 i.0 i.1 games.0 games.1 games.2 games.3 s)
class_of Ga1 n tag = do
  pairs ← required (codes "meetings") (meetings n) tag
  games ← demand.ga1 tag
  s ← slots_in n tag
  Ok (class.Ga1 pairs games.0 games.1 s)
class_of Br1 n tag = do
  i ← teams_in n tag
  breaks ← demand.br1 tag
  s ← slots_in n tag
  Ok (class.Br1 i breaks.0 breaks.1 s)
class_of Br2 n tag = do
  i ← teams_in n tag
  intp ← demand.br2 tag
  s ← slots_in n tag
  Ok (class.Br2 i intp s)
class_of Fa2 n tag = do
  i ← teams_in n tag
  intp ← demand.fa2 tag
  s ← slots_in n tag
  Ok (class.Fa2 i intp s)
class_of Se1 n tag = do
  i ← teams_in n tag
  min ← demand.se1 tag
  Ok (class.Se1 i min)

-- a constraint: each class has a type and a penalty first, which is 1 where it is absent (own)
abbrev pub constraint_of : ClassName → ℕ → List Attribute → Reading Constraint
constraint_of name n tag = do
  hard ← required (codes "type") hardness tag
  penalty ← optional (codes "penalty") 1 number tag
  c ← class_of name n tag
  Ok (record { hard = hard; penalty = penalty; class = c })
