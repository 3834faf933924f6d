-- A class with one of its teams, its pairs, its windows or its slots alone.
use Rattle.std.specs.Prelude.{ℕ, Bool, true, false, List, [], ◌∷◌}
use Rattle.league.specs.declared.class.Class.{Class}
use Rattle.league.specs.declared.class.Class.TheVariants.{Ca1, Ca2, Ca3, Ca4, Br1, Fa2}
use Rattle.league.specs.declared.class.Span.TheVariants.{Global}

-- whether a class has a part for each of its teams: CA1, CA2 and BR1
abbrev pub is_by_team : Class → Bool
is_by_team (Ca1 teams min max side slots) = true
is_by_team (Ca2 teams1 teams2 min max side slots) = true
is_by_team (Br1 teams intp side slots) = true
is_by_team _ = false

-- a class with team i alone, if it has a part for each team
abbrev pub of_team : Class → ℕ → Class
of_team (Ca1 teams min max side slots) i = Ca1 (i ∷ []) min max side slots
of_team (Ca2 teams1 teams2 min max side slots) i = Ca2 (i ∷ []) teams2 min max side slots
of_team (Br1 teams intp side slots) i = Br1 (i ∷ []) intp side slots
of_team other i = other

-- a CA3 with team i and one window alone, which is a CA2
abbrev pub of_window : Class → ℕ → List ℕ → Class
of_window (Ca3 teams1 teams2 min max intp side) i window = Ca2 (i ∷ []) teams2 min max side window
of_window other i window = other

-- a CA4 with some slots together
abbrev pub of_slots : Class → List ℕ → Class
of_slots (Ca4 teams1 teams2 min max side span slots) part = Ca4 teams1 teams2 min max side Global part
of_slots other part = other

-- an FA2 with one pair of teams
abbrev pub of_pair : Class → ℕ × ℕ → Class
of_pair (Fa2 teams intp slots) p = Fa2 (p.0 ∷ p.1 ∷ []) intp slots
of_pair other p = other
