-- A constraint as smaller constraints: one for each entry of its deviation vector, for CA3 one for each window of a
-- team, and for SE1 one for each number of slots that two teams may lack (own form).
use Rattle.std.specs.Prelude.{ℕ, ◌+◌, ◌-◌, List, [], ◌∷◌, map}
use Rattle.std.specs.List.{flat_map, range_with_len}
use Rattle.league.specs.Capacity.{windows_of}
use Rattle.league.specs.Deviation.{spans}
use Rattle.league.specs.Meetings.{pairs_of}
use Rattle.league.specs.declared.class.Class.{Class}
use Rattle.league.specs.declared.class.Class.TheVariants.{Ca1, Ca2, Ca3, Ca4, Ga1, Br1, Br2, Fa2, Se1}
use Rattle.league.specs.declared.class.Side.{Side}
use Rattle.league.specs.declared.class.Span.TheVariants.{Global}

-- CA3, team i: CA2 of this team in each window
abbrev pub ca3_parts : ℕ → List ℕ → ℕ → ℕ → ℕ → Side → ℕ → List Class
ca3_parts n teams2 min max intp side i = map (Ca2 (i ∷ []) teams2 min max side) (windows_of n intp)

-- SE1, teams i and j: SE1 of these teams for each number of slots from min down to 1
abbrev pub se1_parts : ℕ → ℕ × ℕ → List Class
se1_parts min p = map (λ u. Se1 (p.0 ∷ p.1 ∷ []) (min + 1 - u)) (range_with_len 1 min)

-- the parts of a class, key by key
abbrev pub parts_of : ℕ → Class → List Class
parts_of n (Ca1 teams min max side slots) = map (λ i. Ca1 (i ∷ []) min max side slots) teams
parts_of n (Ca2 teams1 teams2 min max side slots) = map (λ i. Ca2 (i ∷ []) teams2 min max side slots) teams1
parts_of n (Ca3 teams1 teams2 min max intp side) = flat_map (ca3_parts n teams2 min max intp side) teams1
parts_of n (Ca4 teams1 teams2 min max side span slots) =
    map (Ca4 teams1 teams2 min max side Global) (spans span slots)
parts_of n (Ga1 meetings min max slots) = Ga1 meetings min max slots ∷ []
parts_of n (Br1 teams intp side slots) = map (λ i. Br1 (i ∷ []) intp side slots) teams
parts_of n (Br2 teams intp slots) = Br2 teams intp slots ∷ []
parts_of n (Fa2 teams intp slots) = map (λ p. Fa2 (p.0 ∷ p.1 ∷ []) intp slots) (pairs_of teams)
parts_of n (Se1 teams min) = flat_map (se1_parts min) (pairs_of teams)
