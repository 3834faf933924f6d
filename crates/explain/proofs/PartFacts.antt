-- Worked parts: a hard constraint, a soft one and a hard one of four teams.
use Rattle.std.proofs.Common.{◌≡◌, true, false, Some, None, List, [], ◌∷◌, map, refl}
use Rattle.league.specs.Instance.{Instance}
use Rattle.league.specs.declared.class.Class.{Class}
use Rattle.league.specs.declared.class.Class.TheVariants.{Br2, Ca1}
use Rattle.league.specs.declared.class.Side.TheVariants.{H}
use Rattle.league.specs.declared.class.Constraint.{Constraint}
use Rattle.explain.specs.Parts.{first_unknown, hard_numbers, part_of, without}

abbrev hard : Class → Constraint
hard class = record { hard = true; penalty = 1; class = class }

abbrev soft : Class → Constraint
soft class = record { hard = false; penalty = 1; class = class }

abbrev with : List Constraint → Instance
with constraints = record { n = 4; phased = true; constraints = constraints }

abbrev six_home_games : Class
six_home_games = Ca1 (0 ∷ []) 0 6 H (0 ∷ 1 ∷ 2 ∷ 3 ∷ 4 ∷ 5 ∷ [])

abbrev no_break : Class
no_break = Br2 (0 ∷ 1 ∷ 2 ∷ 3 ∷ []) 0 (0 ∷ 1 ∷ 2 ∷ 3 ∷ 4 ∷ 5 ∷ [])

abbrev three : Instance
three = with (hard six_home_games ∷ soft six_home_games ∷ hard no_break ∷ [])

pub numbers-three : hard_numbers three.constraints ≡ 1 ∷ 3 ∷ []
numbers-three = refl

pub part-third : part_of three (3 ∷ []) ≡ with (hard no_break ∷ [])
part-third = refl

pub part-both : part_of three (1 ∷ 3 ∷ []) ≡ with (hard six_home_games ∷ hard no_break ∷ [])
part-both = refl

pub part-none : part_of three [] ≡ with []
part-none = refl

pub without-third : without 3 (1 ∷ 3 ∷ []) ≡ 1 ∷ []
without-third = refl

-- a soft one, one past the end, none: the first such is named
pub unknown-three : map (first_unknown three)
    ((1 ∷ 3 ∷ []) ∷ (1 ∷ 2 ∷ 3 ∷ []) ∷ (3 ∷ 4 ∷ 5 ∷ []) ∷ (0 ∷ 2 ∷ []) ∷ [] ∷ [])
    ≡ None ∷ Some 2 ∷ Some 4 ∷ Some 0 ∷ None ∷ []
unknown-three = refl
