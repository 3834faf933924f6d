-- The words that attributes and elements have, and what they stand for (RobinX).
use Rattle.std.specs.Prelude.{ℕ, Bool, true, false, List, [], ◌∷◌}
use Rattle.robinx.specs.Values.{Reading, choice}
use Rattle.league.specs.declared.class.Side.{Side}
use Rattle.league.specs.declared.class.Side.TheVariants.{H, A, Both}
use Rattle.league.specs.declared.class.Span.{Span}
use Rattle.league.specs.declared.class.Span.TheVariants.{Global, Every}

-- H or A
abbrev pub home_or_away : List ℕ → Reading Side
home_or_away = choice (("H", H) ∷ ("A", A) ∷ [])

-- H, A or HA
abbrev pub side : List ℕ → Reading Side
side = choice (("H", H) ∷ ("A", A) ∷ ("HA", Both) ∷ [])

-- GLOBAL or EVERY
abbrev pub span : List ℕ → Reading Span
span = choice (("GLOBAL", Global) ∷ ("EVERY", Every) ∷ [])

-- HARD or SOFT: whether a constraint is hard
abbrev pub hardness : List ℕ → Reading Bool
hardness = choice (("HARD", true) ∷ ("SOFT", false) ∷ [])

-- P, NULL or nothing: whether a league is phased
abbrev pub game_mode : List ℕ → Reading Bool
game_mode = choice (("P", true) ∷ ("NULL", false) ∷ ("", false) ∷ [])
