-- When one score is lower than another.
use Rattle.std.specs.Prelude.{◌≡◌, Bool, false, ◌&&◌, ◌||◌, ◌==◌, nat_lt}
use Rattle.descent.specs.declared.score.Score.{Score}

-- whether a score is the lower one of two: by the infeasibility, and by the objective where the infeasibilities are
-- equal
abbrev pub is_lower : Score → Score → Bool
is_lower a b =
    nat_lt a.infeasibility b.infeasibility
    || ((a.infeasibility == b.infeasibility) && nat_lt a.objective b.objective)

-- the first score isn't worse than the second: the second isn't lower
abbrev pub IsNoWorse : Score → Score → Type 0
IsNoWorse a b = is_lower b a ≡ false
