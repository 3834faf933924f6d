-- Worked conflicts of four teams: what parts' rows are, and what no conflict is.
use Rattle.std.proofs.Common.{◌≡◌, ◌==◌, not, ℕ, ◌<◌, true, false, Some, Option, List, [], ◌∷◌, length, map}
use Rattle.std.proofs.Common.{refl, arith}
use Rattle.league.specs.Instance.{Instance}
use Rattle.league.specs.declared.class.Class.{Class}
use Rattle.league.specs.declared.class.Class.TheVariants.{Br2, Ga1}
use Rattle.league.specs.declared.class.Constraint.{Constraint}
use Rattle.league.specs.declared.game.Game.{Game}
use Rattle.encoding.specs.Encoding.{rows_of}
use Rattle.encoding.specs.Variables.{var_count}
use Rattle.explain.specs.Parts.{part_of}
use Rattle.refutation.specs.Steps.{Step}
use Rattle.refutation.specs.Steps.Step.{Clause}
use Rattle.refutation.specs.Verdict.{verdict_of}
use Rattle.refutation.specs.declared.verdict.Verdict.TheVariants.{Accepted}
use Rattle.explain.specs.Cases.{is_decided}
use Rattle.explain.specs.Conflicts.{IsConflict}
use Rattle.explain.specs.Standings.{kept, open_member, work}
use Rattle.explain.specs.declared.cases.Case.TheVariants.{Without, Undecided}
use Rattle.explain.specs.declared.member.Member.{Member}

abbrev hard : Class → Constraint
hard class = record { hard = true; penalty = 1; class = class }

abbrev with : List Constraint → Instance
with constraints = record { n = 4; phased = true; constraints = constraints }

-- no breaks; then a game of two teams in slot 0, and their other game there too
abbrev no_breaks : Constraint
no_breaks = hard (Br2 (0 ∷ 1 ∷ 2 ∷ 3 ∷ []) 0 (0 ∷ 1 ∷ 2 ∷ 3 ∷ 4 ∷ 5 ∷ []))

abbrev there : Constraint
there = hard (Ga1 ((0, 1) ∷ []) 1 1 (0 ∷ []))

abbrev back : Constraint
back = hard (Ga1 ((1, 0) ∷ []) 1 1 (0 ∷ []))

abbrev three : Instance
three = with (no_breaks ∷ there ∷ back ∷ [])

-- without the last bound on breaks their variables go, and the rows that tie them to venues: a game's row is row 153
-- where its constraint is alone, and row 273 beside a bound on breaks, whose row is the next
pub variables-three : map (λ members. var_count (part_of three members)) ((1 ∷ 2 ∷ 3 ∷ []) ∷ (2 ∷ 3 ∷ []) ∷ [])
    ≡ 136 ∷ 96 ∷ []
variables-three = refl

pub rows-three : map (λ members. length (rows_of (part_of three members)))
    ((2 ∷ []) ∷ (1 ∷ []) ∷ (1 ∷ 2 ∷ []) ∷ (2 ∷ 3 ∷ []) ∷ [])
    ≡ 153 ∷ 273 ∷ 274 ∷ 154 ∷ []
rows-three = refl

-- both games in slot 0: the rows 153 and 154 of the part, and row 26, that team 0 has at most one game in slot 0. Over
-- the whole league, in which 153 and 154 tie breaks to venues, the same log comes to no conflict
abbrev both_games : List Step
both_games = Clause [] (153 ∷ 154 ∷ 26 ∷ []) ∷ []

pub refuted-both : verdict_of (rows_of (part_of three (2 ∷ 3 ∷ []))) (var_count (part_of three (2 ∷ 3 ∷ []))) both_games
    ≡ Accepted
refuted-both = refl

-- ---- what no conflict is

none_fewer : (k : ℕ) → k < 0 → ⊥
none_fewer k some = omega (arith, some)

-- no member at all
pub empty_conflict : (league : Instance) (limit : Option ℕ) (may_stop : Type 0) (log : List Step)
    → IsConflict league limit may_stop [] log [] → ⊥
empty_conflict league limit may_stop log is = none_fewer 0 is.some

-- a member without a case
pub no_case : (league : Instance) (limit : Option ℕ) (may_stop : Type 0) (log : List Step) (k : ℕ)
    → IsConflict league limit may_stop (k ∷ []) log [] → ⊥
no_case league limit may_stop log k is = is.each

-- a case is a schedule, or it isn't decided
pub decided-two : (games : List Game) → map is_decided (Without games ∷ Undecided [] ∷ []) ≡ true ∷ false ∷ []
decided-two games = refl

-- ---- what is left to do

abbrev one_known : List Member
one_known =
    record { number = 2; case = Some (Without []) }
    ∷ record { number = 3; case = Some (Undecided []) }
    ∷ open_member 5
    ∷ []

pub work-one_known : work one_known ≡ 13
work-one_known = refl

-- where member 5 goes, the schedule stays, and 3 is tried again
pub kept-one_known : kept (λ k. not (k == 5)) one_known
    ≡ record { number = 2; case = Some (Without []) } ∷ open_member 3 ∷ []
kept-one_known = refl
