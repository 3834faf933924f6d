-- Made leagues (own): for each number of teams and each seed one phased league, whose hard constraints the double
-- circle schedule meets. Each constraint with draws is made of the next words of the generator, as many as its kind
-- takes.
use Rattle.std.specs.Prelude.{ℕ, ◌+◌, ◌-◌, ◌*◌, ◌/◌, true, false, ◌==◌, if◌then◌else◌, List, [], ◌∷◌, ◌++◌, map}
use Rattle.std.specs.Prelude.{slice_index_or}
use Rattle.std.specs.List.{range_with_len, sum_by}
use Rattle.league.specs.Breaks.{all_breaks}
use Rattle.league.specs.Counts.{Counts, counts_of, slot_count, slots_of, teams_of}
use Rattle.league.specs.Instance.{Instance}
use Rattle.league.specs.Structure.{first_half}
use Rattle.league.specs.Venues.{games_on}
use Rattle.league.specs.declared.class.Class.{Class}
use Rattle.league.specs.declared.class.Class.TheVariants.{Ca1, Ca2, Ca3, Ca4, Ga1, Br1, Br2, Fa2, Se1}
use Rattle.league.specs.declared.class.Constraint.{Constraint}
use Rattle.league.specs.declared.class.Side.{Side}
use Rattle.league.specs.declared.class.Side.TheVariants.{H, A, Both}
use Rattle.league.specs.declared.class.Span.TheVariants.{Global}
use Rattle.league.specs.declared.game.Game.{Game}
use Rattle.circle_method.specs.Circle.{double_games, last_team_game}
use Rattle.rand_pcg.specs.Lcg.{Lcg}
use Rattle.instance_gen.specs.Draws.{after, draw, set_of}

-- a hard constraint has penalty 1
abbrev pub hard : Class → Constraint
hard class = record { hard = true; penalty = 1; class = class }

abbrev pub soft : ℕ → Class → Constraint
soft penalty class = record { hard = false; penalty = penalty; class = class }

-- a soft constraint whose penalty is drawn, from 1 to 10
abbrev pub soft_drawn : ℕ → Class → Constraint
soft_drawn drawn class = soft (1 + drawn) class

-- the counts of the double circle schedule
abbrev pub circle : ℕ → Counts
circle n = counts_of (double_games n)

-- the game of the double circle schedule at a place below n (n - 1), from 0
abbrev pub game_at : ℕ → ℕ → Game
game_at n place = slice_index_or (double_games n) place (last_team_game n 0)

-- the games of a team on a side in some slots of the double circle schedule
abbrev pub circle_games : ℕ → ℕ → Side → List ℕ → ℕ
circle_games n team side slots = sum_by (λ s. games_on n (circle n) side team s) slots

-- the breaks of the double circle schedule
abbrev pub circle_breaks : ℕ → ℕ
circle_breaks n = all_breaks n (circle n) (teams_of n) (slots_of n)

-- a drawn side: 0 is home
abbrev pub side_of : ℕ → Side
side_of drawn = if drawn == 0 then H else A

-- CA1, hard: a team has at most as many games on a side in some slots as it has there in the double circle schedule
abbrev pub ca1_with : ℕ → ℕ → Side → List ℕ → Constraint
ca1_with n team side slots = hard (Ca1 (team ∷ []) 0 (circle_games n team side slots) side slots)

-- the CA1 of five words: a team, a side, three slots
abbrev pub made_ca1 : ℕ → Lcg → Constraint
made_ca1 n g =
    ca1_with n (draw g 0 n) (side_of (draw g 1 2))
    (set_of (draw g 2 (slot_count n) ∷ draw g 3 (slot_count n) ∷ draw g 4 (slot_count n) ∷ []))

-- CA2, soft: a team has at most one game against one or two teams, of which one may be itself, in n/2 slots in a row
abbrev pub ca2_with : ℕ → ℕ → List ℕ → ℕ → Class
ca2_with n team teams first = Ca2 (team ∷ []) teams 0 1 Both (range_with_len first (n / 2))

-- the CA2 of five words: a team, two opponents, the first slot, the penalty
abbrev pub made_ca2 : ℕ → Lcg → Constraint
made_ca2 n g =
    soft_drawn (draw g 4 10)
    (ca2_with n (draw g 0 n) (set_of (draw g 1 n ∷ draw g 2 n ∷ [])) (draw g 3 (n - 1)))

-- CA3, soft: at most two games on a side in each three slots in a row
abbrev pub ca3_on : ℕ → Side → Constraint
ca3_on n side = soft 5 (Ca3 (teams_of n) (teams_of n) 0 2 3 side)

-- CA4, soft: at most so many games in the first half that some teams have at home against others
abbrev pub ca4_with : ℕ → List ℕ → List ℕ → ℕ → Class
ca4_with n teams1 teams2 max = Ca4 teams1 teams2 0 max H Global (first_half n)

-- the CA4 of six words: two teams, two opponents, the bound, the penalty
abbrev pub made_ca4 : ℕ → Lcg → Constraint
made_ca4 n g =
    soft_drawn (draw g 5 10)
    (ca4_with n (set_of (draw g 0 n ∷ draw g 1 n ∷ [])) (set_of (draw g 2 n ∷ draw g 3 n ∷ [])) (draw g 4 3))

-- GA1, hard: a game of the double circle schedule is played in its slot there or in another one
abbrev pub ga1_with : Game → ℕ → Constraint
ga1_with game slot = hard (Ga1 ((game.home.0, game.away.0) ∷ []) 1 1 (set_of (game.slot.0 ∷ slot ∷ [])))

-- the GA1 of two words: the game's place, a slot
abbrev pub made_ga1 : ℕ → Lcg → Constraint
made_ga1 n g = ga1_with (game_at n (draw g 0 (n * (n - 1)))) (draw g 1 (slot_count n))

-- BR1, soft: a team has at most so many breaks
abbrev pub br1_with : ℕ → ℕ → ℕ → Class
br1_with n team intp = Br1 (team ∷ []) intp Both (slots_of n)

-- the BR1 of three words: a team, the bound, the penalty
abbrev pub made_br1 : ℕ → Lcg → Constraint
made_br1 n g = soft_drawn (draw g 2 10) (br1_with n (draw g 0 n) (draw g 1 3))

-- so many constraints, each made by the next words of the generator
abbrev pub made_list : (Lcg → Constraint) → (words count : ℕ) → Lcg → List Constraint
made_list make words count g = map (λ k. make (after (words * k) g)) (range_with_len 0 count)

-- the constraints without draws: home games and away games in a row ..
abbrev pub fixed_first : ℕ → List Constraint
fixed_first n = ca3_on n H ∷ ca3_on n A ∷ []

-- .. and, at the end: as many breaks as the double circle schedule has, few breaks, home games that differ by two at
-- most, and the slots between the two games of each two teams: (n - 2)/2 at least, and better n - 1
abbrev pub fixed_last : ℕ → List Constraint
fixed_last n =
    hard (Br2 (teams_of n) (circle_breaks n) (slots_of n))
    ∷ soft 10 (Br2 (teams_of n) (n - 2) (slots_of n))
    ∷ soft 10 (Fa2 (teams_of n) 2 (slots_of n))
    ∷ hard (Se1 (teams_of n) ((n - 2) / 2))
    ∷ soft 2 (Se1 (teams_of n) (n - 1))
    ∷ []

-- the generator from which the CA2, CA4, GA1 and BR1 are made: the constraints before take 5, 5, 6 and 2 words each
abbrev pub from_ca2 : ℕ → Lcg → Lcg
from_ca2 n g = after (5 * (n / 2)) g

abbrev pub from_ca4 : ℕ → Lcg → Lcg
from_ca4 n g = after (5 * 4) (from_ca2 n g)

abbrev pub from_ga1 : ℕ → Lcg → Lcg
from_ga1 n g = after (6 * 2) (from_ca4 n g)

abbrev pub from_br1 : ℕ → Lcg → Lcg
from_br1 n g = after (2 * 4) (from_ga1 n g)

-- the constraints in file order
abbrev pub made_constraints : ℕ → Lcg → List Constraint
made_constraints n g =
    made_list (made_ca1 n) 5 (n / 2) g
    ++ made_list (made_ca2 n) 5 4 (from_ca2 n g)
    ++ fixed_first n
    ++ made_list (made_ca4 n) 6 2 (from_ca4 n g)
    ++ made_list (made_ga1 n) 2 4 (from_ga1 n g)
    ++ made_list (made_br1 n) 3 (n / 2) (from_br1 n g)
    ++ fixed_last n

-- the league
abbrev pub made_league : ℕ → Lcg → Instance
made_league n g = record { n = n; phased = true; constraints = made_constraints n g }
