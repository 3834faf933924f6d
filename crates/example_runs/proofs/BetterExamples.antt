-- An objective of nothing, one that is bettered, and logs that are spent, over the leagues of LeastExamples.
use Rattle.clause_search.proofs.TurnLemmas.{All-front}
use Rattle.clause_search.proofs.SearchLemmas.{AreNews-none}
use Rattle.std.proofs.Common.{lit<, ◌≡◌, ◌⊎◌, inl, inr, ℕ, zero, suc, ◌<◌, ◌≤◌, true, false}
use Rattle.std.proofs.Common.{nat_lt, List, [], ◌∷◌, drop, length, All, Option, Some}
use Rattle.std.proofs.Common.{None, IsTrue, ◌-◌, ◌++◌, if◌then◌else◌, map, ap, arith, refl}
use Rattle.std.proofs.Common.{subst, ◌^◌}
use Rattle.std.specs.Ordering.{is_le}
use Rattle.std.proofs.lemmas.Bool.{ltb-true}
use Rattle.std.proofs.lemmas.List.Elements.{All-nil, All-from_recursion}
use Rattle.league.specs.Accepted.{IsAccepted, objective}
use Rattle.league.specs.Counts.{Counts, counts_of}
use Rattle.league.specs.Instance.{Instance, IsInstance, class_fits}
use Rattle.league.specs.Order.{game_cmp}
use Rattle.league.specs.Structure.{IsRoundRobin}
use Rattle.league.specs.declared.class.Class.TheVariants.{Ca1}
use Rattle.league.specs.declared.class.Constraint.{Constraint}
use Rattle.league.specs.declared.class.Side.TheVariants.{A}
use Rattle.league.specs.declared.game.Game.{Game}
use Rattle.league.proofs.AcceptedLemmas.{MeetsHard-from_sum}
use Rattle.league.proofs.DoubleFour.{game}
use Rattle.rows.specs.Cardinality.{at_least}
use Rattle.rows.specs.Literals.{Literal, no, yes}
use Rattle.rows.specs.Partials.{IsQuiet, IsQuietRow, is_false, opposite_of, reach}
use Rattle.rows.specs.Rows.{Row}
use Rattle.rows.specs.declared.partial.Value.{Value}
use Rattle.rows.specs.declared.partial.Value.TheVariants.{True, False, Free}
use Rattle.refutation.specs.Steps.{NamesRows, Step}
use Rattle.refutation.specs.Steps.Step.{Clause}
use Rattle.refutation.specs.Verdict.{verdict_of}
use Rattle.refutation.specs.declared.verdict.Verdict.TheVariants.{Accepted}
use Rattle.refutation_check.proofs.SoundLemmas.{accepted_logs_refute}
use Rattle.clause_search.specs.Answers.{IsSpentAt}
use Rattle.clause_search.specs.News.{IsTidy, row_of}
use Rattle.moves.specs.Moves.{moved}
use Rattle.moves.specs.Neighbours.{home_swap}
use Rattle.descent.specs.Settled.{IsLowering, IsSettled}
use Rattle.solve.specs.Solutions.{league_score}
use Rattle.bound_rows.specs.BoundRows.{bound_rows, bound_vars}
use Rattle.bound_rows.proofs.Faithful.{bounds-from_refuted}
use Rattle.bounds.specs.Proofs.{IsBetter, IsLeast, IsSpentBelow}
use Rattle.example_runs.proofs.LeastExamples.{away-one, away_first, costs, even_soon, lower_bound}
use Rattle.example_runs.proofs.LeastExamples.{one-fit, one-in_order, one_first, soft, unit_false, unit_quiet}
use Rattle.example_runs.proofs.LeastExamples.{with, zero_first}

-- ---- that nothing costs less than nothing needs no log, and has none

pub least-nothing : (limit : Option ℕ) → IsLeast away_first (counts_of one_first) limit 0 []
least-nothing limit = record {
  cost = refl;
  least = λ m accepted. omega arith;
  nothing = λ none. refl;
  refutes = λ some. absurd (omega (arith, some));
  named = All-nil NamesRows;
}

no_step : (step : Step) (steps : List Step) → step ∷ steps ≡ [] → ⊥
no_step step steps is = cc

pub least-no_log : (limit : Option ℕ) (step : Step) (steps : List Step)
    → IsLeast away_first (counts_of one_first) limit 0 (step ∷ steps) → ⊥
least-no_log limit step steps is = no_step step steps (is.nothing refl)

-- ---- team 0 at home first costs 3, and isn't least, whatever is said

below_none : (n : ℕ) → n ≡ 3 → n ≤ 0 → ⊥
below_none n three none = omega (arith, three, none)

pub least-dear : (limit : Option ℕ) (n : ℕ) (steps : List Step)
    → IsLeast away_first (counts_of zero_first) limit n steps → ⊥
least-dear limit n steps is = below_none n is.cost (is.least (counts_of one_first) away-one)

-- the other season betters it, and nothing betters that
pub better-one : IsBetter away_first (counts_of zero_first) one_first 0
better-one = record {
  accepted = away-one;
  fit = one-fit;
  in_order = one-in_order;
  cost = refl;
  lower = let less : 0 < 3 = lit< tt in less;
}

nothing_below : (n : ℕ) → n < 0 → ⊥
nothing_below n less = omega (arith, less)

pub better-none : (games : List Game) (n : ℕ) → IsBetter away_first (counts_of one_first) games n → ⊥
better-none games n is = nothing_below n is.lower

-- the season that betters the other doesn't better itself, nor does it cost 1
not_less : (n : ℕ) → n < n → ⊥
not_less n less = omega (arith, less)

pub better-itself : IsBetter away_first (counts_of zero_first) zero_first 3 → ⊥
better-itself is = not_less 3 is.lower

not_one : (n : ℕ) → n ≡ 1 → n ≡ 0 → ⊥
not_one n one none = omega (arith, one, none)

pub better-one_cost : IsBetter away_first (counts_of zero_first) one_first 1 → ⊥
better-one_cost is = not_one 1 refl is.cost

-- the later game first is no answer
late_first : IsTrue (is_le (game_cmp (game 0 1 1) (game 1 0 0))) → ⊥
late_first is = cc

pub better-order : (n : ℕ) → IsBetter away_first (counts_of zero_first) (game 0 1 1 ∷ game 1 0 0 ∷ []) n → ⊥
better-order n is = late_first (is.in_order 0 1 (game 0 1 1) (lit< tt) (lit< tt))

-- two games of one meeting are no answer, nor is or one more in a slot that there isn't, which counts nowhere
pub better-twice : (m : Counts) (n : ℕ) → IsBetter away_first m (game 1 0 0 ∷ game 1 0 1 ∷ []) n → ⊥
better-twice m n is = two_none 2 refl is.accepted.round_robin.pairs
  where
    two_none : (k : ℕ) → k ≡ 2 → k ≡ 0 → ⊥
    two_none k two none = omega (arith, two, none)

pub better-outside : (n : ℕ)
    → IsBetter away_first (counts_of zero_first) (game 1 0 0 ∷ game 0 1 1 ∷ game 0 1 5 ∷ []) n → ⊥
better-outside n is = five_below 5 refl (is.fit 2 (game 1 0 0) (lit< tt)).slot
  where
    five_below : (k : ℕ) → k ≡ 5 → k < 2 → ⊥
    five_below k five below = omega (arith, five, below)

-- ---- where each season costs 4, no move lowers it; at a budget of 0 the log is spent

any_hard : (m : Counts) → IsRoundRobin 2 false m → IsAccepted even_soon m
any_hard m round = record { round_robin = round; hard = MeetsHard-from_sum even_soon m refl }

not_lower : (cost : ℕ) → 4 ≤ cost → nat_lt cost 4 ≡ true → ⊥
not_lower cost enough lower = omega (arith, enough, ltb-true cost 4 lower)

pub settled-four : IsSettled 2 false (league_score even_soon) (counts_of zero_first)
settled-four step lowers =
    not_lower (objective even_soon (moved 2 (counts_of zero_first) step))
    (lower_bound (moved 2 (counts_of zero_first) step)
    (any_hard (moved 2 (counts_of zero_first) step) lowers.legal.round_robin))
    lowers.lower

pub spent-at_zero : IsSpentAt (bound_rows even_soon 3) 9 (Some 0) []
spent-at_zero = record {
  limited = refl;
  spent = record { count = refl; news = AreNews-none _ _; quiet = (unit_false, unit_quiet) };
  few = lit< tt;
  tidy = All-nil (IsTidy 9);
}

pub spent-four : IsSpentBelow even_soon (counts_of zero_first) (Some 0) ⊥ []
spent-four = record { some = omega arith; settled = inr settled-four; spent = spent-at_zero; named = All-nil NamesRows }

-- the budget is as many steps as there are, and without one nothing is spent
no_budget : (steps : List Step) → ◌≡◌ {A = Option ℕ} None (Some (length steps)) → ⊥
no_budget steps is = cc

pub spent-never : (league : Instance) (m : Counts) (may_stop : Type 0) (steps : List Step)
    → IsSpentBelow league m None may_stop steps → ⊥
spent-never league m may_stop steps is = no_budget steps is.spent.limited

other_budget : (most : ℕ) → 1 ≤ most → ◌≡◌ {A = Option ℕ} (Some most) (Some 0) → ⊥
other_budget most some is = let same : most ≡ 0 = cc in omega (arith, some, same)

pub spent-short : (m : Counts) (may_stop : Type 0) → IsSpentBelow even_soon m (Some 1) may_stop [] → ⊥
spent-short m may_stop is = other_budget 1 (omega arith) is.spent.limited

-- nothing is spent on a season that costs nothing, nor, where nothing may stop the run, on one that a move betters:
-- their home swap costs nothing
none_one : (n : ℕ) → n ≡ 0 → 1 ≤ n → ⊥
none_one n none some = omega (arith, none, some)

pub spent-nothing : (limit : Option ℕ) (may_stop : Type 0) (steps : List Step)
    → IsSpentBelow away_first (counts_of one_first) limit may_stop steps → ⊥
spent-nothing limit may_stop steps is = none_one 0 refl is.some

pub swap-lowers : IsLowering 2 false (league_score away_first) (counts_of zero_first) (home_swap (0, 1))
swap-lowers = record {
  of_league = (lit< tt, lit< tt);
  legal = record { own = lit< tt; round_robin = record { pairs = refl; cells = refl; phases = refl } };
  lower = refl;
}

settled-not : ⊥ ⊎ IsSettled 2 false (league_score away_first) (counts_of zero_first) → ⊥
settled-not (inl may) = may
settled-not (inr settled) = settled (home_swap (0, 1)) swap-lowers

pub spent-unsettled : (limit : Option ℕ) (steps : List Step)
    → IsSpentBelow away_first (counts_of zero_first) limit ⊥ steps → ⊥
spent-unsettled limit steps is = settled-not is.settled

-- ---- what propagation alone refutes is least at any limit, and spent at none: team 1 is to be away nowhere, at 7

abbrev never_away : Instance
never_away = with (soft 7 (Ca1 (1 ∷ []) 0 0 A (0 ∷ 1 ∷ [])))

-- row 28 allows one home game, 29 wants two or their units, and row 30 at most 6 of 14 to be paid
pub never-tail : (drop 27 (bound_rows never_away 6)
    ≡ at_least 1 (no 7 ∷ no 8 ∷ [])
    ∷ at_least 2 (yes 7 ∷ yes 8 ∷ yes 9 ∷ yes 10 ∷ [])
    ∷ record { terms = record { coef = 7; lit = no 9 } ∷ record { coef = 7; lit = no 10 } ∷ []; degree = 8 }
    ∷ at_least 1 (yes 9 ∷ no 10 ∷ [])
    ∷ [])
    × (bound_vars never_away ≡ 10)
never-tail = (refl, refl)

-- rows 28 to 30 together: both units are false, both games at home, and one too many
abbrev at_once : List Step
at_once = Clause [] (30 ∷ 29 ∷ 28 ∷ []) ∷ []

at_once-refuted : verdict_of (bound_rows never_away 6) 10 at_once ≡ Accepted
at_once-refuted = refl

never_fit : All (λ (c : Constraint). IsTrue (class_fits 2 c.class)) never_away.constraints
never_fit zero d h = refl
never_fit (suc k) d h = absurd (omega (arith, h))

never_instance : IsInstance never_away
never_instance = record {
  teams = record { even = refl; at_least = omega arith; at_most = omega arith };
  few = omega arith;
  fit = never_fit;
}

at_once-tidy : IsTidy 10 (Clause [] (30 ∷ 29 ∷ 28 ∷ []))
at_once-tidy = record {
  variables = λ i j d before inside. absurd (omega (arith, inside));
  from_one = All-nil (λ (l : Literal). 1 ≤ l.var);
  known = All-nil (λ (l : Literal). l.var ≤ 10);
  few = omega arith;
  named = All-from_recursion (λ (hint : ℕ). 1 ≤ hint) (30 ∷ 29 ∷ 28 ∷ [])
      (omega arith, (omega arith, (omega arith, tt)));
  small = All-from_recursion (λ (hint : ℕ). hint < 2 ^ 64) (30 ∷ 29 ∷ 28 ∷ [])
      (lit< tt, (lit< tt, (lit< tt, tt)));
}

pub least-at_once : IsLeast never_away (counts_of zero_first) (Some 0) 7 at_once
least-at_once = record {
  cost = refl;
  least =
      bounds-from_refuted never_away 7 never_instance
      (accepted_logs_refute (bound_rows never_away 6) 10 at_once at_once-refuted);
  nothing = λ none. absurd (omega (arith, none));
  refutes = λ some. record {
    accepted = at_once-refuted;
    before = [];
    hints = 30 ∷ 29 ∷ 28 ∷ [];
    last = refl;
    news = AreNews-none _ _;
    within = omega arith;
    tidy = All-from_recursion (IsTidy 10) at_once (at_once-tidy, tt);
  };
  named = All-from_recursion NamesRows at_once (at_once-tidy.named, tt);
}

-- what a literal adds to what is within reach, of coefficient 7 negated and of coefficient 1
abbrev unpaid : Value → ℕ
unpaid v = if is_false (opposite_of v) then 0 else 7

abbrev once : Value → ℕ
once v = if is_false v then 0 else 1

unpaid-le : (v : Value) → unpaid v ≤ 7
unpaid-le True = omega arith
unpaid-le False = omega arith
unpaid-le Free = omega arith

once-le : (v : Value) → once v ≤ 1
once-le True = omega arith
once-le False = omega arith
once-le Free = omega arith

abbrev to_pay : Row
to_pay = record { terms = record { coef = 7; lit = no 9 } ∷ record { coef = 7; lit = no 10 } ∷ []; degree = 8 }

abbrev at_home : Row
at_home = at_least 2 (yes 7 ∷ yes 8 ∷ yes 9 ∷ yes 10 ∷ [])

nine : (values : ℕ → Value) → IsQuietRow values to_pay → (v : Value) → values 9 ≡ v → v ≡ False
nine values quiet True is = absurd (omega (arith, quiet.no_conflict, ap unpaid is, unpaid-le (values 10)))
nine values quiet False is = refl
nine values quiet Free is =
    let most : 15 ≤ reach values to_pay.terms =
    quiet.none_forced 0 (record { coef = 7; lit = no 9 }) (lit< tt) (ap opposite_of is) in
    absurd (omega (arith, most, unpaid-le (values 9), unpaid-le (values 10)))

ten : (values : ℕ → Value) → IsQuietRow values to_pay → (v : Value) → values 10 ≡ v → v ≡ False
ten values quiet True is = absurd (omega (arith, quiet.no_conflict, ap unpaid is, unpaid-le (values 9)))
ten values quiet False is = refl
ten values quiet Free is =
    let most : 15 ≤ reach values to_pay.terms =
    quiet.none_forced 1 (record { coef = 7; lit = no 10 }) (lit< tt) (ap opposite_of is) in
    absurd (omega (arith, most, unpaid-le (values 9), unpaid-le (values 10)))

seven : (values : ℕ → Value) → values 9 ≡ False → values 10 ≡ False → IsQuietRow values at_home → (v : Value)
    → values 7 ≡ v → v ≡ True
seven values none_nine none_ten quiet True is = refl
seven values none_nine none_ten quiet False is =
    absurd (omega (arith, quiet.no_conflict, ap once is, ap once none_nine, ap once none_ten, once-le (values 8)))
seven values none_nine none_ten quiet Free is =
    let most : 3 ≤ reach values at_home.terms =
    quiet.none_forced 0 (record { coef = 1; lit = yes 7 }) (lit< tt) is in
    absurd (omega (arith, most, ap once none_nine, ap once none_ten, once-le (values 7), once-le (values 8)))

eight : (values : ℕ → Value) → values 9 ≡ False → values 10 ≡ False → IsQuietRow values at_home → (v : Value)
    → values 8 ≡ v → v ≡ True
eight values none_nine none_ten quiet True is = refl
eight values none_nine none_ten quiet False is =
    absurd (omega (arith, quiet.no_conflict, ap once is, ap once none_nine, ap once none_ten, once-le (values 7)))
eight values none_nine none_ten quiet Free is =
    let most : 3 ≤ reach values at_home.terms =
    quiet.none_forced 1 (record { coef = 1; lit = yes 8 }) (lit< tt) is in
    absurd (omega (arith, most, ap once none_nine, ap once none_ten, once-le (values 7), once-le (values 8)))

abbrev not_at_home : Value → ℕ
not_at_home v = once (opposite_of v)

never_quiet : (values : ℕ → Value) → IsQuietRow values to_pay → IsQuietRow values at_home
    → IsQuietRow values (at_least 1 (no 7 ∷ no 8 ∷ [])) → ⊥
never_quiet values paid home one =
    let none_nine : values 9 ≡ False = nine values paid (values 9) refl in
    let none_ten : values 10 ≡ False = ten values paid (values 10) refl in
    let first : values 7 ≡ True = seven values none_nine none_ten home (values 7) refl in
    let second : values 8 ≡ True = eight values none_nine none_ten home (values 8) refl in
    omega (arith, one.no_conflict, ap not_at_home first, ap not_at_home second)

pub spent-nowhere : (m : Counts) (limit : Option ℕ) (may_stop : Type 0) (steps : List Step)
    → objective never_away m ≡ 7 → IsSpentBelow never_away m limit may_stop steps → ⊥
spent-nowhere m limit may_stop steps costs is =
    let quiet : IsQuiet is.spent.spent.quiet.0 (bound_rows never_away 6) =
    subst (λ (n : ℕ). IsQuiet is.spent.spent.quiet.0 (bound_rows never_away (n - 1))) costs
    (All-front (IsQuietRow is.spent.spent.quiet.0) (bound_rows never_away (objective never_away m - 1)) _
    is.spent.spent.quiet.1) in
    never_quiet is.spent.spent.quiet.0 (quiet 29 to_pay (omega arith)) (quiet 28 to_pay (omega arith))
    (quiet 27 to_pay (omega arith))
