-- Descents of the league of SolveExamples, what a search leaves open, whole answers, and the best of two tries.
use Rattle.league_search.proofs.NewsLemmas.{ArePatternNews-none}
use Rattle.std.proofs.Common.{lit<, lit≤, ◌≡◌, ℕ, zero, suc, ◌+◌, ◌<◌, ◌≤◌, ◌==◌, Bool, true, false, ◌&&◌, ◌||◌, nat_lt, cond}
use Rattle.std.proofs.Common.{if◌then◌else◌, List, [], ◌∷◌, get_or, length, Option, Some, None, IfSome}
use Rattle.std.proofs.Common.{inl, inr, refl, sym, arith, ap, ap₂, IsTrue}
use Rattle.std.proofs.Math.Path.{fun_ext}
use Rattle.std.proofs.lemmas.Bool.Decides.{nat_tests}
use Rattle.std.proofs.lemmas.List.Elements.{All-from_recursion, All-nil}
use Rattle.league.specs.Counts.{Counts, counts_of}
use Rattle.league.specs.Instance.{is_one_side}
use Rattle.league.specs.declared.class.Side.{Side}
use Rattle.league.specs.declared.class.Side.TheVariants.{A, H}
use Rattle.league.proofs.DoubleFour.{game}
use Rattle.rows.specs.Rows.{Satisfies}
use Rattle.rows.specs.Values.{assigned}
use Rattle.encoding.specs.Variables.{h_var}
use Rattle.patterns.specs.Pattern.{IsPattern}
use Rattle.moves.specs.Moves.{is_between, moved, times, turned}
use Rattle.moves.specs.Neighbours.{home_swap}
use Rattle.moves.specs.declared.swap.Swap.{Swap}
use Rattle.refutation.specs.Following.{all_free}
use Rattle.clause_search.specs.News.{IsTidy}
use Rattle.league_search.specs.PatternRows.{pattern_rows}
use Rattle.league_search.specs.PatternSets.{SayPatterns, is_home, letter_at}
use Rattle.league_search.specs.declared.found.PatternFound.TheVariants as patterns
use Rattle.descent.specs.Descended.{Descended}
use Rattle.descent.specs.Settled.{IsLowering, IsSettled}
use Rattle.robin_watch.specs.declared.budgets.Budgets.{Budgets}
use Rattle.solve.specs.Solutions.{IsDescent, IsSchedule, IsSolution, LeavesOpen}
use Rattle.solve.specs.Solutions.{league_score}
use Rattle.solve.specs.Earliest.{IsBestOf, IsBestOfTries, IsEarliestLeast}
use Rattle.solve.specs.Tried.{IsTriedBy}
use Rattle.solve.specs.declared.lower.Season.{Season}
use Rattle.solve.specs.declared.solved.Solved.TheVariants as solved
use Rattle.solve.specs.declared.tries.Tried.{Tried}
use Rattle.solve.specs.declared.tries.Tried.TheVariants as tries
use Rattle.example_runs.proofs.SolveExamples.{accepted_home, accepted_out, false_true, fits_home, fits_out}
use Rattle.example_runs.proofs.SolveExamples.{home, homes, log, one_there, ordered_home, ordered_out, out}
use Rattle.example_runs.proofs.SolveExamples.{pattern_pairs, quiet_pairs, refutes-homes, spent-one_there}
use Rattle.example_runs.proofs.SolveExamples.{wishful}

-- ---- descents: in `home` team 0 is away in slot 0, which it had better not be; the home swap of the two mends that

pub lowers-home : IsLowering 2 false (league_score wishful) (counts_of home) (home_swap (0, 1))
lowers-home = record {
  of_league = (lit< tt, lit< tt);
  legal = record { own = lit< tt; round_robin = record { pairs = refl; cells = refl; phases = refl } };
  lower = refl;
}

-- a descent that may make no move stops there, and isn't settled
abbrev stopped : Descended
stopped = record { first = home; trail = []; settled = false }

pub descent-stopped : IsDescent wishful 0 ⊥ home stopped
descent-stopped = record {
  first = accepted_home;
  fit = fits_home;
  in_order = ordered_home;
  trail = refl;
  few = omega arith;
  settled = λ yes. absurd (false_true yes);
  spent = λ no. refl;
  costly = λ no. lit≤ tt;
  lowers = λ no. inr (λ settled. settled (home_swap (0, 1)) lowers-home);
}

-- a descent that may make no move may not say that it is settled, stopped or not
pub descent-unsettled : (may_stop : Type 0)
    → IsDescent wishful 0 may_stop home (record { first = home; trail = []; settled = true }) → ⊥
descent-unsettled may_stop is = is.settled refl (home_swap (0, 1)) lowers-home

-- where no move was made, the games are the first ones, which the league accepts
none_one : ◌≡◌ {A = ℕ} 0 1 → ⊥
none_one is = omega (arith, is)

pub descent-elsewhere : (moves : ℕ) (may_stop : Type 0) (settled : Bool)
    → IsDescent wishful moves may_stop out (record { first = home; trail = []; settled = settled }) → ⊥
descent-elsewhere moves may_stop settled is = none_one (ap (λ (m : Counts). m 1 0 0) is.trail)

two_wrong : ◌≡◌ {A = ℕ} 2 0 → ⊥
two_wrong is = omega (arith, is)

pub descent-from_nothing : (moves : ℕ) (may_stop : Type 0) (trail : List Swap) (settled : Bool)
    → IsDescent wishful moves may_stop out (record { first = []; trail = trail; settled = settled }) → ⊥
descent-from_nothing moves may_stop trail settled is = two_wrong is.first.round_robin.pairs

pub schedule-stopped : IsSchedule wishful 0 ⊥ home 5 stopped
schedule-stopped = record {
  accepted = accepted_home;
  fit = fits_home;
  in_order = ordered_home;
  cost = refl;
  descends = descent-stopped;
}

-- a descent of one move leads from `home` to `out`: as games of the two teams, where the venues are exchanged
exchanged : (a b c : Bool) → (a && b && c) ≡ (b && a && c)
exchanged true true c = refl
exchanged true false c = refl
exchanged false true c = refl
exchanged false false c = refl

turned_counts : (i j s : ℕ) → counts_of out i j s ≡ counts_of home j i s
turned_counts i j s =
    ap₂ (λ (x y : Bool). 0 + cond x 1 0 + cond y 1 0) (exchanged (0 == i) (1 == j) (0 == s))
    (exchanged (1 == i) (0 == j) (1 == s))

-- in `out` there are no other games than those of `home` with the venues exchanged
other_counts : (i j s : ℕ) → is_between 0 1 (game i j s) ≡ false → counts_of out i j s ≡ counts_of home i j s
other_counts i j s other = grind (arith, nat_tests)

swapped_by : (b : Bool) (i j s : ℕ) → is_between 0 1 (game i j s) ≡ b
    → counts_of out i j s ≡ times (counts_of home) (if b then turned (game i j s) else game i j s)
swapped_by true i j s is = turned_counts i j s
swapped_by false i j s is = other_counts i j s is

pub swapped_home : counts_of out ≡ moved 2 (counts_of home) (home_swap (0, 1))
swapped_home = fun_ext (λ i. fun_ext (λ j. fun_ext (λ s. swapped_by (is_between 0 1 (game i j s)) i j s refl)))

-- the move leads from `out` back to `home`
swapped_back : (b : Bool) (i j s : ℕ) → is_between 0 1 (game i j s) ≡ b
    → counts_of home i j s ≡ times (counts_of out) (if b then turned (game i j s) else game i j s)
swapped_back true i j s is = sym (turned_counts j i s)
swapped_back false i j s is = sym (other_counts i j s is)

pub swapped_out : counts_of home ≡ moved 2 (counts_of out) (home_swap (0, 1))
swapped_out = fun_ext (λ i. fun_ext (λ j. fun_ext (λ s. swapped_back (is_between 0 1 (game i j s)) i j s refl)))

-- where nothing costs anything, no move lowers the score
nothing_lower : (a b : ℕ) → (nat_lt a 0 || ((a == 0) && nat_lt b 0)) ≡ true → ⊥
nothing_lower a b lower =
    let none : (nat_lt a 0 || ((a == 0) && nat_lt b 0)) ≡ false = grind (arith, nat_tests) in
    cc

settled_out : IsSettled 2 false (league_score wishful) (counts_of out)
settled_out step lowers =
    nothing_lower (league_score wishful (moved 2 (counts_of out) step)).infeasibility
    (league_score wishful (moved 2 (counts_of out) step)).objective lowers.lower

abbrev lowered : Descended
lowered = record { first = home; trail = home_swap (0, 1) ∷ []; settled = true }

true_false : true ≡ false → ⊥
true_false is = cc

pub descent-lowered : IsDescent wishful 1 ⊥ out lowered
descent-lowered = record {
  first = accepted_home;
  fit = fits_home;
  in_order = ordered_home;
  trail = (lowers-home, swapped_home);
  few = omega arith;
  settled = λ yes. settled_out;
  spent = λ no. absurd (true_false no);
  costly = λ no. absurd (true_false no);
  lowers = λ no. absurd (true_false no);
}

pub schedule-lowered : IsSchedule wishful 1 ⊥ out 0 lowered
schedule-lowered = record {
  accepted = accepted_out;
  fit = fits_out;
  in_order = ordered_out;
  cost = refl;
  descends = descent-lowered;
}

no_move : 1 ≤ 0 → ⊥
no_move few = omega (arith, few)

-- what a move led to is no descent where no move may be made
pub descent-no_move : (may_stop : Type 0) → IsDescent wishful 0 may_stop out lowered → ⊥
descent-no_move may_stop is = no_move is.few

-- ---- what is left open: team 0 is away and then at home, team 1 the other way round

abbrev turns : List (List Side)
turns = (A ∷ H ∷ []) ∷ (H ∷ A ∷ []) ∷ []

-- 6 and 7 are true
abbrev values : ℕ → Bool
values = assigned (false ∷ false ∷ false ∷ false ∷ false ∷ true ∷ true ∷ false ∷ [])

at_home : (i s : ℕ) → i < 2 → s < 2 → values (h_var 2 i s) ≡ is_home (letter_at turns i s)
at_home zero zero team slot = refl
at_home zero (suc zero) team slot = refl
at_home (suc zero) zero team slot = refl
at_home (suc zero) (suc zero) team slot = refl
at_home zero (suc (suc s)) team slot = absurd (omega (arith, slot))
at_home (suc zero) (suc (suc s)) team slot = absurd (omega (arith, slot))
at_home (suc (suc i)) s team slot = absurd (omega (arith, team))

say : SayPatterns 2 false turns values
say = record {
  venues = at_home;
  home_breaks = λ breaks. absurd (false_true breaks);
  away_breaks = λ breaks. absurd (false_true breaks);
}

letters_fit : (a b : Side) → IsTrue (is_one_side a) → IsTrue (is_one_side b) → IsPattern (a ∷ b ∷ [])
letters_fit a b first second = record {
  at_most = omega arith;
  letters = All-from_recursion (λ side. IsTrue (is_one_side side)) (a ∷ b ∷ []) (first, (second, tt));
}

pub leaves-patterns : LeavesOpen one_there 0 (patterns.Patterns turns)
leaves-patterns = record {
  teams = refl;
  slots = All-from_recursion (λ (pattern : List Side). length pattern ≡ 2) turns (refl, (refl, tt));
  letters = All-from_recursion IsPattern turns (letters_fit A H refl refl, (letters_fit H A refl refl, tt));
  values = values;
  say = say;
  met = All-from_recursion (Satisfies values) (pattern_rows one_there) (
    omega arith,
    (
      omega arith,
      (
        omega arith,
        (
          omega arith,
          (omega arith, (omega arith, (omega arith, (omega arith, tt)))),
        ),
      ),
    ),
  );
}

-- at the budget 0 nothing is known of the patterns
pub leaves-spent : LeavesOpen one_there 0 (patterns.Spent [])
leaves-spent = record {
  limited = refl;
  news = ArePatternNews-none _ _ _ _;
  quiet = (all_free, quiet_pairs pattern_pairs);
  few = lit< tt;
  tidy = All-nil (IsTidy 8);
}

-- ---- answers, each to its league

abbrev budgets : Budgets
budgets = record { conflicts = Some 0; moves = 1; tries = 1; patterns = 0; seed = 3 }

pub solution-schedule : IsSolution wishful budgets ⊥ (solved.Schedule out 0 lowered)
solution-schedule = schedule-lowered

pub solution-refuted : IsSolution homes budgets ⊥ (solved.Refuted log)
solution-refuted = refutes-homes

pub solution-spent : IsSolution one_there budgets ⊥ (solved.Spent [] (patterns.Patterns turns))
    × IsSolution one_there budgets ⊥ (solved.Spent [] (patterns.Spent []))
solution-spent = ((spent-one_there, leaves-patterns), (spent-one_there, leaves-spent))

-- `home` is no answer for what `out` costs
dear_home : ◌≡◌ {A = ℕ} 0 5 → ⊥
dear_home is = omega (arith, is)

pub solution-cheap : (may_stop : Type 0) → IsSolution wishful budgets may_stop (solved.Schedule home 0 stopped) → ⊥
solution-cheap may_stop is = dear_home is.cost

-- ---- the best of two tries, neither of which may move: the first stops at `home`, the second finds `out`

abbrev resting : Descended
resting = record { first = out; trail = []; settled = true }

season_out : IsSchedule wishful 0 ⊥ out 0 resting
season_out = record {
  accepted = accepted_out;
  fit = fits_out;
  in_order = ordered_out;
  cost = refl;
  descends = record {
    first = accepted_out;
    fit = fits_out;
    in_order = ordered_out;
    trail = refl;
    few = omega arith;
    settled = λ yes. settled_out;
    spent = λ no. absurd (true_false no);
    costly = λ no. absurd (true_false no);
    lowers = λ no. absurd (true_false no);
  };
}

abbrev dear : Season
dear = record { schedule = home; objective = 5; descent = stopped }

abbrev cheap : Season
cheap = record { schedule = out; objective = 0; descent = resting }

-- a try that finds none between them, and one behind them that is no better
pub best-second : IsEarliestLeast (Some dear ∷ None ∷ Some cheap ∷ Some cheap ∷ []) cheap
best-second = record {
  before = Some dear ∷ None ∷ [];
  after = Some cheap ∷ [];
  place = refl;
  earlier = All-from_recursion (λ (o : Option Season). IfSome o (λ s. 0 < s.objective)) (Some dear ∷ None ∷ [])
      (lit< tt, (tt, tt));
  later = All-from_recursion (λ (o : Option Season). IfSome o (λ s. 0 ≤ s.objective)) (Some cheap ∷ []) (lit≤ tt, tt);
}

-- where a try finds one, there is a best
pub best-none : IsBestOf (None ∷ Some dear ∷ []) None → ⊥
best-none is = true_false (is 1 None (lit< tt))

abbrev two_tries : Budgets
two_tries = record { conflicts = None; moves = 0; tries = 2; patterns = 0; seed = 3 }

-- the second try, which is the only one behind the first
tried-second : (k : ℕ) (d : Tried) → k < 1 → IsTriedBy wishful two_tries ⊥ (get_or (tries.Found cheap ∷ []) k d)
tried-second zero d below = record {
  kept = two_tries;
  are_kept = record { conflicts = inl refl; patterns = inl refl; moves = inl refl; tries = refl; seed = refl };
  is_tried = season_out;
}
tried-second (suc k) d below = absurd (omega (arith, below))

pub best-tries : IsBestOfTries (λ k tried. IsTriedBy wishful two_tries ⊥ tried) two_tries ⊥
    (solved.Schedule home 5 stopped) (solved.Schedule out 0 resting)
best-tries = record {
  later = tries.Found cheap ∷ [];
  each = tried-second;
  few = λ some. lit< tt;
  all = λ no unstopped. lit≤ tt;
  best = record {
    before = Some dear ∷ [];
    after = [];
    place = refl;
    earlier = All-from_recursion (λ (o : Option Season). IfSome o (λ s. 0 < s.objective)) (Some dear ∷ [])
        (lit< tt, tt);
    later = All-nil (λ (o : Option Season). IfSome o (λ s. 0 ≤ s.objective));
  };
}
