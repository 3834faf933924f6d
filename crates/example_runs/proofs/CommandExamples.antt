-- What `validate`, `solve` and `patterns` answer of leagues of two teams. x(0,1,s) is 1 + s, x(1,0,s) 3 + s, h(0,s) 5 + s,
-- and h(1,s) 7 + s.
use Rattle.league_search.proofs.NewsLemmas.{ArePatternNews-none}
use Rattle.clause_search.proofs.SearchLemmas.{AreNews-none}
use Rattle.std.proofs.Common.{lit<, ◌≡◌, ◌⊎◌, ℕ, zero, suc, ◌<◌, ◌≤◌, Bool, true, false, if◌then◌else◌, List, []}
use Rattle.std.proofs.Common.{◌∷◌, ◌++◌, ◌==◌, length, Option, Some, None, Ok, IsSomeAnd, IsTrue, codes}
use Rattle.std.proofs.Common.{nat_lt, All, arith, inl, inr, refl}
use Rattle.std.proofs.Common.{sym, ◌∙◌, ◌^◌}
use Rattle.std.specs.Fmt.{digits}
use Rattle.std.proofs.Math.Path.{fun_ext}
use Rattle.std.proofs.lemmas.Bool.{ltb-true, ne_eqb}
use Rattle.std.proofs.lemmas.Bool.Decides.{nat_tests}
use Rattle.std.proofs.lemmas.List.Elements.{All-nil, All-from_recursion}
use Rattle.example_runs.proofs.Runs.{ended_with}
use Rattle.robin_run.specs.Run.{Writes}
use Rattle.robinx.specs.Pieces.{pieces, pieces_from}
use Rattle.robinx.specs.Tags.{attributes_at}
use Rattle.robinx.specs.SolutionFile.{solution_of}
use Rattle.robinx.specs.Texts.{solution_text}
use Rattle.robinx.specs.Walk.{walk}
use Rattle.league.specs.Accepted.{IsAccepted, objective}
use Rattle.league.specs.Counts.{Counts, counts_of}
use Rattle.league.specs.Instance.{Instance, IsInstance, class_fits, is_one_side}
use Rattle.league.specs.declared.class.Class.TheVariants.{Br2, Ca1, Ga1}
use Rattle.league.specs.declared.class.Constraint.{Constraint}
use Rattle.league.specs.declared.class.Side.{Side}
use Rattle.league.specs.declared.class.Side.TheVariants.{H, A}
use Rattle.league.proofs.AcceptedLemmas.{MeetsHard-from_sum, sum-from_MeetsHard}
use Rattle.circle_method.specs.Circle.{double_games}
use Rattle.patterns.specs.Pattern.{IsPattern}
use Rattle.answers.specs.Reply.{Answer}
use Rattle.answers.specs.declared.status.Status.TheVariants.{Yes, No, Refuted, Spent}
use Rattle.command_check.specs.Report.{report_text}
use Rattle.command_check.specs.Validate.{IsJudgement}
use Rattle.rows.specs.Literals.{Literal}
use Rattle.rows.specs.Values.{assigned, valued}
use Rattle.rows.specs.declared.partial.Value.{Value}
use Rattle.rows.specs.declared.partial.Value.TheVariants.{True, False}
use Rattle.rows.proofs.TestLemmas.{SatisfiesAll-from_true}
use Rattle.encoding.specs.Encoding.{rows_of}
use Rattle.encoding.specs.Variables.{h_var, var_count}
use Rattle.refutation.specs.Following.{all_free, row_numbered}
use Rattle.refutation.specs.Logs.{lines_from, log_of}
use Rattle.refutation.specs.Steps.{Step}
use Rattle.refutation.specs.Steps.Step.{Clause}
use Rattle.refutation.specs.Texts.{log_text}
use Rattle.refutation.specs.Verdict.{verdict_of}
use Rattle.refutation.specs.declared.verdict.Verdict.TheVariants.{Accepted}
use Rattle.refutation_check.proofs.SoundLemmas.{accepted_logs_refute}
use Rattle.decoding.specs.Excluded.{NoneAccepted}
use Rattle.decoding.proofs.SeasonLemmas.{accepted_logs_exclude}
use Rattle.clause_search.specs.News.{IsTidy}
use Rattle.league_search.specs.PatternLogs.{IsPatternSpent, RefutesPatterns}
use Rattle.league_search.specs.PatternRows.{is_pattern_row, pattern_rows}
use Rattle.league_search.specs.PatternSets.{IsPatternSet, is_home, letter_at}
use Rattle.league_search.specs.declared.found.PatternFound.TheVariants as pattern_answers
use Rattle.league_search.specs.declared.found.PatternFound.TheVariants.{Patterns}
use Rattle.robin_watch.specs.declared.budgets.Budgets.{Budgets}
use Rattle.descent.specs.Descended.{Descended}
use Rattle.descent.specs.Settled.{IsSettled}
use Rattle.descent.specs.Trail.{IsClimb, IsTrail}
use Rattle.moves.specs.Moves.{moved}
use Rattle.moves.specs.Neighbours.{home_swap}
use Rattle.moves.specs.declared.swap.Swap.{Swap}
use Rattle.solve.specs.Solutions.{IsDescent, league_score}
use Rattle.league_search.proofs.FoundLemmas.{plain_behind}
use Rattle.command_solve.specs.Solve.{IsBudgetSpent, IsFound, IsRefuted, IsSchedule, descent_text}
use Rattle.command_solve.specs.Patterns as patterned
use Rattle.command_solve.specs.Patterns.{AreFound, ArePatterns, patterns_text}
use Rattle.example_runs.proofs.LeastExamples.{away-one, away-zero, away_first, even-accepted, even_soon, one-fit}
use Rattle.example_runs.proofs.LeastExamples.{one-in_order, one_first, quiet_rows}
use Rattle.example_runs.proofs.BetterExamples.{settled-four, swap-lowers}
use Rattle.example_runs.proofs.LeastExamples.{zero-fit, zero-in_order, zero_first}

pub false_true : false ≡ true → ⊥
false_true is = cc

-- ---- `validate`: team 0 at home first is a season, which costs 4

abbrev judged : Answer
judged = record {
  status = Yes;
  text = codes "teams 2\nslots 2\nmode NULL\ngames 2\nstructure pairs 0 cells 0 phases 0\n"
      ++ codes "constraint 1 FA2 SOFT penalty 4 sum 1 entries 1\ninfeasibility 0\nobjective 4\nfeasible yes\n";
}

judged-text : judged.text ≡ report_text even_soon zero_first true
unfolding digits
judged-text = refl

pub judgement-zero : IsJudgement even_soon zero_first judged
judgement-zero = record {
  feasible = true;
  accepted = (λ yes. even-accepted, λ accepted. refl);
  status = refl;
  text = judged-text;
}

feasible_no : (feasible : Bool) → feasible ≡ true → No ≡ (if feasible then Yes else No) → ⊥
feasible_no true is status = cc
feasible_no false is status = cc

pub judgement-no : (text : List ℕ) → IsJudgement even_soon zero_first (record { status = No; text = text }) → ⊥
judgement-no text is = feasible_no is.feasible (is.accepted.1 even-accepted) is.status

pub judged-zero : Writes (ended_with Yes (Some (codes "> ")) (Some (codes "> " ++ judged.text))) (IsJudgement even_soon zero_first)
judged-zero = record { answer = judged; of_kind = judgement-zero; ended = refl; written = refl }

-- ---- `solve`: that season is settled, since every one costs as much

abbrev still : Descended
still = record { first = zero_first; trail = []; settled = true }

pub no_true : true ≡ false → ⊥
no_true is = cc

descent-still : IsDescent even_soon 0 ⊥ zero_first still
descent-still = record {
  first = even-accepted;
  fit = zero-fit;
  in_order = zero-in_order;
  trail = refl;
  few = omega arith;
  settled = λ yes. settled-four;
  spent = λ no. absurd (no_true no);
  costly = λ no. absurd (no_true no);
  lowers = λ no. absurd (no_true no);
}

-- a descent that may be stopped may say that it isn't settled though it is, and one that nothing may stop may not
abbrev looking : Descended
looking = record { first = zero_first; trail = []; settled = false }

pub descent-looking : IsDescent even_soon 0 (Unit {0}) zero_first looking
descent-looking = record {
  first = even-accepted;
  fit = zero-fit;
  in_order = zero-in_order;
  trail = refl;
  few = omega arith;
  settled = λ yes. absurd (false_true yes);
  spent = λ no. refl;
  costly = λ no. omega arith;
  lowers = λ no. inl tt;
}

lowers_none : (P : Type 0) → P → ⊥ ⊎ (P → ⊥) → ⊥
lowers_none P holds (inl may) = may
lowers_none P holds (inr fails) = fails holds

pub descent-looked : IsDescent even_soon 0 ⊥ zero_first looking → ⊥
descent-looked is =
    lowers_none (IsSettled 2 false (league_score even_soon) (counts_of zero_first)) settled-four (is.lowers refl)

abbrev found : Answer
found = record {
  status = Yes;
  text = codes "<?xml version=\"1.0\" encoding=\"UTF-8\"?>\n<Solution>\n<MetaData>\n"
      ++ codes "<ObjectiveValue infeasibility=\"0\" objective=\"4\"/>\n</MetaData>\n<Games>\n"
      ++ codes "<ScheduledMatch home=\"0\" away=\"1\" slot=\"0\"/>\n"
      ++ codes "<ScheduledMatch home=\"1\" away=\"0\" slot=\"1\"/>\n</Games>\n</Solution>\n"
      ++ codes "<!-- descent first=4 moves=0 settled=yes -->\n";
}

found-text : found.text ≡ solution_text zero_first (Some (0, 4)) ++ descent_text 4 still
unfolding digits
found-text = refl

found-read : solution_of 2 (pieces found.text) ≡ Ok zero_first
unfolding attributes_at pieces_from walk
found-read = refl

pub schedule-zero : IsSchedule even_soon 0 ⊥ found
schedule-zero = record {
  games = zero_first;
  descent = still;
  accepted = even-accepted;
  fit = zero-fit;
  in_order = zero-in_order;
  descends = descent-still;
  climbs = refl;
  settles = λ enough. refl;
  status = refl;
  text = found-text;
  reads_back = found-read;
}

abbrev pub budgets : Budgets
budgets = record { conflicts = Some 0; moves = 0; tries = 1; patterns = 0; seed = 5 }

pub found-zero : IsFound even_soon budgets ⊥ (rows_of even_soon) found
found-zero = record {
  found = inl schedule-zero;
  circle = λ accepted. refl;
  short = λ short. absurd (false_true short);
  crowded = λ crowded. absurd (false_true crowded);
  few = λ few. absurd (false_true few);
}

pub solved-zero : Writes (ended_with Yes (Some []) (Some found.text)) (IsFound even_soon budgets ⊥ (rows_of even_soon))
solved-zero = record { answer = found; of_kind = found-zero; ended = refl; written = refl }

-- ---- one move: team 0 is to be away in slot 0, and to exchange the venues of the two games saves 3

one-moved : (i j s : ℕ) → counts_of one_first i j s ≡ moved 2 (counts_of zero_first) (home_swap (0, 1)) i j s
one-moved zero zero s = refl
one-moved zero (suc zero) s = refl
one-moved zero (suc (suc j)) s =
    let behind : (suc (suc j) == 1) ≡ false = ne_eqb (suc (suc j)) 1 (λ e. omega (arith, e)) in
    let ahead : (1 == suc (suc j)) ≡ false = ne_eqb 1 (suc (suc j)) (λ e. omega (arith, e)) in
    rw (behind, ahead) refl
one-moved (suc zero) zero s = refl
one-moved (suc zero) (suc zero) s = refl
one-moved (suc zero) (suc (suc j)) s =
    let behind : (suc (suc j) == 0) ≡ false = ne_eqb (suc (suc j)) 0 (λ e. omega (arith, e)) in
    let ahead : (0 == suc (suc j)) ≡ false = ne_eqb 0 (suc (suc j)) (λ e. omega (arith, e)) in
    rw (behind, ahead) refl
one-moved (suc (suc i)) j s = grind (arith, nat_tests)

zero-moved : (i j s : ℕ) → counts_of zero_first i j s ≡ moved 2 (counts_of one_first) (home_swap (0, 1)) i j s
zero-moved zero zero s = refl
zero-moved zero (suc zero) s = refl
zero-moved zero (suc (suc j)) s =
    let behind : (suc (suc j) == 1) ≡ false = ne_eqb (suc (suc j)) 1 (λ e. omega (arith, e)) in
    let ahead : (1 == suc (suc j)) ≡ false = ne_eqb 1 (suc (suc j)) (λ e. omega (arith, e)) in
    rw (behind, ahead) refl
zero-moved (suc zero) zero s = refl
zero-moved (suc zero) (suc zero) s = refl
zero-moved (suc zero) (suc (suc j)) s =
    let behind : (suc (suc j) == 0) ≡ false = ne_eqb (suc (suc j)) 0 (λ e. omega (arith, e)) in
    let ahead : (0 == suc (suc j)) ≡ false = ne_eqb 0 (suc (suc j)) (λ e. omega (arith, e)) in
    rw (behind, ahead) refl
zero-moved (suc (suc i)) j s = grind (arith, nat_tests)

same_counts : (m k : Counts) → ((i j s : ℕ) → m i j s ≡ k i j s) → m ≡ k
same_counts m k same = fun_ext (λ i. fun_ext (λ j. fun_ext (λ s. same i j s)))

abbrev swap : Swap
swap = home_swap (0, 1)

abbrev one_move : Descended
one_move = record { first = zero_first; trail = swap ∷ []; settled = true }

pub swap-trail : IsTrail 2 false (league_score away_first) (counts_of zero_first) (swap ∷ []) (counts_of one_first)
swap-trail = (swap-lowers, same_counts (counts_of one_first) (moved 2 (counts_of zero_first) swap) one-moved)

-- back it raises the score
pub swap-climb : IsClimb 2 false (league_score away_first) (counts_of one_first) (swap ∷ []) (counts_of zero_first)
swap-climb = (
  record { own = lit< tt; round_robin = record { pairs = refl; cells = refl; phases = refl } },
  refl,
  same_counts (counts_of zero_first) (moved 2 (counts_of one_first) swap) zero-moved,
)

-- nothing is lower than a score of nothing
nothing_lower : (cost : ℕ) → nat_lt cost 0 ≡ true → ⊥
nothing_lower cost lower = omega (arith, ltb-true cost 0 lower)

away-settled : IsSettled 2 false (league_score away_first) (counts_of one_first)
away-settled step lowers = nothing_lower (objective away_first (moved 2 (counts_of one_first) step)) lowers.lower

pub descent-one : IsDescent away_first 1 ⊥ one_first one_move
descent-one = record {
  first = away-zero;
  fit = zero-fit;
  in_order = zero-in_order;
  trail = swap-trail;
  few = omega arith;
  settled = λ yes. away-settled;
  spent = λ no. absurd (no_true no);
  costly = λ no. absurd (no_true no);
  lowers = λ no. absurd (no_true no);
}

-- no move may be made
one_none : (n : ℕ) → n ≡ 1 → n ≤ 0 → ⊥
one_none n one none = omega (arith, one, none)

pub descent-none : (may_stop : Type 0) → IsDescent away_first 0 may_stop one_first one_move → ⊥
descent-none may_stop is = one_none 1 refl is.few

-- a settled end isn't called unsettled, nor the season before the move settled
pub descent-unsettled : IsDescent away_first 1 ⊥ one_first (record one_move { settled = false }) → ⊥
descent-unsettled is =
    lowers_none (IsSettled 2 false (league_score away_first) (counts_of one_first)) away-settled (is.lowers refl)

pub descent-unmoved : (moves : ℕ) (may_stop : Type 0) → IsDescent away_first moves may_stop zero_first still → ⊥
descent-unmoved moves may_stop is = is.settled refl swap swap-lowers

-- nor is an end that costs nothing, stopped or not
pub descent-free : (may_stop : Type 0)
    → IsDescent away_first 1 may_stop one_first (record one_move { settled = false }) → ⊥
descent-free may_stop is = one_none 1 refl (is.costly refl)

abbrev moved_file : Answer
moved_file = record {
  status = Yes;
  text = codes "<?xml version=\"1.0\" encoding=\"UTF-8\"?>\n<Solution>\n<MetaData>\n"
      ++ codes "<ObjectiveValue infeasibility=\"0\" objective=\"0\"/>\n</MetaData>\n<Games>\n"
      ++ codes "<ScheduledMatch home=\"1\" away=\"0\" slot=\"0\"/>\n"
      ++ codes "<ScheduledMatch home=\"0\" away=\"1\" slot=\"1\"/>\n</Games>\n</Solution>\n"
      ++ codes "<!-- descent first=3 moves=1 settled=yes -->\n<!-- move HomeSwap 0 1 -->\n";
}

moved-text : moved_file.text ≡ solution_text one_first (Some (0, 0)) ++ descent_text 3 one_move
unfolding digits
moved-text = refl

moved-read : solution_of 2 (pieces moved_file.text) ≡ Ok one_first
unfolding attributes_at pieces_from walk
moved-read = refl

pub schedule-one : IsSchedule away_first 1 ⊥ moved_file
schedule-one = record {
  games = one_first;
  descent = one_move;
  accepted = away-one;
  fit = one-fit;
  in_order = one-in_order;
  descends = descent-one;
  climbs = swap-climb;
  settles = λ enough. refl;
  status = refl;
  text = moved-text;
  reads_back = moved-read;
}

-- ---- no team may be away in slot 1: row 24 wants one, and rows 29 and 30 neither

abbrev pub home_last : Instance
home_last = record {
  n = 2;
  phased = false;
  constraints = record { hard = true; penalty = 1; class = Ca1 (0 ∷ 1 ∷ []) 0 0 A (1 ∷ []) } ∷ [];
}

abbrev no_season : List Step
no_season = Clause [] (29 ∷ 30 ∷ 24 ∷ []) ∷ []

pub no_season-accepted : verdict_of (rows_of home_last) (var_count home_last) no_season ≡ Accepted
no_season-accepted = refl

home_fit : All (λ (c : Constraint). IsTrue (class_fits 2 c.class)) home_last.constraints
home_fit zero d h = refl
home_fit (suc k) d h = absurd (omega (arith, h))

home_instance : IsInstance home_last
home_instance = record {
  teams = record { even = refl; at_least = omega arith; at_most = omega arith };
  few = omega arith;
  fit = home_fit;
}

pub none : NoneAccepted home_last
none = accepted_logs_exclude home_last no_season home_instance no_season-accepted

abbrev refutation : Answer
refutation = record { status = Refuted; text = codes "refutation 1\n0 29 30 24 0\nend\n" }

refutation-text : refutation.text ≡ log_text no_season
unfolding digits
refutation-text = refl

refutation-read : log_of refutation.text ≡ Ok no_season
unfolding lines_from
refutation-read = refl

pub refuted-home : IsRefuted home_last (rows_of home_last) refutation
refuted-home = record {
  steps = no_season;
  accepted = no_season-accepted;
  none = none;
  status = refl;
  text = refutation-text;
  reads_back = refutation-read;
}

-- no season is its answer, and what accepts a season isn't refuted
pub schedule-home : (moves : ℕ) (may_stop : Type 0) (answer : Answer) → IsSchedule home_last moves may_stop answer → ⊥
schedule-home moves may_stop answer is = none is.games is.accepted

pub refuted-even : (answer : Answer) → IsRefuted even_soon (rows_of even_soon) answer → ⊥
refuted-even answer is = is.none zero_first even-accepted

pub found-home : IsFound home_last budgets ⊥ (rows_of home_last) refutation
found-home = record {
  found = inr (inl refuted-home);
  circle = λ accepted. absurd (none (double_games 2) accepted);
  short = λ short. refl;
  crowded = λ crowded. refl;
  few = λ few. refl;
}

pub solved-home : Writes (ended_with Refuted (Some (codes "> ")) (Some (codes "> " ++ refutation.text))) (IsFound home_last budgets ⊥ (rows_of home_last))
solved-home = record { answer = refutation; of_kind = found-home; ended = refl; written = refl }

pub solved-no_schedule : (may_stop : Type 0) (old new : Option (List ℕ))
    → Writes (ended_with Yes old new) (IsFound home_last budgets may_stop (rows_of home_last)) → ⊥
solved-no_schedule may_stop old new is = other_status (sym (is.of_kind.short refl) ∙ sym is.ended)
  where
    other_status : Refuted ≡ Yes → ⊥
    other_status same = cc

-- ---- patterns: in slot 0 team 1 is at home, and in slot 1 team 0, so that 6 and 7 are true

abbrev turns : List (List Side)
turns = (A ∷ H ∷ []) ∷ (H ∷ A ∷ []) ∷ []

abbrev values : ℕ → Bool
values = assigned (false ∷ false ∷ false ∷ false ∷ false ∷ true ∷ true ∷ false ∷ [])

at_home : (i s : ℕ) → i < 2 → s < 2 → values (h_var 2 i s) ≡ is_home (letter_at turns i s)
at_home zero zero team slot = refl
at_home zero (suc zero) team slot = refl
at_home (suc zero) zero team slot = refl
at_home (suc zero) (suc zero) team slot = refl
at_home zero (suc (suc s)) team slot = absurd (omega (arith, slot))
at_home (suc zero) (suc (suc s)) team slot = absurd (omega (arith, slot))
at_home (suc (suc i)) s team slot = absurd (omega (arith, team))

letters_fit : (a b : Side) → IsTrue (is_one_side a) → IsTrue (is_one_side b) → IsPattern (a ∷ b ∷ [])
letters_fit a b first second = record {
  at_most = omega arith;
  letters = All-from_recursion (λ side. IsTrue (is_one_side side)) (a ∷ b ∷ []) (first, (second, tt));
}

pub turns-set : IsPatternSet even_soon turns
turns-set = record {
  teams = refl;
  slots = All-from_recursion (λ (pattern : List Side). length pattern ≡ 2) turns (refl, (refl, tt));
  letters = All-from_recursion IsPattern turns (letters_fit A H refl refl, (letters_fit H A refl refl, tt));
  values = values;
  say = record {
    venues = at_home;
    home_breaks = λ breaks. absurd (false_true breaks);
    away_breaks = λ breaks. absurd (false_true breaks);
  };
  met = SatisfiesAll-from_true values (pattern_rows even_soon) refl;
}

abbrev lines : Answer
lines = record { status = Yes; text = codes "0 AH\n1 HA\n" }

lines-text : lines.text ≡ patterns_text turns
unfolding digits
lines-text = refl

pub patterns-turns : ArePatterns even_soon lines
patterns-turns = record { patterns = turns; set = turns-set; status = refl; text = lines-text }

-- there are none where both are to be at home: of the pattern rows 9 and 10 want it, and row 4 forbids it
no_patterns : verdict_of (pattern_rows home_last) 8 (Clause [] (9 ∷ 10 ∷ 4 ∷ []) ∷ []) ≡ Accepted
no_patterns = refl

pub patterns-none : (answer : Answer) → ArePatterns home_last answer → ⊥
patterns-none answer is =
    accepted_logs_refute (pattern_rows home_last) 8 (Clause [] (9 ∷ 10 ∷ 4 ∷ []) ∷ []) no_patterns is.set.values
    is.set.met

-- the rows of the log speak of no game, so that it refutes the patterns too
no_season-tidy : IsTidy 8 (Clause [] (29 ∷ 30 ∷ 24 ∷ []))
no_season-tidy = record {
  variables = λ i j d before inside. absurd (omega (arith, inside));
  from_one = All-nil (λ (l : Literal). 1 ≤ l.var);
  known = All-nil (λ (l : Literal). l.var ≤ 8);
  few = omega arith;
  named = All-from_recursion (λ (hint : ℕ). 1 ≤ hint) (29 ∷ 30 ∷ 24 ∷ [])
      (omega arith, (omega arith, (omega arith, tt)));
  small = All-from_recursion (λ (hint : ℕ). hint < 2 ^ 64) (29 ∷ 30 ∷ 24 ∷ [])
      (lit< tt, (lit< tt, (lit< tt, tt)));
}

pub refutes-patterns : RefutesPatterns home_last (Some 0) no_season
refutes-patterns = record {
  accepted = no_season-accepted;
  none = none;
  before = [];
  hints = 29 ∷ 30 ∷ 24 ∷ [];
  last = refl;
  news = ArePatternNews-none _ _ _ _;
  named =
      All-from_recursion
      (λ hint. IsSomeAnd (row_numbered (rows_of home_last) hint) (λ row. is_pattern_row 4 row ≡ true))
      (29 ∷ 30 ∷ 24 ∷ []) (refl, (refl, (refl, tt)));
  within = omega arith;
  tidy = All-from_recursion (IsTidy 8) no_season (no_season-tidy, tt);
}

pub patterns-refuted : patterned.IsRefuted home_last (Some 0) refutation
patterns-refuted = record {
  steps = no_season;
  refutes = refutes-patterns;
  status = refl;
  text = refutation-text;
  reads_back = refutation-read;
}

-- ---- where nothing is known neither the rows of a league nor its pattern rows force anything: a budget of 0 is spent

abbrev pub spent : Answer
spent = record { status = Spent; text = codes "refutation 1\nend\n" }

spent-read : log_of spent.text ≡ Ok []
unfolding lines_from
spent-read = refl

pub spent-patterns : IsPatternSpent even_soon (Some 0) []
spent-patterns = record {
  limited = refl;
  news = ArePatternNews-none _ _ _ _;
  quiet = (all_free, quiet_rows all_free (pattern_rows even_soon) refl);
  few = lit< tt;
  tidy = All-nil (IsTidy 8);
}

pub patterns-spent : patterned.IsBudgetSpent even_soon (Some 0) spent
patterns-spent =
    record { steps = []; spent = spent-patterns; status = refl; text = refl; reads_back = spent-read }

pub solve-spent : IsBudgetSpent even_soon (rows_of even_soon) budgets spent
solve-spent = record {
  steps = [];
  patterns = Patterns turns;
  log = plain_behind (rows_of even_soon) 8 [];
  none = λ none. refl;
  budget = refl;
  spent = record { count = refl; news = AreNews-none _ _; quiet = (all_free, quiet_rows all_free (rows_of even_soon) refl) };
  few = lit< tt;
  pattern_rows = turns-set;
  status = refl;
  text = refl;
  reads_back = spent-read;
}

-- without a budget nothing is, and a league that accepts the circle's season is answered by a season
none_some : (steps : List Step) → ◌≡◌ {A = Option ℕ} None (Some (length steps)) → ⊥
none_some steps is = cc

pub solve-never_spent : (answer : Answer)
    → IsBudgetSpent even_soon (rows_of even_soon) (record budgets { conflicts = None }) answer → ⊥
solve-never_spent answer is = none_some is.log.search is.budget

spent_yes : Spent ≡ Yes → ⊥
spent_yes is = cc

circle-accepted : IsAccepted even_soon (counts_of (double_games 2))
circle-accepted = record {
  round_robin = record { pairs = refl; cells = refl; phases = refl };
  hard = MeetsHard-from_sum even_soon (counts_of (double_games 2)) refl;
}

pub found-spent : (may_stop : Type 0) → IsFound even_soon budgets may_stop (rows_of even_soon) spent → ⊥
found-spent may_stop is = spent_yes (is.circle circle-accepted)

-- where the game of team 0 at home is to be in slot 0, the circle's season isn't accepted, and the budget may be spent:
-- where 1, 4, 5 and 8 are true, which is the other season, no row is in conflict, and none has a literal to force
abbrev wanted : Instance
wanted = record {
  n = 2;
  phased = false;
  constraints = record { hard = true; penalty = 2; class = Ga1 ((0, 1) ∷ []) 1 1 (0 ∷ []) } ∷ [];
}

abbrev season_values : ℕ → Value
season_values = valued (True ∷ False ∷ False ∷ True ∷ True ∷ False ∷ False ∷ True ∷ [])

spent-wanted : IsPatternSpent wanted (Some 0) []
spent-wanted = record {
  limited = refl;
  news = ArePatternNews-none _ _ _ _;
  quiet = (all_free, quiet_rows all_free (pattern_rows wanted) refl);
  few = lit< tt;
  tidy = All-nil (IsTidy 8);
}

pub solve-wanted : IsBudgetSpent wanted (rows_of wanted) budgets spent
solve-wanted = record {
  steps = [];
  patterns = pattern_answers.Spent [];
  log = plain_behind (rows_of wanted) 8 [];
  none = λ none. refl;
  budget = refl;
  spent = record { count = refl; news = AreNews-none _ _; quiet = (season_values, quiet_rows season_values (rows_of wanted) refl) };
  few = lit< tt;
  pattern_rows = spent-wanted;
  status = refl;
  text = refl;
  reads_back = spent-read;
}

one_above : (n : ℕ) → n ≡ 1 → n ≡ 0 → ⊥
one_above n one none = omega (arith, one, none)

circle-unwanted : IsAccepted wanted (counts_of (double_games 2)) → ⊥
circle-unwanted accepted = one_above 1 refl (sum-from_MeetsHard wanted (counts_of (double_games 2)) accepted.hard)

pub found-wanted : IsFound wanted budgets ⊥ (rows_of wanted) spent
found-wanted = record {
  found = inr (inr solve-wanted);
  circle = λ accepted. absurd (circle-unwanted accepted);
  short = λ short. absurd (false_true short);
  crowded = λ crowded. absurd (false_true crowded);
  few = λ few. absurd (false_true few);
}

pub solved-wanted : Writes (ended_with Spent (Some []) (Some (codes "refutation 1\nend\n"))) (IsFound wanted budgets ⊥ (rows_of wanted))
solved-wanted = record { answer = spent; of_kind = found-wanted; ended = refl; written = refl }

refuted_spent : Spent ≡ Refuted → ⊥
refuted_spent is = cc

pub found-short : (may_stop : Type 0) → IsFound home_last budgets may_stop (rows_of home_last) spent → ⊥
found-short may_stop is = refuted_spent (is.short refl)

-- both are to be at home in slot 0, which is more than one can be
abbrev crowd : Instance
crowd = record {
  n = 2;
  phased = false;
  constraints = record { hard = true; penalty = 1; class = Ca1 (0 ∷ 1 ∷ []) 1 2 H (0 ∷ []) } ∷ [];
}

pub found-crowded : (may_stop : Type 0) → IsFound crowd budgets may_stop (rows_of crowd) spent → ⊥
found-crowded may_stop is = refuted_spent (is.crowded refl)

-- four teams need two breaks in the season of a league without phases, and may have one
abbrev pub one_break : Instance
one_break = record {
  n = 4;
  phased = false;
  constraints = record {
    hard = true;
    penalty = 1;
    class = Br2 (0 ∷ 1 ∷ 2 ∷ 3 ∷ []) 1 (0 ∷ 1 ∷ 2 ∷ 3 ∷ 4 ∷ 5 ∷ []);
  } ∷ [];
}

pub found-few : (may_stop : Type 0) → IsFound one_break budgets may_stop (rows_of one_break) spent → ⊥
found-few may_stop is = refuted_spent (is.few refl)

-- nothing but a refutation is found of its patterns
pub patterns-few : (conflicts : Option ℕ) (answer : Answer) → AreFound one_break conflicts answer
    → answer.status ≡ Refuted
patterns-few conflicts answer (inl counted) = counted.1.status
patterns-few conflicts answer (inr searched) = absurd (false_true (sym searched.0))

-- what accepts a season has no refuted patterns
pub patterns-even : (conflicts : Option ℕ) (answer : Answer) → patterned.IsRefuted even_soon conflicts answer → ⊥
patterns-even conflicts answer is = is.refutes.none zero_first even-accepted

pub patterned-each : Writes (ended_with Yes (Some []) (Some (codes "0 AH\n1 HA\n"))) (AreFound even_soon None)
    × Writes (ended_with Refuted (Some []) (Some (codes "refutation 1\n0 29 30 24 0\nend\n"))) (AreFound home_last (Some 0))
    × Writes (ended_with Spent (Some (codes "> ")) (Some (codes "> refutation 1\nend\n"))) (AreFound even_soon (Some 0))
patterned-each = (
  record { answer = lines; of_kind = inr (refl, inl patterns-turns); ended = refl; written = refl },
  record { answer = refutation; of_kind = inr (refl, inr (inl patterns-refuted)); ended = refl; written = refl },
  record { answer = spent; of_kind = inr (refl, inr (inr patterns-spent)); ended = refl; written = refl },
)
