-- Bounds below a score, steps that tell of patterns, patterns that are an answer, and hard constraints by themselves.
use Rattle.std.proofs.Common.{◌≡◌, ◌≢◌, ℕ, zero, suc, ◌+◌, ◌-◌, ◌^◌, ◌<◌, ◌≤◌, Bool, true, false, not}
use Rattle.std.proofs.Common.{◌&&◌, ◌||◌, ◌==◌, if◌then◌else◌, List, [], ◌∷◌, ◌++◌, get_or, length, map, take}
use Rattle.std.proofs.Common.{Option, Some, None, Result, Ok, Err, IsTrue, ap, subst, sym, refl, inl, inr, arith, ◌∙◌}
use Rattle.std.proofs.Common.{lit<, lit≤}
use Rattle.std.specs.Prelude.{Contains, IsSomeAnd, nat_lt}
use Rattle.std.specs.List.{All}
use Rattle.std.proofs.lemmas.Bool.Decides.{nat_tests}
use Rattle.std.proofs.lemmas.List.Elements.{All-from_recursion}
use Rattle.league.specs.Accepted.{IsAccepted, MeetsHard, infeasibility, objective}
use Rattle.league.specs.Counts.{counts_of}
use Rattle.league.specs.Deviation.{vector_of}
use Rattle.league.specs.Instance.{Instance, is_one_side}
use Rattle.league.specs.declared.class.Class.TheVariants.{Ca1, Ga1}
use Rattle.league.specs.declared.class.Constraint.{Constraint}
use Rattle.league.specs.declared.class.Side.{Side}
use Rattle.league.specs.declared.class.Side.TheVariants.{H, A}
use Rattle.league.specs.declared.game.Game.{Game}
use Rattle.league.proofs.AcceptedLemmas.{MeetsHard-from_sum}
use Rattle.rows.specs.Cardinality.{at_least}
use Rattle.rows.specs.Literals.{Literal, yes, no}
use Rattle.rows.specs.Partials.{IsEmpowering, IsQuietRow, is_false, reach, value_of}
use Rattle.rows.specs.Rows.{Row}
use Rattle.rows.specs.Values.{assigned, valued}
use Rattle.rows.specs.declared.lit.Term.{Term}
use Rattle.rows.specs.declared.partial.Value.{Value}
use Rattle.rows.specs.declared.partial.Value.TheVariants.{True, False, Free}
use Rattle.rows.proofs.TestLemmas.{SatisfiesAll-from_true}
use Rattle.encoding.specs.Encoding.{rows_of}
use Rattle.encoding.specs.Variables.{h_var}
use Rattle.patterns.specs.Pattern.{IsPattern}
use Rattle.refutation.specs.Following.{all_free, clause_row, judged, row_numbered}
use Rattle.refutation.specs.Steps.{Step}
use Rattle.refutation.specs.Steps.Step.{Clause}
use Rattle.clause_search.specs.Kept.{MayKeep, step_at, steps_at}
use Rattle.clause_search.specs.News.{row_of}
use Rattle.moves.specs.Moves.{game}
use Rattle.descent.specs.declared.weigh.Sums.{Sums}
use Rattle.descent.specs.Score.{AreBoundsBelow}
use Rattle.descent.specs.declared.score.Score.{Score}
use Rattle.league_search.specs.PatternAnswers.{IsPatternAnswer}
use Rattle.league_search.specs.PatternLogs.{ArePatternNews, IsPatternNews, TellOfPatterns}
use Rattle.league_search.specs.PatternRows.{is_pattern_row, pattern_rows}
use Rattle.league_search.specs.PatternSets.{IsPatternSet, is_home, letter_at}
use Rattle.league_search.specs.declared.found.PatternFound.TheVariants.{Patterns, Refuted, Spent}
use Rattle.league_search.proofs.NewsLemmas.{ArePatternNews-none}
use Rattle.example_runs.proofs.PatternSearchExamples.{spent-two}
use Rattle.example_runs.proofs.StateExamples.{false_true, quiet_two, rows}

-- ---- bounds of what is lower than a score

abbrev score : ℕ → ℕ → Score
score a b = record { infeasibility = a; objective = b }

abbrev sums : ℕ → ℕ → Sums
sums a b = record { infeasibility = a; objective = b }

-- lower than 0 and 5 is 0 and 4 at most
below_five : (a b : ℕ) → (nat_lt a 0 || ((a == 0) && nat_lt b 5)) ≡ true → (a ≤ 0) × (b ≤ 4)
below_five a b lower = (grind (arith, nat_tests), grind (arith, nat_tests))

pub bounds-five : AreBoundsBelow (sums 0 4) (score 0 5)
bounds-five after lower =
    let below = below_five after.infeasibility after.objective lower in
    (λ some. below.0, λ some. below.1)

-- 3 isn't a bound: 0 and 4 is lower
pub bounds-three : AreBoundsBelow (sums 0 3) (score 0 5) → ⊥
bounds-three bounds =
    let four : 4 ≤ 3 = (bounds (score 0 4) refl).1 (lit< tt) in
    omega (arith, four)

-- lower than 1 and 0 is 0 with whatever objective, so that no number is its bound but the greatest, which is none
below_one : (a b : ℕ) → (nat_lt a 1 || ((a == 1) && nat_lt b 0)) ≡ true → a ≤ 0
below_one a b lower = grind (arith, nat_tests)

pub bounds-one : AreBoundsBelow (sums 0 (2 ^ 128 - 1)) (score 1 0) × (AreBoundsBelow (sums 0 4) (score 1 0) → ⊥)
bounds-one = (
  λ after lower. (
    λ some. below_one after.infeasibility after.objective lower,
    λ some. absurd (omega (arith, some)),
  ),
  λ bounds. let five : 5 ≤ 4 = (bounds (score 0 5) refl).1 (lit< tt) in omega (arith, five),
)

-- ---- steps over four rows, none of which speaks of games: 1 follows from the first two, and with it 2 from the others

abbrev four : List Row
four = at_least 1 (yes 1 ∷ yes 2 ∷ []) ∷ at_least 1 (yes 1 ∷ no 2 ∷ [])
    ∷ at_least 1 (no 1 ∷ yes 2 ∷ yes 3 ∷ []) ∷ at_least 1 (no 1 ∷ yes 2 ∷ no 3 ∷ []) ∷ []

abbrev one : Step
one = Clause (yes 1 ∷ []) (1 ∷ 2 ∷ [])

-- without 2 the step before it, which is row 5, asks for 1, row 3 then for 3, which row 4 forbids
abbrev then_two : Step
then_two = Clause (yes 2 ∷ []) (5 ∷ 3 ∷ 4 ∷ [])

-- a clause of three is quiet where 2 or more are within reach
quiet_three : (values : ℕ → Value) (l m n : Literal) → 2 ≤ reach values (at_least 1 (l ∷ m ∷ n ∷ [])).terms
    → IsQuietRow values (at_least 1 (l ∷ m ∷ n ∷ []))
quiet_three values l m n two = record {
  no_conflict = omega (arith, two);
  none_forced = λ k d within. slack k d within two;
} where
  slack : (k : ℕ) (d : Term) → k < 3 → 2 ≤ reach values (at_least 1 (l ∷ m ∷ n ∷ [])).terms
      → value_of values (get_or (at_least 1 (l ∷ m ∷ n ∷ [])).terms k d).lit ≡ Free
      → 1 + (get_or (at_least 1 (l ∷ m ∷ n ∷ [])).terms k d).coef ≤ reach values (at_least 1 (l ∷ m ∷ n ∷ [])).terms
  slack zero d within two free = omega (arith, two)
  slack (suc zero) d within two free = omega (arith, two)
  slack (suc (suc zero)) d within two free = omega (arith, two)
  slack (suc (suc (suc k))) d within two free = absurd (omega (arith, within))

alone : (values : ℕ → Value) (l other : Literal) → Contains (l ∷ []) other → other ≢ l → value_of values other ≡ False
alone values l other (zero, within, is) differs = absurd (differs (sym is))
alone values l other (suc k, within, is) differs = absurd (omega (arith, within))

abbrev IsNamed : List Row → ℕ → Type 0
IsNamed rows hint = IsSomeAnd (row_numbered rows hint) (λ row. is_pattern_row 0 row ≡ true)

news-one : IsPatternNews 0 3 four four one
news-one = record {
  follows = refl;
  named = All-from_recursion (IsNamed four) (1 ∷ 2 ∷ []) (refl, (refl, tt));
  empowering = (
    all_free,
    yes 1,
    All-from_recursion (IsQuietRow all_free) four (
      quiet_two all_free (yes 1) (yes 2) refl,
      (
        quiet_two all_free (yes 1) (no 2) refl,
        (
          quiet_three all_free (no 1) (yes 2) (yes 3) (lit≤ tt),
          (quiet_three all_free (no 1) (yes 2) (no 3) (lit≤ tt), tt),
        ),
      ),
    ),
    (0, lit< tt, refl),
    refl,
    alone all_free (yes 1),
  );
}

-- where 1 is true, which is all that its clause asks for, the other rows have 2 within reach
abbrev five : List Row
five = four ++ clause_row (yes 1 ∷ []) ∷ []

abbrev one_true : ℕ → Value
one_true = valued (True ∷ [])

true_free : True ≡ Free → ⊥
true_free is = cc

quiet_one : IsQuietRow one_true (clause_row (yes 1 ∷ []))
quiet_one = record { no_conflict = lit≤ tt; none_forced = λ k d within free. slack k d within free } where
  slack : (k : ℕ) (d : Term) → k < 1 → value_of one_true (get_or (clause_row (yes 1 ∷ [])).terms k d).lit ≡ Free
      → 1 + (get_or (clause_row (yes 1 ∷ [])).terms k d).coef ≤ reach one_true (clause_row (yes 1 ∷ [])).terms
  slack zero d within free = absurd (true_free free)
  slack (suc k) d within free = absurd (omega (arith, within))

news-then_two : IsPatternNews 0 3 five five then_two
news-then_two = record {
  follows = refl;
  named = All-from_recursion (IsNamed five) (5 ∷ 3 ∷ 4 ∷ []) (refl, (refl, (refl, tt)));
  empowering = (
    one_true,
    yes 2,
    All-from_recursion (IsQuietRow one_true) five (
      quiet_two one_true (yes 1) (yes 2) refl,
      (
        quiet_two one_true (yes 1) (no 2) refl,
        (
          quiet_three one_true (no 1) (yes 2) (yes 3) (lit≤ tt),
          (quiet_three one_true (no 1) (yes 2) (no 3) (lit≤ tt), (quiet_one, tt)),
        ),
      ),
    ),
    (0, lit< tt, refl),
    refl,
    alone one_true (yes 2),
  );
}

-- all steps before are kept
abbrev keeps_both : ℕ → List ℕ
keeps_both k = if nat_lt k 1 then [] else (if nat_lt k 2 then 0 ∷ [] else 0 ∷ 1 ∷ [])

both_kept : (k : ℕ) → k < 2 → MayKeep 3 (keeps_both k ++ k ∷ []) (keeps_both (suc k))
both_kept zero within = inl refl
both_kept (suc zero) within = inl refl
both_kept (suc (suc k)) within = absurd (omega (arith, within))

both_news : (k : ℕ) → k < 2
    → IsPatternNews 0 3 (four ++ map row_of (take k (one ∷ then_two ∷ [])))
    (four ++ map row_of (steps_at (one ∷ then_two ∷ []) (keeps_both k))) (step_at (one ∷ then_two ∷ []) k)
both_news zero within = news-one
both_news (suc zero) within = news-then_two
both_news (suc (suc k)) within = absurd (omega (arith, within))

pub are_news : ArePatternNews 0 3 four four (one ∷ then_two ∷ [])
are_news = record { keeps = keeps_both; start = refl; next = both_kept; news = both_news }

-- where a row asks for one literal, a step that says it isn't news: propagation finds it
at_most_one : (v : Value) → (if is_false v then 0 else 1) ≤ 1
at_most_one True = lit≤ tt
at_most_one False = lit≤ tt
at_most_one Free = lit≤ tt

in_unit : (values : ℕ → Value) (l : Literal) → IsQuietRow values (clause_row (l ∷ [])) → value_of values l ≡ Free → ⊥
in_unit values l quiet free = omega (
  arith,
  quiet.none_forced 0 (record { coef = 1; lit = l }) (lit< tt) free,
  at_most_one (value_of values l),
)

only : (l m : Literal) → Contains (l ∷ []) m → l ≡ m
only l m (zero, within, is) = is
only l m (suc k, within, is) = absurd (omega (arith, within))

not_empowering : (patterns : List Row) (l : Literal) (k : ℕ) → k < length patterns
    → get_or patterns k (clause_row []) ≡ clause_row (l ∷ []) → IsEmpowering patterns (l ∷ []) → ⊥
not_empowering patterns l k within there (values, m, quiet, contains, free, others) =
    in_unit values l (subst (IsQuietRow values) there (quiet k (clause_row []) within))
    (subst (λ (m : Literal). value_of values m ≡ Free) (sym (only l m contains)) free)

-- the first step again isn't news; nor is the second before the first, by whose row it follows
first_kept : (news : ArePatternNews 0 3 four four (one ∷ one ∷ [])) → news.keeps 1 ≡ 0 ∷ []
first_kept news = elim (news.next 0 (lit< tt)) [
  | inl same ↦ same ∙ ap (λ (ks : List ℕ). ks ++ 0 ∷ []) news.start
  | inr some ↦ absurd (omega (arith, some.0))
]

pub are_news-again : ArePatternNews 0 3 four four (one ∷ one ∷ []) → ⊥
are_news-again news =
    not_empowering five (yes 1) 4 (lit< tt) refl
    (subst (λ (ks : List ℕ). IsEmpowering (four ++ map row_of (steps_at (one ∷ one ∷ []) ks)) (yes 1 ∷ []))
    (first_kept news) (news.news 1 (lit< tt)).empowering)

err_ok : {A B : Type 0} {x : A} {e : B} → ◌≡◌ {A = Result A B} (Err e) (Ok x) → ⊥
err_ok is = cc

pub are_news-crossed : ArePatternNews 0 3 four four (then_two ∷ one ∷ []) → ⊥
are_news-crossed news = err_ok (news.news 0 (lit< tt)).follows

abbrev two : Instance
two = record { n = 2; phased = false; constraints = [] }

-- a league whose team 0 may not be at home in slot 0: row 29 asks for not 5
abbrev away_first : Instance
away_first = record {
  n = 2;
  phased = false;
  constraints = record { hard = true; penalty = 1; class = Ca1 (0 ∷ []) 0 0 H (0 ∷ []) } ∷ [];
}

abbrev not_five : Step
not_five = Clause (no 5 ∷ []) (29 ∷ [])

pub tell-none : TellOfPatterns two [] × TellOfPatterns away_first []
tell-none = (ArePatternNews-none _ _ _ _, ArePatternNews-none _ _ _ _)

-- a step that says not 5 follows, and isn't news
pub tell-found : (judged (rows_of away_first) 8 not_five ≡ Ok (clause_row (no 5 ∷ [])))
    × (TellOfPatterns away_first (not_five ∷ []) → ⊥)
tell-found = (
  refl,
  λ tell. not_empowering (pattern_rows away_first) (no 5) 8 (lit< tt) refl
      (subst (λ (ks : List ℕ). IsEmpowering (pattern_rows away_first ++ map row_of (steps_at (not_five ∷ []) ks))
      (no 5 ∷ [])) tell.start (tell.news 0 (lit< tt)).empowering),
)

-- ---- answers of patterns: AH and HA for two teams, so that 6 and 7 are true

abbrev turns : List (List Side)
turns = (A ∷ H ∷ []) ∷ (H ∷ A ∷ []) ∷ []

abbrev turn_values : ℕ → Bool
turn_values = assigned (false ∷ false ∷ false ∷ false ∷ false ∷ true ∷ true ∷ false ∷ [])

at_home : (i s : ℕ) → i < 2 → s < 2 → turn_values (h_var 2 i s) ≡ is_home (letter_at turns i s)
at_home zero zero team slot = refl
at_home zero (suc zero) team slot = refl
at_home (suc zero) zero team slot = refl
at_home (suc zero) (suc zero) team slot = refl
at_home zero (suc (suc s)) team slot = absurd (omega (arith, slot))
at_home (suc zero) (suc (suc s)) team slot = absurd (omega (arith, slot))
at_home (suc (suc i)) s team slot = absurd (omega (arith, team))

letters_fit : (a b : Side) → IsTrue (is_one_side a) → IsTrue (is_one_side b) → IsPattern (a ∷ b ∷ [])
letters_fit a b first second = record {
  at_most = omega arith;
  letters = All-from_recursion (λ side. IsTrue (is_one_side side)) (a ∷ b ∷ []) (first, (second, tt));
}

set_turns : IsPatternSet two turns
set_turns = record {
  teams = refl;
  slots = All-from_recursion (λ (pattern : List Side). length pattern ≡ 2) turns (refl, (refl, tt));
  letters = All-from_recursion IsPattern turns (letters_fit A H refl refl, (letters_fit H A refl refl, tt));
  values = turn_values;
  say = record {
    venues = at_home;
    home_breaks = λ breaks. absurd (false_true breaks);
    away_breaks = λ breaks. absurd (false_true breaks);
  };
  met = SatisfiesAll-from_true turn_values (pattern_rows two) refl;
}

-- a log without steps is spent at 0
pub answers : IsPatternAnswer two (Some 0) (Patterns turns) × IsPatternAnswer two None (Patterns turns)
    × IsPatternAnswer two (Some 0) (Spent [])
answers = (set_turns, set_turns, spent-two)

-- both at home in slot 0: one of 5 and 7 is false
both_home : (a b : Bool) → a ≡ true → b ≡ true → 1 ≤ 0 + (if not a then 1 else 0) + (if not b then 1 else 0) → ⊥
both_home true true first second met = omega (arith, met)
both_home true false first second met = false_true second
both_home false b first second met = false_true first

pub answer-same : (limit : Option ℕ) → IsPatternAnswer two limit (Patterns ((H ∷ A ∷ []) ∷ (H ∷ A ∷ []) ∷ [])) → ⊥
answer-same limit is =
    both_home (is.values 5) (is.values 7) (is.say.venues 0 0 (lit< tt) (lit< tt))
    (is.say.venues 1 0 (lit< tt) (lit< tt)) (is.met 1 (clause_row []) (lit< tt))

-- a pattern too few
pub answer-few : (limit : Option ℕ) → IsPatternAnswer two limit (Patterns ((H ∷ A ∷ []) ∷ [])) → ⊥
answer-few limit is = let length : ◌≡◌ {A = ℕ} 1 2 = is.teams in omega (arith, length)

-- without a limit nothing is spent; and no log refutes, since the league accepts a season
none_some : ◌≡◌ {A = Option ℕ} None (Some 0) → ⊥
none_some is = cc

pub answer-unlimited : IsPatternAnswer two None (Spent []) → ⊥
answer-unlimited is = none_some is.limited

abbrev season : List Game
season = game 1 0 0 ∷ game 0 1 1 ∷ []

season_accepted : IsAccepted two (counts_of season)
season_accepted = record {
  round_robin = record { pairs = refl; cells = refl; phases = refl };
  hard = MeetsHard-from_sum two (counts_of season) refl;
}

pub answer-refuted : (limit : Option ℕ) (log : List Step) → IsPatternAnswer two limit (Refuted log) → ⊥
answer-refuted limit log is = is.none season season_accepted

-- ---- hard constraints by themselves: the game of 0 at home to 1 is to be in slot 0, and costs nothing where it isn't;
-- that of 1 at home to 0 in slot 1 is only paid for

abbrev wants : Bool → ℕ → ℕ × ℕ → ℕ → Constraint
wants hard penalty p slot = record { hard = hard; penalty = penalty; class = Ga1 (p ∷ []) 1 1 (slot ∷ []) }

abbrev league : Instance
league = record { n = 2; phased = true; constraints = wants false 5 (1, 0) 1 ∷ wants true 0 (0, 1) 0 ∷ [] }

-- the game of slot 0 alone is no season, and costs 5
pub meets : MeetsHard league (counts_of (game 0 1 0 ∷ [])) × (objective league (counts_of (game 0 1 0 ∷ [])) ≡ 5)
    × (IsAccepted league (counts_of (game 0 1 0 ∷ [])) → ⊥)
meets = (
  All-from_recursion
      (λ (c : Constraint). All (λ (entry : ℕ). entry ≡ 0) (vector_of 2 (counts_of (game 0 1 0 ∷ [])) c.class))
      (wants true 0 (0, 1) 0 ∷ []) (All-from_recursion (λ (entry : ℕ). entry ≡ 0) (0 ∷ []) (refl, tt), tt),
  refl,
  λ accepted. let wrong : ◌≡◌ {A = ℕ} 1 0 = accepted.round_robin.pairs in omega (arith, wrong),
)

-- a season without that game doesn't meet the hard constraints, though its infeasibility is 0
pub not_met : (infeasibility league (counts_of season) ≡ 0) × (MeetsHard league (counts_of season) → ⊥)
not_met = (
  refl,
  λ met. let entry : ◌≡◌ {A = ℕ} 1 0 = met 0 (wants true 0 (0, 1) 0) (lit< tt) 0 0 (lit< tt) in omega (arith, entry),
)
