-- Two teams of which neither may have had more home games than the other behind slot 0: h(0,s) is 5 + s, h(1,s) 7 + s,
-- so that 5 and 7 would have to be equal, and one of them alone is true.
use Rattle.league_search.proofs.NewsLemmas.{ArePatternNews-one}
use Rattle.std.proofs.Common.{◌≡◌, ◌≢◌, ℕ, zero, suc, ◌+◌, ◌<◌, ◌≤◌, Bool, true, false, List, [], ◌∷◌, get_or, length}
use Rattle.std.proofs.Common.{◌-◌, ◌&&◌, ◌++◌, IsTrue, Some, drop, map, refl, ap, subst, arith, length-append, lit<}
use Rattle.std.proofs.Common.{lit≤, sym, ◌^◌}
use Rattle.std.specs.Prelude.{Contains, IsSomeAnd}
use Rattle.std.specs.List.{All}
use Rattle.std.proofs.lemmas.List.Elements.{All-from_recursion}
use Rattle.league.specs.Instance.{Instance, IsInstance, class_fits}
use Rattle.league.specs.declared.class.Class.TheVariants.{Fa2}
use Rattle.league.specs.declared.class.Constraint.{Constraint}
use Rattle.league.specs.declared.class.Side.{Side}
use Rattle.league.specs.declared.class.Side.TheVariants.{H, A}
use Rattle.rows.specs.Cardinality.{at_least}
use Rattle.rows.specs.Literals.{Literal, yes, no}
use Rattle.rows.specs.Partials.{IsQuiet, IsQuietRow, reach, value_of}
use Rattle.rows.specs.Rows.{Row}
use Rattle.rows.specs.Values.{assigned}
use Rattle.rows.specs.declared.lit.Term.{Term}
use Rattle.rows.specs.declared.partial.Value.TheVariants.{False, Free}
use Rattle.encoding.specs.Encoding.{rows_of}
use Rattle.encoding.specs.Variables.{ab_var, h_var, hb_var}
use Rattle.refutation.specs.Following.{all_free, row_numbered}
use Rattle.refutation.specs.Steps.{Step, hints_at}
use Rattle.refutation.specs.Steps.Step.{Clause}
use Rattle.refutation.specs.Verdict.{verdict_of}
use Rattle.refutation.specs.declared.verdict.Verdict.TheVariants.{Accepted}
use Rattle.clause_search.specs.News.{IsTidy, row_of}
use Rattle.decoding.proofs.SeasonLemmas.{accepted_logs_exclude}
use Rattle.league_search.specs.PatternLogs.{IsPatternNews, NamesPatternRows, RefutesPatterns}
use Rattle.league_search.specs.PatternRows.{is_pattern_row, pattern_rows}
use Rattle.league_search.specs.PatternSets.{SayPatterns, is_away, is_home, letter_at}

abbrev even : Constraint
even = record { hard = true; penalty = 1; class = Fa2 (0 ∷ 1 ∷ []) 0 (0 ∷ []) }

abbrev league : Instance
league = record { n = 2; phased = false; constraints = even ∷ [] }

-- rows 21 to 30: one of 5 and 7, one of 6 and 8, one of 5 and 6, one of 7 and 8; and behind slot 0 as many home games
pub rows-league : (drop 20 (rows_of league) ≡ pattern_rows league) × (pattern_rows league
    ≡ at_least 1 (yes 5 ∷ yes 7 ∷ []) ∷ at_least 1 (no 5 ∷ no 7 ∷ [])
    ∷ at_least 1 (yes 6 ∷ yes 8 ∷ []) ∷ at_least 1 (no 6 ∷ no 8 ∷ [])
    ∷ at_least 1 (yes 5 ∷ yes 6 ∷ []) ∷ at_least 1 (no 5 ∷ no 6 ∷ [])
    ∷ at_least 1 (yes 7 ∷ yes 8 ∷ []) ∷ at_least 1 (no 7 ∷ no 8 ∷ [])
    ∷ at_least 1 (no 5 ∷ yes 7 ∷ []) ∷ at_least 1 (yes 5 ∷ no 7 ∷ [])
    ∷ [])
rows-league = (refl, refl)

-- 5 follows: without it row 21 asks for 7, which row 30 forbids. The step stands as row 31, row 22 then forbids 7, and
-- row 29 asks for it.
abbrev at_home : Step
at_home = Clause (yes 5 ∷ []) (21 ∷ 30 ∷ [])

abbrev falsum : Step
falsum = Clause [] (31 ∷ 22 ∷ 29 ∷ [])

abbrev log : List Step
log = at_home ∷ falsum ∷ []

-- ---- the first step is news: where nothing is known no pattern row forces anything

quiet_two : (l m : Literal) → reach all_free (at_least 1 (l ∷ m ∷ [])).terms
    ≡ 2 → IsQuietRow all_free (at_least 1 (l ∷ m ∷ []))
quiet_two l m two = record { no_conflict = omega (arith, two); none_forced = λ k d within. slack k d within two } where
  slack : (k : ℕ) (d : Term) → k < 2 → reach all_free (at_least 1 (l ∷ m ∷ [])).terms ≡ 2
      → value_of all_free (get_or (at_least 1 (l ∷ m ∷ [])).terms k d).lit ≡ Free
      → 1 + (get_or (at_least 1 (l ∷ m ∷ [])).terms k d).coef ≤ reach all_free (at_least 1 (l ∷ m ∷ [])).terms
  slack zero d within two free = omega (arith, two)
  slack (suc zero) d within two free = omega (arith, two)
  slack (suc (suc k)) d within two free = absurd (omega arith)

both : (v w : ℕ) → IsQuietRow all_free (at_least 1 (yes v ∷ yes w ∷ []))
    × IsQuietRow all_free (at_least 1 (no v ∷ no w ∷ []))
both v w = (quiet_two (yes v) (yes w) refl, quiet_two (no v) (no w) refl)

quiet : IsQuiet all_free (pattern_rows league)
quiet = All-from_recursion (IsQuietRow all_free) (pattern_rows league) (
  (both 5 7).0,
  (
    (both 5 7).1,
    (
      (both 6 8).0,
      (
        (both 6 8).1,
        (
          (both 5 6).0,
          (
            (both 5 6).1,
            (
              (both 7 8).0,
              ((both 7 8).1, (quiet_two (no 5) (yes 7) refl, (quiet_two (yes 5) (no 7) refl, tt))),
            ),
          ),
        ),
      ),
    ),
  ),
)

alone : (other : Literal) → Contains (yes 5 ∷ []) other → other ≢ yes 5 → value_of all_free other ≡ False
alone other (zero, within, is) differs = absurd (differs (sym is))
alone other (suc k, within, is) differs = absurd (omega (arith, within))

-- a hint is that of a row which speaks of no game
abbrev IsNamed : List Row → ℕ → Type 0
IsNamed rows hint = IsSomeAnd (row_numbered rows hint) (λ row. is_pattern_row 4 row ≡ true)

pub news-at_home : IsPatternNews 4 8 (rows_of league) (pattern_rows league) at_home
news-at_home = record {
  follows = refl;
  named = All-from_recursion (IsNamed (rows_of league)) (21 ∷ 30 ∷ []) (refl, (refl, tt));
  empowering = (all_free, yes 5, quiet, (0, lit< tt, refl), refl, alone);
}

false_true : false ≡ true → ⊥
false_true is = cc

-- one hint more, of row 4, which speaks of games: 3 and 4 are not both true
pub no_news : IsPatternNews 4 8 (rows_of league) (pattern_rows league) (Clause (yes 5 ∷ []) (21 ∷ 30 ∷ 4 ∷ [])) → ⊥
no_news news = false_true (news.named 2 0 (lit< tt))

-- ---- the log refutes the patterns

tidy_hints : (hints : List ℕ) → length hints ≤ 9 → ((k d : ℕ) → k < length hints → 1 ≤ get_or hints k d)
    → ((k d : ℕ) → k < length hints → get_or hints k d < 2 ^ 64) → IsTidy 8 (Clause [] hints)
tidy_hints hints few named small = record {
  variables = λ i j d before within. absurd (omega (arith, within));
  from_one = λ k d within. absurd (omega (arith, within));
  known = λ k d within. absurd (omega (arith, within));
  few = few;
  named = named;
  small = small;
}

tidy-at_home : IsTidy 8 at_home
tidy-at_home = record {
  variables = λ i j d before within. absurd (omega (arith, before, within));
  from_one = All-from_recursion (λ (l : Literal). 1 ≤ l.var) (yes 5 ∷ []) (omega arith, tt);
  known = All-from_recursion (λ (l : Literal). l.var ≤ 8) (yes 5 ∷ []) (omega arith, tt);
  few = omega arith;
  named = All-from_recursion (λ (hint : ℕ). 1 ≤ hint) (21 ∷ 30 ∷ []) (omega arith, (omega arith, tt));
  small = All-from_recursion (λ (hint : ℕ). hint < 2 ^ 64) (21 ∷ 30 ∷ []) (lit< tt, (lit< tt, tt));
}

even_fits : All (λ (c : Constraint). IsTrue (class_fits 2 c.class)) league.constraints
even_fits zero d h = refl
even_fits (suc k) d h = absurd (omega arith)

league_instance : IsInstance league
league_instance = record {
  teams = record { even = refl; at_least = omega arith; at_most = omega arith };
  few = omega arith;
  fit = even_fits;
}

pub refutes-league : RefutesPatterns league (Some 1) log
refutes-league = record {
  accepted = refl;
  none = accepted_logs_exclude league log league_instance refl;
  before = at_home ∷ [];
  hints = 31 ∷ 22 ∷ 29 ∷ [];
  last = refl;
  news = ArePatternNews-one _ _ _ _ at_home news-at_home;
  named = All-from_recursion (IsNamed (rows_of league ++ at_least 1 (yes 5 ∷ []) ∷ [])) (31 ∷ 22 ∷ 29 ∷ [])
      (refl, (refl, (refl, tt)));
  within = lit≤ tt;
  tidy = All-from_recursion (IsTidy 8) log (
    tidy-at_home,
    (
      tidy_hints (31 ∷ 22 ∷ 29 ∷ []) (lit≤ tt)
          (All-from_recursion (λ (hint : ℕ). 1 ≤ hint) (31 ∷ 22 ∷ 29 ∷ [])
          (omega arith, (omega arith, (omega arith, tt))))
          (All-from_recursion (λ (hint : ℕ). hint < 2 ^ 64) (31 ∷ 22 ∷ 29 ∷ [])
          (lit< tt, (lit< tt, (lit< tt, tt)))),
      tt,
    ),
  );
}

-- the last step may name no row of games, behind the conflict neither
last_hints : (before : List Step) (hints : List ℕ)
    → at_home ∷ Clause [] (31 ∷ 22 ∷ 29 ∷ 4 ∷ []) ∷ [] ≡ before ++ Clause [] hints ∷ []
    → 31 ∷ 22 ∷ 29 ∷ 4 ∷ [] ≡ hints
last_hints [] hints is = absurd (omega (arith, ap length is))
last_hints (a ∷ []) hints is = ap (λ (steps : List Step). hints_at steps 1) is
last_hints (a ∷ b ∷ before) hints is =
    absurd (omega (arith, ap length is, length-append before (Clause [] hints ∷ [])))

named_none : (before : List Step) (hints : List ℕ)
    → at_home ∷ Clause [] (31 ∷ 22 ∷ 29 ∷ 4 ∷ []) ∷ [] ≡ before ++ Clause [] hints ∷ []
    → NamesPatternRows 4 (rows_of league ++ map row_of before) (Clause [] hints) → ⊥
named_none [] hints is named = omega (arith, ap length is)
named_none (a ∷ []) hints is named =
    false_true
    (subst (λ (hints : List ℕ). NamesPatternRows 4 (rows_of league ++ row_of a ∷ []) (Clause [] hints))
    (sym (last_hints (a ∷ []) hints is)) named 3 0 (lit< tt))
named_none (a ∷ b ∷ before) hints is named =
    omega (arith, ap length is, length-append before (Clause [] hints ∷ []))

pub refutes-named : (verdict_of (rows_of league) 8 (at_home ∷ Clause [] (31 ∷ 22 ∷ 29 ∷ 4 ∷ []) ∷ []) ≡ Accepted)
    × (RefutesPatterns league (Some 1) (at_home ∷ Clause [] (31 ∷ 22 ∷ 29 ∷ 4 ∷ []) ∷ []) → ⊥)
refutes-named = (refl, λ refutes. named_none refutes.before refutes.hints refutes.last refutes.named)

-- one step too many where none may come before the last
pub refutes-none_before : RefutesPatterns league (Some 0) log → ⊥
refutes-none_before refutes =
    omega (arith, ap length refutes.last, length-append refutes.before (Clause [] refutes.hints ∷ []), refutes.within)

-- ---- values that say patterns, with breaks: a home break of team 0 at slot 1 is 9, an away break of team 1 there 12

abbrev stays : List (List Side)
stays = (H ∷ H ∷ []) ∷ (A ∷ A ∷ []) ∷ []

abbrev values : ℕ → Bool
values = assigned
    (false ∷ false ∷ false ∷ false ∷ true ∷ true ∷ false ∷ false ∷ true ∷ false ∷ false ∷ true ∷ [])

venues : (i s : ℕ) → i < 2 → s < 2 → values (h_var 2 i s) ≡ is_home (letter_at stays i s)
venues zero zero team slot = refl
venues zero (suc zero) team slot = refl
venues (suc zero) zero team slot = refl
venues (suc zero) (suc zero) team slot = refl
venues zero (suc (suc s)) team slot = absurd (omega (arith, slot))
venues (suc zero) (suc (suc s)) team slot = absurd (omega (arith, slot))
venues (suc (suc i)) s team slot = absurd (omega (arith, team))

home_breaks : (i s : ℕ) → i < 2 → 0 < s → s < 2
    → values (hb_var 2 i s) ≡ (is_home (letter_at stays i (s - 1)) && is_home (letter_at stays i s))
home_breaks i zero team some slot = absurd (omega (arith, some))
home_breaks zero (suc zero) team some slot = refl
home_breaks (suc zero) (suc zero) team some slot = refl
home_breaks (suc (suc i)) (suc zero) team some slot = absurd (omega (arith, team))
home_breaks i (suc (suc s)) team some slot = absurd (omega (arith, slot))

away_breaks : (i s : ℕ) → i < 2 → 0 < s → s < 2
    → values (ab_var 2 i s) ≡ (is_away (letter_at stays i (s - 1)) && is_away (letter_at stays i s))
away_breaks i zero team some slot = absurd (omega (arith, some))
away_breaks zero (suc zero) team some slot = refl
away_breaks (suc zero) (suc zero) team some slot = refl
away_breaks (suc (suc i)) (suc zero) team some slot = absurd (omega (arith, team))
away_breaks i (suc (suc s)) team some slot = absurd (omega (arith, slot))

pub say-breaks : SayPatterns 2 true stays values
say-breaks = record { venues = venues; home_breaks = λ breaks. home_breaks; away_breaks = λ breaks. away_breaks }

-- the same values say nothing else of team 0, and without the breaks' variables they don't say these patterns
pub say-others : (SayPatterns 2 true ((A ∷ H ∷ []) ∷ (A ∷ A ∷ []) ∷ []) values → ⊥)
    × (SayPatterns 2 true stays (assigned (false ∷ false ∷ false ∷ false ∷ true ∷ true ∷ false ∷ false ∷ [])) → ⊥)
say-others = (
  λ say. false_true (sym (say.venues 0 0 (lit< tt) (lit< tt))),
  λ say. false_true (say.home_breaks refl 0 1 (lit< tt) (lit< tt) (lit< tt)),
)
