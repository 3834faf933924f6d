-- Two clauses of two variables, 1 or 2, and 1 or not 2: what a log of one step makes of them; and the trail of four
-- rows of which each forces something.
use Rattle.clause_search.specs.Kept.{steps_at}
use Rattle.clause_search.proofs.SearchLemmas.{AreNews-one, keeps-few}
use Rattle.clause_search.proofs.TurnLemmas.{All-front}
use Rattle.std.proofs.Common.{◌≡◌, ◌≢◌, ℕ, zero, suc, ◌+◌, ◌<◌, ◌≤◌, List, [], ◌∷◌, get_or, map, Some}
use Rattle.std.proofs.Common.{◌++◌, None, Ok, Err, true, false, length, length-append, refl, ap, arith, lit<, lit≤}
use Rattle.std.proofs.Common.{subst, sym, ◌^◌, ◌∙◌}
use Rattle.std.specs.Prelude.{Contains}
use Rattle.std.proofs.lemmas.List.Elements.{All-from_recursion}
use Rattle.rows.specs.Cardinality.{at_least}
use Rattle.rows.specs.Literals.{Literal, yes, no}
use Rattle.rows.specs.Rows.{Row, Satisfies}
use Rattle.rows.specs.Partials.{IsEmpowering, IsQuiet, IsQuietRow, reach, value_of}
use Rattle.rows.specs.Values.{assigned, valued}
use Rattle.rows.specs.declared.lit.Term.{Term}
use Rattle.rows.specs.declared.partial.Value.{Value}
use Rattle.rows.specs.declared.partial.Value.TheVariants.{True, False, Free}
use Rattle.refutation.specs.Steps.{Step, clause_of}
use Rattle.refutation.specs.Steps.Step.{Clause}
use Rattle.refutation.specs.Following.{all_free, clause_row}
use Rattle.refutation.specs.declared.verdict.Cause.{Cause}
use Rattle.refutation.specs.declared.verdict.Cause.TheVariants.{NoConflict}
use Rattle.refutation.specs.declared.verdict.Verdict.TheVariants.{Accepted, Rejected}
use Rattle.propagate.specs.Trails.{IsForcedBy, IsLawful, NamesConflict, level_of, values_of}
use Rattle.propagate.specs.declared.entry.Entry.{Entry}
use Rattle.clause_search.specs.Answers.{IsAnswer, IsSpentAt, Refutes}
use Rattle.clause_search.specs.News.{AreNews, IsNews, IsSpent, IsTidy, row_of}
use Rattle.clause_search.specs.declared.found.Found.TheVariants.{Sat}

-- ---- a clause of two literals is quiet where 2 are within reach, one of one literal where it is true

quiet_two : (values : ℕ → Value) (l m : Literal) → reach values (at_least 1 (l ∷ m ∷ [])).terms ≡ 2
    → IsQuietRow values (at_least 1 (l ∷ m ∷ []))
quiet_two values l m two = record { no_conflict = omega (arith, two); none_forced = λ k d within. slack k d within two } where
  slack : (k : ℕ) (d : Term) → k < 2 → reach values (at_least 1 (l ∷ m ∷ [])).terms ≡ 2
      → value_of values (get_or (at_least 1 (l ∷ m ∷ [])).terms k d).lit ≡ Free
      → 1 + (get_or (at_least 1 (l ∷ m ∷ [])).terms k d).coef ≤ reach values (at_least 1 (l ∷ m ∷ [])).terms
  slack zero d within two free = omega (arith, two)
  slack (suc zero) d within two free = omega (arith, two)
  slack (suc (suc k)) d within two free = absurd (omega arith)

abbrev two : List Row
two = at_least 1 (yes 1 ∷ yes 2 ∷ []) ∷ at_least 1 (yes 1 ∷ no 2 ∷ []) ∷ []

-- 1 follows from both, which force nothing by themselves
abbrev one : Step
one = Clause (yes 1 ∷ []) (1 ∷ 2 ∷ [])

two_quiet : IsQuiet all_free two
two_quiet = All-from_recursion (IsQuietRow all_free) two (
  quiet_two all_free (yes 1) (yes 2) refl,
  (quiet_two all_free (yes 1) (no 2) refl, tt),
)

alone : (other : Literal) → Contains (yes 1 ∷ []) other → other ≢ yes 1 → value_of all_free other ≡ False
alone other (zero, within, is) differs = absurd (differs (sym is))
alone other (suc k, within, is) differs = absurd (omega (arith, within))

pub news-one : IsNews two two 2 one
news-one = record { follows = refl; empowering = (all_free, yes 1, two_quiet, (0, lit< tt, refl), refl, alone) }

-- ---- behind it, with 1 true, nothing is forced: the log of this one step is spent at 1

abbrev one_true : ℕ → Value
one_true = valued (True ∷ [])

true_free : True ≡ Free → ⊥
true_free is = cc

quiet_unit : IsQuietRow one_true (clause_row (yes 1 ∷ []))
quiet_unit = record { no_conflict = omega arith; none_forced = λ k d within free. slack k d within free } where
  slack : (k : ℕ) (d : Term) → k < 1 → value_of one_true (get_or (clause_row (yes 1 ∷ [])).terms k d).lit ≡ Free
      → 1 + (get_or (clause_row (yes 1 ∷ [])).terms k d).coef ≤ reach one_true (clause_row (yes 1 ∷ [])).terms
  slack zero d within free = absurd (true_free free)
  slack (suc k) d within free = absurd (omega (arith, within))

pub spent-at_one : IsSpent 1 two 2 (one ∷ [])
spent-at_one = record {
  count = refl;
  news = AreNews-one two 2 one news-one;
  quiet = (
    one_true,
    All-from_recursion (IsQuietRow one_true) (at_least 1 (yes 1 ∷ yes 2 ∷ []) ∷ at_least 1 (yes 1 ∷ no 2 ∷ []) ∷ clause_row (yes 1 ∷ []) ∷ [])
        (quiet_two one_true (yes 1) (yes 2) refl, (quiet_two one_true (yes 1) (no 2) refl, (quiet_unit, tt))),
  );
}

-- a step that comes again forces nothing new: its literal is free in no quiet values
one_free : (values : ℕ → Value) → IsQuietRow values (clause_row (yes 1 ∷ [])) → value_of values (yes 1) ≡ Free
    → reach values (clause_row (yes 1 ∷ [])).terms ≡ 1 → ⊥
one_free values quiet free reached = omega (arith, quiet.none_forced 0 (record { coef = 1; lit = yes 1 }) (lit< tt) free, reached)

-- ---- a trail: of the rows "at least two of 1, 2, 3", "not both 1 and 2", "3 needs 4" and "not 4" the last forces not 4

abbrev four : List Row
four = at_least 2 (yes 1 ∷ yes 2 ∷ yes 3 ∷ []) ∷ at_least 1 (no 1 ∷ no 2 ∷ [])
    ∷ at_least 1 (no 3 ∷ yes 4 ∷ []) ∷ at_least 1 (no 4 ∷ []) ∷ []

abbrev forced : Literal → ℕ → Entry
forced lit number = record { lit = lit; level = 0; reason = Some number }

abbrev first : List Entry
first = forced (no 4) 4 ∷ forced (no 3) 3 ∷ []

abbrev all : List Entry
all = forced (no 4) 4 ∷ forced (no 3) 3 ∷ forced (yes 1) 1 ∷ forced (yes 2) 1 ∷ []

-- nothing was decided
pub levels : (level_of all ≡ 0) × (map (values_of all) (1 ∷ 2 ∷ 3 ∷ 4 ∷ 5 ∷ []) ≡ True ∷ True ∷ False ∷ False ∷ Free ∷ [])
levels = (refl, refl)

-- row 3 forces not 3 once 4 is false
pub lawful : IsLawful four 4 (forced (no 4) 4 ∷ []) (forced (no 3) 3)
lawful = record {
  new = record { from_one = omega arith; known = omega arith; free = refl; level = refl };
  reason = record {
    row = at_least 1 (no 3 ∷ yes 4 ∷ []);
    numbered = record { from_one = omega arith; there = refl };
    term = record { coef = 1; lit = no 3 };
    literal = refl;
    forces = record { no_conflict = omega arith; there = (0, lit< tt, refl); free = refl; needed = omega arith };
  };
}

-- row 1 has 2 within reach and asks for 2, so it forces both that are left
pub forced_both : IsForcedBy four first (yes 1) 1 × IsForcedBy four first (yes 2) 1
forced_both = (
  record {
    row = at_least 2 (yes 1 ∷ yes 2 ∷ yes 3 ∷ []);
    numbered = record { from_one = omega arith; there = refl };
    term = record { coef = 1; lit = yes 1 };
    literal = refl;
    forces = record { no_conflict = omega arith; there = (0, lit< tt, refl); free = refl; needed = omega arith };
  },
  record {
    row = at_least 2 (yes 1 ∷ yes 2 ∷ yes 3 ∷ []);
    numbered = record { from_one = omega arith; there = refl };
    term = record { coef = 1; lit = yes 2 };
    literal = refl;
    forces = record { no_conflict = omega arith; there = (1, lit< tt, refl); free = refl; needed = omega arith };
  },
)

-- with both literals of row 1 forced, row 2 is in conflict
pub conflict : NamesConflict four (values_of all) (record { row = 2 })
conflict = record {
  row = at_least 1 (no 1 ∷ no 2 ∷ []);
  numbered = record { from_one = omega arith; there = refl };
  conflict_is = omega arith;
}

-- ---- news of a log: in the quiet values that the second step would need 1 would be free, and the first step forces it

again : (values : ℕ → Value) (l : Literal) → IsQuietRow values (clause_row (yes 1 ∷ [])) → Contains (yes 1 ∷ []) l
    → value_of values l ≡ Free → ⊥
again values l quiet (zero, within, is) free =
    let one_is : values 1 ≡ Free = subst (λ (m : Literal). value_of values m ≡ Free) (sym is) free in
    one_free values quiet one_is (rw one_is refl)
again values l quiet (suc k, within, is) free = absurd (omega (arith, within))

-- the second step of a log over few variables is empowering behind the first
second_empowering : (rows : List Row) (vars : ℕ) (s t : Step) → AreNews rows vars (s ∷ t ∷ []) → vars ≤ 40
    → IsEmpowering (rows ++ map row_of (s ∷ [])) (clause_of t)
second_empowering rows vars s t news few =
    subst (λ (ks : List ℕ). IsEmpowering (rows ++ map row_of (steps_at (s ∷ t ∷ []) ks)) (clause_of t))
    (keeps-few rows vars (s ∷ t ∷ []) news few 0 (lit< tt) ∙ ap (λ (ks : List ℕ). ks ++ 0 ∷ []) news.start)
    (news.news 1 (lit< tt)).empowering

pub news-twice : AreNews two 2 (one ∷ one ∷ []) → ⊥
news-twice news =
    let (values, l, quiet, there, free, alone) = second_empowering two 2 one one news (lit≤ tt) in
    again values l (quiet 2 (clause_row []) (lit< tt)) there free

-- what doesn't follow is no news: where 2 is false, row 1 asks for 1, and row 2 is met
err_ok : {r : Row} → Err NoConflict ≡ Ok r → ⊥
err_ok is = cc

pub news-none : IsNews two two 2 (Clause (yes 2 ∷ []) (1 ∷ 2 ∷ [])) → ⊥
news-none news = err_ok news.follows

-- ---- tidy steps: each variable once, each a known one, and at most one more hint than there are variables

no_variables : (vars : ℕ) (hints : List ℕ) → length hints ≤ vars + 1
    → ((k d : ℕ) → k < length hints → 1 ≤ get_or hints k d)
    → ((k d : ℕ) → k < length hints → get_or hints k d < 2 ^ 64) → IsTidy vars (Clause [] hints)
no_variables vars hints few named small = record {
  variables = λ i j d before within. absurd (omega (arith, within));
  from_one = λ k d within. absurd (omega (arith, within));
  known = λ k d within. absurd (omega (arith, within));
  few = few;
  named = named;
  small = small;
}

tidy_one : (vars : ℕ) → 1 ≤ vars → IsTidy vars one
tidy_one vars some = record {
  variables = λ i j d before within. absurd (omega (arith, before, within));
  from_one = All-from_recursion (λ (l : Literal). 1 ≤ l.var) (yes 1 ∷ []) (omega arith, tt);
  known = All-from_recursion (λ (l : Literal). l.var ≤ vars) (yes 1 ∷ []) (omega arith, tt);
  few = omega arith;
  named = All-from_recursion (λ (hint : ℕ). 1 ≤ hint) (1 ∷ 2 ∷ []) (omega arith, (omega arith, tt));
  small = All-from_recursion (λ (hint : ℕ). hint < 2 ^ 64) (1 ∷ 2 ∷ []) (lit< tt, (lit< tt, tt));
}

-- one variable, and two hints, which are the most that one may have
pub tidy-one : IsTidy 1 one
tidy-one = tidy_one 1 (lit≤ tt)

apart : (i j : ℕ) (d : Literal) → i < j → j < 2
    → (get_or (no 2 ∷ yes 1 ∷ []) i d).var ≡ (get_or (no 2 ∷ yes 1 ∷ []) j d).var → ⊥
apart zero (suc zero) d before within is = omega (arith, is)
apart zero zero d before within is = omega (arith, before)
apart zero (suc (suc j)) d before within is = omega (arith, within)
apart (suc i) zero d before within is = omega (arith, before)
apart (suc i) (suc zero) d before within is = omega (arith, before)
apart (suc i) (suc (suc j)) d before within is = omega (arith, within)

-- both variables, in any order, and a hint that stands twice
pub tidy-both : IsTidy 2 (Clause (no 2 ∷ yes 1 ∷ []) (2 ∷ 1 ∷ 2 ∷ []))
tidy-both = record {
  variables = apart;
  from_one = All-from_recursion (λ (l : Literal). 1 ≤ l.var) (no 2 ∷ yes 1 ∷ []) (omega arith, (omega arith, tt));
  known = All-from_recursion (λ (l : Literal). l.var ≤ 2) (no 2 ∷ yes 1 ∷ []) (omega arith, (omega arith, tt));
  few = omega arith;
  named = All-from_recursion (λ (hint : ℕ). 1 ≤ hint) (2 ∷ 1 ∷ 2 ∷ []) (omega arith, (omega arith, (omega arith, tt)));
  small = All-from_recursion (λ (hint : ℕ). hint < 2 ^ 64) (2 ∷ 1 ∷ 2 ∷ []) (lit< tt, (lit< tt, (lit< tt, tt)));
}

-- a variable that stands twice, though once negated; one above the last; one with the number 0; a hint of the number 0,
-- and one of 65 bits; one hint too many
pub untidy : (IsTidy 2 (Clause (yes 1 ∷ no 1 ∷ []) []) → ⊥) × (IsTidy 2 (Clause (yes 3 ∷ []) []) → ⊥)
    × (IsTidy 2 (Clause (yes 0 ∷ []) []) → ⊥) × (IsTidy 2 (Clause [] (0 ∷ [])) → ⊥)
    × (IsTidy 2 (Clause [] (18446744073709551616 ∷ [])) → ⊥) × (IsTidy 2 (Clause [] (1 ∷ 1 ∷ 1 ∷ 1 ∷ [])) → ⊥)
untidy = (
  λ tidy. tidy.variables 0 1 (yes 1) (lit< tt) (lit< tt) refl,
  λ tidy. omega (arith, tidy.known 0 (yes 1) (lit< tt)),
  λ tidy. omega (arith, tidy.from_one 0 (yes 1) (lit< tt)),
  λ tidy. omega (arith, tidy.named 0 1 (lit< tt)),
  λ tidy. omega (arith, tidy.small 0 1 (lit< tt)),
  λ tidy. omega (arith, tidy.few),
)

-- ---- what is answered: a log that is spent at 1, where there are 9 clauses of two variables

pub spent-within_one : IsSpentAt two 2 (Some 1) (one ∷ [])
spent-within_one = record {
  limited = refl;
  spent = spent-at_one;
  few = lit< tt;
  tidy = All-from_recursion (IsTidy 2) (one ∷ []) (tidy_one 2 (lit≤ tt), tt);
}

none_some : {n : ℕ} → None ≡ Some n → ⊥
none_some is = cc

-- without a limit none is spent, and none of so many steps as there are clauses: of no variable there is one
pub unspent : (IsSpentAt two 2 None (one ∷ []) → ⊥)
    × ((rows : List Row) (step : Step) → IsSpentAt rows 0 (Some 1) (step ∷ []) → ⊥)
unspent = (λ is. none_some is.limited, λ rows step is. omega (arith, is.few))

-- no log is spent where a row is in conflict at once, nor one with a step that isn't tidy
pub unspent-steps : (IsSpentAt (at_least 1 [] ∷ []) 2 (Some 0) [] → ⊥)
    × (IsSpentAt two 2 (Some 1) (Clause (yes 1 ∷ yes 1 ∷ []) (1 ∷ 2 ∷ []) ∷ []) → ⊥)
unspent-steps = (
  λ is. omega (
    arith,
    (All-front (IsQuietRow is.spent.quiet.0) (at_least 1 [] ∷ []) _ is.spent.quiet.1 0 (clause_row [])
        (lit< tt)).no_conflict,
  ),
  λ is. (is.tidy 0 one (lit< tt)).variables 0 1 (yes 1) (lit< tt) (lit< tt) refl,
)

-- where 1 is true both clauses are met
pub answer-values : IsAnswer two 2 None (Sat (true ∷ false ∷ []))
answer-values = (
  refl,
  All-from_recursion (Satisfies (assigned (true ∷ false ∷ []))) two (omega arith, (omega arith, tt)),
)

-- ---- a log that refutes: two clauses more, 1 needs 3, and 1 needs not 3. The step comes behind them as row 5.

abbrev closed : List Row
closed = at_least 1 (yes 1 ∷ yes 2 ∷ []) ∷ at_least 1 (yes 1 ∷ no 2 ∷ []) ∷ at_least 1 (no 1 ∷ yes 3 ∷ [])
    ∷ at_least 1 (no 1 ∷ no 3 ∷ []) ∷ []

abbrev falsum : Step
falsum = Clause [] (5 ∷ 3 ∷ 4 ∷ [])

closed_quiet : IsQuiet all_free closed
closed_quiet = All-from_recursion (IsQuietRow all_free) closed (
  quiet_two all_free (yes 1) (yes 2) refl,
  (
    quiet_two all_free (yes 1) (no 2) refl,
    (quiet_two all_free (no 1) (yes 3) refl, (quiet_two all_free (no 1) (no 3) refl, tt)),
  ),
)

-- 1 is true by row 5, so 3 is by row 3, which row 4 forbids; one step comes before the last, and one is allowed
pub refutes-closed : Refutes closed 3 (Some 1) (one ∷ falsum ∷ [])
refutes-closed = record {
  accepted = refl;
  before = one ∷ [];
  hints = 5 ∷ 3 ∷ 4 ∷ [];
  last = refl;
  news = AreNews-one closed 3 one
      (record { follows = refl; empowering = (all_free, yes 1, closed_quiet, (0, lit< tt, refl), refl, alone) });
  within = lit≤ tt;
  tidy = All-from_recursion (IsTidy 3) (one ∷ falsum ∷ []) (
    tidy_one 3 (lit≤ tt),
    (
      no_variables 3 (5 ∷ 3 ∷ 4 ∷ []) (lit≤ tt)
          (All-from_recursion (λ (hint : ℕ). 1 ≤ hint) (5 ∷ 3 ∷ 4 ∷ [])
          (omega arith, (omega arith, (omega arith, tt))))
          (All-from_recursion (λ (hint : ℕ). hint < 2 ^ 64) (5 ∷ 3 ∷ 4 ∷ [])
          (lit< tt, (lit< tt, (lit< tt, tt)))),
      tt,
    ),
  );
}

rejected : {cause : Cause} → Rejected 1 cause ≡ Accepted → ⊥
rejected is = cc

-- without the last step, or with a hint too many in it, behind the conflict, it doesn't: 3 variables allow 4 hints
pub refutes-none : (Refutes closed 3 (Some 1) (one ∷ []) → ⊥)
    × (Refutes closed 3 (Some 1) (one ∷ Clause [] (5 ∷ 3 ∷ 4 ∷ 4 ∷ 4 ∷ []) ∷ []) → ⊥)
refutes-none = (λ refutes. rejected refutes.accepted, λ refutes. omega (arith, (refutes.tidy 1 one (lit< tt)).few))

-- a log doesn't refute where the first step stands twice: the second time it is no news
twice_before : (before : List Step) (hints : List ℕ) → one ∷ one ∷ falsum ∷ [] ≡ before ++ Clause [] hints ∷ []
    → AreNews closed 3 before → ⊥
twice_before [] hints is news = omega (arith, ap length is)
twice_before (a ∷ []) hints is news = omega (arith, ap length is)
twice_before (a ∷ b ∷ []) hints is news =
    let first_is : one ≡ a = cc in
    let second_is : one ≡ b = cc in
    let both : AreNews closed 3 (one ∷ one ∷ []) =
    subst (λ (s : Step). AreNews closed 3 (one ∷ s ∷ [])) (sym second_is)
    (subst (λ (s : Step). AreNews closed 3 (s ∷ b ∷ [])) (sym first_is) news) in
    let (values, l, quiet, there, free, alone) = second_empowering closed 3 one one both (lit≤ tt) in
    again values l (quiet 4 (clause_row []) (lit< tt)) there free
twice_before (a ∷ b ∷ c ∷ before) hints is news =
    omega (arith, ap length is, length-append before (Clause [] hints ∷ []))

pub refutes-twice : Refutes closed 3 None (one ∷ one ∷ falsum ∷ []) → ⊥
refutes-twice refutes = twice_before refutes.before refutes.hints refutes.last refutes.news

-- where no step may come before the last, it is no answer
pub refutes-none_before : Refutes closed 3 (Some 0) (one ∷ falsum ∷ []) → ⊥
refutes-none_before refutes =
    omega (arith, ap length refutes.last, length-append refutes.before (Clause [] refutes.hints ∷ []), refutes.within)
