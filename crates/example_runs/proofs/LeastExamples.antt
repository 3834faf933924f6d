-- Two teams, in no phases. x(0,1,s) is 1 + s, x(1,0,s) 3 + s, h(0,s) 5 + s and h(1,s) 7 + s. Behind slot 0 one of them
-- has had a home game more, so that where they are to be even there, each season costs 4: a log of two steps proves it,
-- and one of none is spent. The league that wants team 0 away in slot 0, at 3, has a season at 3 and one at nothing.
use Rattle.clause_search.proofs.SearchLemmas.{AreNews-one}
use Rattle.std.proofs.Common.{lit<, ◌≡◌, ℕ, zero, suc, ◌+◌, ◌<◌, ◌≤◌, ◌&&◌, ◌⊎◌, inl, inr, Bool, true, false, not, nat_le}
use Rattle.std.proofs.Common.{nat_lt, List, [], ◌∷◌, drop, get_or, length, length-append, All, Contains, Option, Some}
use Rattle.std.proofs.Common.{None, IfSome, IsTrue, ◌==◌, cond, ap, arith, refl}
use Rattle.std.proofs.Common.{subst, sym, ◌∙◌, ◌^◌}
use Rattle.std.specs.List.{list_all}
use Rattle.std.proofs.lemmas.Bool.{and_parts, eqb-true, leb-true, ltb-false, not-true}
use Rattle.std.proofs.lemmas.List.Elements.{All-nil, All-from_recursion}
use Rattle.std.proofs.lemmas.List.Sums.{AllPass-from_list_all}
use Rattle.league.specs.Accepted.{IsAccepted, objective}
use Rattle.league.specs.Counts.{Counts, counts_of}
use Rattle.league.specs.Instance.{Instance, IsGame, IsInstance, class_fits}
use Rattle.league.specs.Order.{IsInOrder}
use Rattle.league.specs.declared.class.Class.{Class}
use Rattle.league.specs.declared.class.Class.TheVariants.{Ca1, Fa2}
use Rattle.league.specs.declared.class.Constraint.{Constraint}
use Rattle.league.specs.declared.class.Side.TheVariants.{H}
use Rattle.league.specs.declared.game.Game.{Game}
use Rattle.league.proofs.AcceptedLemmas.{MeetsHard-from_sum}
use Rattle.league.proofs.DoubleFour.{game}
use Rattle.rows.specs.Cardinality.{at_least}
use Rattle.rows.specs.Literals.{Literal, no, yes}
use Rattle.rows.specs.Forcing.{all_set, forced_by, set_true, with_forced}
use Rattle.rows.specs.Partials.{IsQuiet, IsQuietRow, is_forced, is_free, reach}
use Rattle.rows.specs.Partials.{value_of}
use Rattle.rows.specs.Rows.{Row}
use Rattle.rows.specs.Values.{valued}
use Rattle.rows.specs.declared.lit.Term.{Term}
use Rattle.rows.specs.declared.partial.Value.{Value}
use Rattle.rows.specs.declared.partial.Value.TheVariants.{True, False, Free}
use Rattle.refutation.specs.Steps.{NamesRows, Step}
use Rattle.refutation.specs.Steps.Step.{Clause, Linear}
use Rattle.refutation.specs.Following.{after_row, all_free, clause_row, is_in_conflict, replay, row_numbered}
use Rattle.refutation.specs.Following.{row_unless}
use Rattle.refutation.specs.Verdict.{fault_or, first_fault, verdict_by, verdict_of}
use Rattle.refutation.specs.declared.verdict.Cause.{Cause}
use Rattle.refutation.specs.declared.verdict.Verdict.TheVariants.{Accepted}
use Rattle.refutation_check.proofs.SoundLemmas.{accepted_logs_refute}
use Rattle.refutation_check.proofs.SumLemmas.{row_numbered-holds}
use Rattle.clause_search.specs.Answers.{Refutes}
use Rattle.clause_search.specs.News.{IsNews, IsTidy}
use Rattle.bound_rows.specs.BoundRows.{bound_rows, bound_vars}
use Rattle.bound_rows.specs.Faithful.{IsLowerBound}
use Rattle.bound_rows.proofs.Faithful.{bounds-from_refuted}
use Rattle.bounds.specs.Proofs.{IsLeast}

abbrev pub soft : ℕ → Class → Constraint
soft penalty class = record { hard = false; penalty = penalty; class = class }

abbrev pub with : Constraint → Instance
with constraint = record { n = 2; phased = false; constraints = constraint ∷ [] }

abbrev pub even_soon : Instance
even_soon = with (soft 4 (Fa2 (0 ∷ 1 ∷ []) 0 (0 ∷ [])))

abbrev pub away_first : Instance
away_first = with (soft 3 (Ca1 (0 ∷ []) 0 0 H (0 ∷ [])))

-- team 0 is at home first, and team 1 is
abbrev pub zero_first : List Game
zero_first = game 0 1 0 ∷ game 1 0 1 ∷ []

abbrev pub one_first : List Game
one_first = game 1 0 0 ∷ game 0 1 1 ∷ []

pub costs : (objective even_soon (counts_of zero_first) ≡ 4) × (objective even_soon (counts_of one_first) ≡ 4)
    × (objective away_first (counts_of zero_first) ≡ 3) × (objective away_first (counts_of one_first) ≡ 0)
costs = (refl, refl, refl, refl)

-- ---- seasons are accepted, fit, and come in order

pub even-accepted : IsAccepted even_soon (counts_of zero_first)
even-accepted = record {
  round_robin = record { pairs = refl; cells = refl; phases = refl };
  hard = MeetsHard-from_sum even_soon (counts_of zero_first) refl;
}

pub away-zero : IsAccepted away_first (counts_of zero_first)
away-zero = record {
  round_robin = record { pairs = refl; cells = refl; phases = refl };
  hard = MeetsHard-from_sum away_first (counts_of zero_first) refl;
}

pub away-one : IsAccepted away_first (counts_of one_first)
away-one = record {
  round_robin = record { pairs = refl; cells = refl; phases = refl };
  hard = MeetsHard-from_sum away_first (counts_of one_first) refl;
}

fits : (i j s : ℕ) → i < 2 → j < 2 → (i ≡ j → ⊥) → s < 2 → IsGame 2 (game i j s)
fits i j s home away differ slot = record { home = home; away = away; differ = differ; slot = slot }

pub one-fit : All (IsGame 2) one_first
one-fit =
    All-from_recursion (IsGame 2) one_first (
      fits 1 0 0 (lit< tt) (lit< tt) (λ same. omega (arith, same)) (lit< tt),
      (fits 0 1 1 (lit< tt) (lit< tt) (λ same. omega (arith, same)) (lit< tt), tt),
    )

pub zero-fit : All (IsGame 2) zero_first
zero-fit =
    All-from_recursion (IsGame 2) zero_first (
      fits 0 1 0 (lit< tt) (lit< tt) (λ same. omega (arith, same)) (lit< tt),
      (fits 1 0 1 (lit< tt) (lit< tt) (λ same. omega (arith, same)) (lit< tt), tt),
    )

pub one-in_order : IsInOrder one_first
one-in_order zero (suc zero) d before inside = refl
one-in_order zero zero d before inside = absurd (omega (arith, before))
one-in_order zero (suc (suc j)) d before inside = absurd (omega (arith, inside))
one-in_order (suc i) zero d before inside = absurd (omega (arith, before))
one-in_order (suc i) (suc zero) d before inside = absurd (omega (arith, before))
one-in_order (suc i) (suc (suc j)) d before inside = absurd (omega (arith, inside))

pub zero-in_order : IsInOrder zero_first
zero-in_order zero (suc zero) d before inside = refl
zero-in_order zero zero d before inside = absurd (omega (arith, before))
zero-in_order zero (suc (suc j)) d before inside = absurd (omega (arith, inside))
zero-in_order (suc i) zero d before inside = absurd (omega (arith, before))
zero-in_order (suc i) (suc zero) d before inside = absurd (omega (arith, before))
zero-in_order (suc i) (suc (suc j)) d before inside = absurd (omega (arith, inside))

-- ---- a row is quiet where a test says so

abbrev pub is_quiet_row : (ℕ → Value) → Row → Bool
is_quiet_row values row =
    nat_le row.degree (reach values row.terms)
    && list_all (λ t. not (is_forced values row.terms row.degree t)) row.terms

slack_left : (value : Value) (most needed : ℕ) → not (is_free value && nat_lt most needed) ≡ true → value ≡ Free
    → needed ≤ most
slack_left True most needed test free = absurd (cc)
slack_left False most needed test free = absurd (cc)
slack_left Free most needed test free = ltb-false most needed (not-true (nat_lt most needed) test)

quiet_row : (values : ℕ → Value) (row : Row) → is_quiet_row values row ≡ true → IsQuietRow values row
quiet_row values row test =
    let held : Term → Bool = λ t. not (is_forced values row.terms row.degree t) in
    let parts = and_parts (nat_le row.degree (reach values row.terms)) (list_all held row.terms) test in
    let slack = AllPass-from_list_all held row.terms parts.1 in
    record {
      no_conflict = leb-true row.degree (reach values row.terms) parts.0;
      none_forced = λ k d within free.
          slack_left (value_of values (get_or row.terms k d).lit) (reach values row.terms)
          (row.degree + (get_or row.terms k d).coef) (slack k d within) free;
    }

pub quiet_rows : (values : ℕ → Value) (rows : List Row) → list_all (is_quiet_row values) rows ≡ true
    → IsQuiet values rows
quiet_rows values rows test = λ k d within.
    quiet_row values (get_or rows k d) (AllPass-from_list_all (is_quiet_row values) rows test k d within)

-- ---- at most 3: rows 29 and 30 want them even behind slot 0, or the unit 9, which row 31 rules out

pub tail : (drop 28 (bound_rows even_soon 3)
    ≡ at_least 1 (no 5 ∷ yes 7 ∷ yes 9 ∷ [])
    ∷ at_least 1 (yes 5 ∷ no 7 ∷ yes 9 ∷ [])
    ∷ record { terms = record { coef = 4; lit = no 9 } ∷ []; degree = 1 }
    ∷ [])
    × (bound_vars even_soon ≡ 9)
tail = (refl, refl)

-- Were 5 true, so would be 7, and row 22 allows one of them. So 5 is false, and with it 7, and row 21 wants one.
abbrev first_step : Step
first_step = Clause (no 5 ∷ []) (31 ∷ 29 ∷ 22 ∷ [])

abbrev last_step : Step
last_step = Clause [] (32 ∷ 31 ∷ 30 ∷ 21 ∷ [])

abbrev pub log : List Step
log = first_step ∷ last_step ∷ []

pub refuted : verdict_of (bound_rows even_soon 3) 9 log ≡ Accepted
refuted = refl

even_fit : All (λ (c : Constraint). IsTrue (class_fits 2 c.class)) even_soon.constraints
even_fit zero d h = refl
even_fit (suc k) d h = absurd (omega (arith, h))

pub even_instance : IsInstance even_soon
even_instance = record {
  teams = record { even = refl; at_least = omega arith; at_most = omega arith };
  few = omega arith;
  fit = even_fit;
}

-- each season costs 4 at least
pub lower_bound : IsLowerBound even_soon 4
lower_bound =
    bounds-from_refuted even_soon 4 even_instance (accepted_logs_refute (bound_rows even_soon 3) 9 log refuted)

-- with the unit false and nothing else known, no row forces anything: the first step says more than propagation finds
abbrev pub unit_false : ℕ → Value
unit_false = valued (Free ∷ Free ∷ Free ∷ Free ∷ Free ∷ Free ∷ Free ∷ Free ∷ False ∷ [])

pub unit_quiet : IsQuiet unit_false (bound_rows even_soon 3)
unit_quiet = quiet_rows unit_false (bound_rows even_soon 3) refl

alone : (other : Literal) → Contains (no 5 ∷ []) other → (other ≡ no 5 → ⊥) → value_of unit_false other ≡ False
alone other (zero, within, is) differs = absurd (differs (sym is))
alone other (suc k, within, is) differs = absurd (omega (arith, within))

pub first-news : IsNews (bound_rows even_soon 3) (bound_rows even_soon 3) 9 first_step
first-news =
    record { follows = refl; empowering = (unit_false, no 5, unit_quiet, (0, lit< tt, refl), refl, alone) }

first-tidy : IsTidy 9 first_step
first-tidy = record {
  variables = λ i j d before inside. absurd (omega (arith, before, inside));
  from_one = All-from_recursion (λ (l : Literal). 1 ≤ l.var) (no 5 ∷ []) (omega arith, tt);
  known = All-from_recursion (λ (l : Literal). l.var ≤ 9) (no 5 ∷ []) (omega arith, tt);
  few = omega arith;
  named = All-from_recursion (λ (hint : ℕ). 1 ≤ hint) (31 ∷ 29 ∷ 22 ∷ [])
      (omega arith, (omega arith, (omega arith, tt)));
  small = All-from_recursion (λ (hint : ℕ). hint < 2 ^ 64) (31 ∷ 29 ∷ 22 ∷ [])
      (lit< tt, (lit< tt, (lit< tt, tt)));
}

last-tidy : IsTidy 9 last_step
last-tidy = record {
  variables = λ i j d before inside. absurd (omega (arith, inside));
  from_one = All-nil (λ (l : Literal). 1 ≤ l.var);
  known = All-nil (λ (l : Literal). l.var ≤ 9);
  few = omega arith;
  named = All-from_recursion (λ (hint : ℕ). 1 ≤ hint) (32 ∷ 31 ∷ 30 ∷ 21 ∷ [])
      (omega arith, (omega arith, (omega arith, (omega arith, tt))));
  small = All-from_recursion (λ (hint : ℕ). hint < 2 ^ 64) (32 ∷ 31 ∷ 30 ∷ 21 ∷ [])
      (lit< tt, (lit< tt, (lit< tt, (lit< tt, tt))));
}

pub log-named : All NamesRows log
log-named = All-from_recursion NamesRows log (first-tidy.named, (last-tidy.named, tt))

-- one step comes before the last
pub log-refutes : Refutes (bound_rows even_soon 3) 9 (Some 1) log
log-refutes = record {
  accepted = refuted;
  before = first_step ∷ [];
  hints = 32 ∷ 31 ∷ 30 ∷ 21 ∷ [];
  last = refl;
  news = AreNews-one (bound_rows even_soon 3) 9 first_step first-news;
  within = omega arith;
  tidy = All-from_recursion (IsTidy 9) log (first-tidy, (last-tidy, tt));
}

pub least-four : IsLeast even_soon (counts_of zero_first) (Some 1) 4 log
least-four = record {
  cost = refl;
  least = lower_bound;
  nothing = λ none. absurd (omega (arith, none));
  refutes = λ some. log-refutes;
  named = log-named;
}

-- another objective than the season has isn't least
not_four : (n : ℕ) → n ≡ 4 → (n ≡ 3) ⊎ (n ≡ 5) → ⊥
not_four n four (inl three) = omega (arith, four, three)
not_four n four (inr five) = omega (arith, four, five)

pub least-three : (limit : Option ℕ) (steps : List Step) → IsLeast even_soon (counts_of zero_first) limit 3 steps → ⊥
least-three limit steps is = not_four 3 is.cost (inl refl)

pub least-five : (limit : Option ℕ) (steps : List Step) → IsLeast even_soon (counts_of zero_first) limit 5 steps → ⊥
least-five limit steps is = not_four 5 is.cost (inr refl)

-- ---- no log of one step proves it: from nothing known row 31 alone forces anything, and behind it no row does

abbrev unit_set : ℕ → Value
unit_set = set_true all_free (no 9)

abbrev is_nothing : List Literal → Bool
is_nothing [] = true
is_nothing (l ∷ literals) = false

abbrev is_unit : List Literal → Bool
is_unit [] = true
is_unit (l ∷ []) = (l.var == 9) && not l.positive
is_unit (l ∷ m ∷ literals) = false

pub nothing : (literals : List Literal) → is_nothing literals ≡ true → literals ≡ []
nothing [] test = refl
nothing (l ∷ literals) test = absurd (cc)

nothing_or_unit : (literals : List Literal) → is_unit literals ≡ true → (literals ≡ []) ⊎ (literals ≡ no 9 ∷ [])
nothing_or_unit [] test = inl refl
nothing_or_unit (l ∷ []) test =
    let parts = and_parts (l.var == 9) (not l.positive) test in
    let nine : l.var ≡ 9 = eqb-true l.var 9 parts.0 in
    let negated : l.positive ≡ false = not-true l.positive parts.1 in
    inr (
    ap (λ (v : ℕ). let m : Literal = record { var = v; positive = l.positive } in m ∷ []) nine
    ∙ ap (λ (sign : Bool). let m : Literal = record { var = 9; positive = sign } in m ∷ []) negated
    )
nothing_or_unit (l ∷ m ∷ literals) test = absurd (cc)

abbrev goes_on : (ℕ → Value) → (List Literal → Bool) → Row → Bool
goes_on values forced row = not (is_in_conflict values row) && forced (forced_by values row)

-- the replay behind a row that isn't in conflict
replayed : (values : ℕ → Value) (row : Row) (rest : (ℕ → Value) → Option Cause) → not (is_in_conflict values row) ≡ true
    → after_row (Some row) values rest ≡ None → rest (with_forced values row) ≡ None
replayed values row rest calm ends =
    let quiet : is_in_conflict values row ≡ false = not-true (is_in_conflict values row) calm in
    sym (ap (λ (b : Bool). cond b None (rest (with_forced values row))) quiet) ∙ ends

behind_unit : (found : Option Row) → IfSome found (λ row. goes_on unit_set is_nothing row ≡ true)
    → (rest : (ℕ → Value) → Option Cause) → (rest unit_set ≡ None → ⊥) → after_row found unit_set rest ≡ None → ⊥
behind_unit None passes rest later ends = cc
behind_unit (Some row) passes rest later ends =
    let parts = and_parts (not (is_in_conflict unit_set row)) (is_nothing (forced_by unit_set row)) passes in
    later (subst (λ (literals : List Literal). rest (all_set unit_set literals) ≡ None)
    (nothing (forced_by unit_set row) parts.1) (replayed unit_set row rest parts.0 ends))

from_nothing : (found : Option Row) → IfSome found (λ row. goes_on all_free is_unit row ≡ true)
    → (rest : (ℕ → Value) → Option Cause) → (rest all_free ≡ None → ⊥) → (rest unit_set ≡ None → ⊥)
    → after_row found all_free rest ≡ None → ⊥
from_nothing None passes rest free set ends = cc
from_nothing (Some row) passes rest free set ends =
    let parts = and_parts (not (is_in_conflict all_free row)) (is_unit (forced_by all_free row)) passes in
    let after = replayed all_free row rest parts.0 ends in
    elim (nothing_or_unit (forced_by all_free row) parts.1) [
      | inl none ↦ free (subst (λ (literals : List Literal). rest (all_set all_free literals) ≡ None) none after)
      | inr one ↦ set (subst (λ (literals : List Literal). rest (all_set all_free literals) ≡ None) one after)
    ]

abbrev rows : List Row
rows = bound_rows even_soon 3

all-behind_unit : All (λ row. goes_on unit_set is_nothing row ≡ true) rows
all-behind_unit = AllPass-from_list_all (goes_on unit_set is_nothing) rows refl

all-from_nothing : All (λ row. goes_on all_free is_unit row ≡ true) rows
all-from_nothing = AllPass-from_list_all (goes_on all_free is_unit) rows refl

replay-unit : (hints : List ℕ) → replay rows hints unit_set ≡ None → ⊥
replay-unit [] ends = cc
replay-unit (hint ∷ hints) ends =
    behind_unit (row_numbered rows hint)
    (row_numbered-holds (λ row. goes_on unit_set is_nothing row ≡ true) rows hint all-behind_unit)
    (replay rows hints) (replay-unit hints) ends

replay-free : (hints : List ℕ) → replay rows hints all_free ≡ None → ⊥
replay-free [] ends = cc
replay-free (hint ∷ hints) ends =
    from_nothing (row_numbered rows hint)
    (row_numbered-holds (λ row. goes_on all_free is_unit row ≡ true) rows hint all-from_nothing)
    (replay rows hints) (replay-free hints) (replay-unit hints) ends

-- the one step isn't the empty clause, or doesn't follow
accepted_parts : (fault : Option (ℕ × Cause)) (ends : Bool) (n : ℕ) → verdict_by fault ends n ≡ Accepted
    → (fault ≡ None) × (ends ≡ true)
accepted_parts None true n accepted = (refl, refl)
accepted_parts None false n accepted = absurd (cc)
accepted_parts (Some (step, cause)) ends n accepted = absurd (cc)

no_fault : (fault : Option Cause) → fault_or 1 (row_unless fault (clause_row [])) (λ row. None) ≡ None → fault ≡ None
no_fault None none = refl
no_fault (Some cause) none = absurd (cc)

false_true : false ≡ true → ⊥
false_true is = cc

pub one_step : (steps : List Step) → length steps ≤ 1 → verdict_of (bound_rows even_soon 3) 9 steps ≡ Accepted → ⊥
one_step [] few accepted = false_true (accepted_parts None false 0 accepted).1
one_step (Clause [] hints ∷ []) few accepted =
    let fault : Option Cause = replay rows hints all_free in
    let first : Option (ℕ × Cause) = fault_or 1 (row_unless fault (clause_row [])) (λ row. None) in
    replay-free hints (no_fault fault (accepted_parts first true 1 accepted).0)
one_step (Clause (l ∷ clause) hints ∷ []) few accepted =
    false_true (accepted_parts (first_fault rows 9 0 (Clause (l ∷ clause) hints ∷ [])) false 1 accepted).1
one_step (Linear parts divisor ∷ []) few accepted =
    false_true (accepted_parts (first_fault rows 9 0 (Linear parts divisor ∷ [])) false 1 accepted).1
one_step (step ∷ next ∷ steps) few accepted = absurd (omega (arith, few))

pub least-none_before : (m : Counts) (steps : List Step) → IsLeast even_soon m (Some 0) 4 steps → ⊥
least-none_before m steps is =
    let refutes = is.refutes (omega arith) in
    let within : length refutes.before ≤ 0 = refutes.within in
    let few : length steps ≤ 1 = omega (
      arith,
      within,
      ap (λ (log : List Step). length log) refutes.last,
      length-append refutes.before (Clause [] refutes.hints ∷ []),
    ) in
    one_step steps few refutes.accepted
