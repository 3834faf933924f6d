-- Two teams in no phases. x(0,1,s) is 1 + s, x(1,0,s) 3 + s, h(0,s) 5 + s, and h(1,s) 7 + s. They have two seasons: in
-- `home` team 1 is at home in slot 0 and team 0 in slot 1, and in `out` it is the other way round.
use Prim.Native.String.{String}
use Rattle.clause_search.proofs.TurnLemmas.{All-front}
use Rattle.clause_search.proofs.SearchLemmas.{AreNews-none}
use Rattle.std.proofs.Common.{lit<, lit≤, ◌≡◌, ℕ, zero, suc, ◌+◌, ◌<◌, ◌≤◌, Bool, true, false}
use Rattle.std.proofs.Common.{if◌then◌else◌, List, [], ◌∷◌, ◌++◌, map, drop, length, get_or, Option, Some}
use Rattle.std.proofs.Common.{codes, refl, arith, subst, IsTrue}
use Rattle.std.proofs.lemmas.List.Elements.{All-cons, All-from_recursion, All-nil}
use Rattle.std.proofs.lemmas.List.Kept.{AllPairs-cons}
use Rattle.std.specs.Fmt.{digits}
use Rattle.std.specs.List.{All, AllPairs}
use Rattle.std.specs.Ordering.{is_le}
use Rattle.league.specs.Accepted.{IsAccepted}
use Rattle.league.specs.Counts.{counts_of}
use Rattle.league.specs.Instance.{Instance, IsGame, IsInstance, class_fits}
use Rattle.league.specs.Order.{IsInOrder, game_cmp}
use Rattle.league.specs.declared.class.Class.{Class}
use Rattle.league.specs.declared.class.Class.TheVariants.{Ca1, Ga1}
use Rattle.league.specs.declared.class.Constraint.{Constraint}
use Rattle.league.specs.declared.class.Side.TheVariants.{A, H}
use Rattle.league.specs.declared.game.Game.{Game}
use Rattle.league.proofs.AcceptedLemmas.{MeetsHard-from_sum}
use Rattle.league.proofs.DoubleFour.{game}
use Rattle.rows.specs.Cardinality.{at_least}
use Rattle.rows.specs.Literals.{Literal, yes, no}
use Rattle.rows.specs.Partials.{IsQuiet, IsQuietRow, is_false, opposite_of, reach, value_of}
use Rattle.rows.specs.Rows.{Row}
use Rattle.rows.specs.declared.lit.Term.{Term}
use Rattle.rows.specs.declared.partial.Value.{Value}
use Rattle.rows.specs.declared.partial.Value.TheVariants.{True, False, Free}
use Rattle.encoding.specs.Encoding.{rows_of}
use Rattle.refutation.specs.Following.{all_free}
use Rattle.refutation.specs.Steps.{NamesRows, Step}
use Rattle.refutation.specs.Steps.Step.{Clause, Linear}
use Rattle.refutation.specs.Texts.{step_text, version_of}
use Rattle.refutation.specs.declared.step.Part.{Part}
use Rattle.refutation.specs.declared.verdict.Cause.TheVariants.{NoConflict, NoEmptyClause}
use Rattle.refutation.specs.declared.verdict.Verdict.TheVariants.{Accepted, Rejected}
use Rattle.refutation.specs.declared.version.Version.TheVariants.{One, Two}
use Rattle.clause_search.specs.News.{IsTidy}
use Rattle.league_search.specs.PatternRows.{pattern_rows}
use Rattle.decoding.proofs.SeasonLemmas.{accepted_logs_exclude}
use Rattle.solve.specs.Solutions.{IsSpentOn, IsWritable, RefutesLeague}
use Rattle.league_search.proofs.FoundLemmas.{more-plain, plain_spent, search-plain}

-- lines, each with its end
abbrev pub text : List String → List ℕ
text [] = []
text (line ∷ lines) = codes line ++ (codes "\n" ++ text lines)

abbrev pub hard : Class → Constraint
hard class = record { hard = true; penalty = 1; class = class }

abbrev pub soft : ℕ → Class → Constraint
soft penalty class = record { hard = false; penalty = penalty; class = class }

abbrev pub two_with : List Constraint → Instance
two_with constraints = record { n = 2; phased = false; constraints = constraints }

abbrev pub home : List Game
home = game 1 0 0 ∷ game 0 1 1 ∷ []

abbrev pub out : List Game
out = game 0 1 0 ∷ game 1 0 1 ∷ []

pub fits_home : All (IsGame 2) home
fits_home = All-from_recursion (IsGame 2) home (
  record { home = omega arith; away = omega arith; differ = λ e. omega arith; slot = omega arith },
  (record { home = omega arith; away = omega arith; differ = λ e. omega arith; slot = omega arith }, tt),
)

pub fits_out : All (IsGame 2) out
fits_out = All-from_recursion (IsGame 2) out (
  record { home = omega arith; away = omega arith; differ = λ e. omega arith; slot = omega arith },
  (record { home = omega arith; away = omega arith; differ = λ e. omega arith; slot = omega arith }, tt),
)

abbrev comes_before : Game → Game → Type 0
comes_before g h = IsTrue (is_le (game_cmp g h))

none_before : AllPairs comes_before []
none_before i j d before inside = absurd (omega (arith, inside))

in_order_two : (g h : Game) → IsTrue (is_le (game_cmp g h)) → IsInOrder (g ∷ h ∷ [])
in_order_two g h before =
    AllPairs-cons comes_before g (h ∷ []) (All-cons (comes_before g) h [] before (All-nil (comes_before g)))
    (AllPairs-cons comes_before h [] (All-nil (comes_before h)) none_before)

pub ordered_home : IsInOrder home
ordered_home = in_order_two (game 1 0 0) (game 0 1 1) refl

pub ordered_out : IsInOrder out
ordered_out = in_order_two (game 0 1 0) (game 1 0 1) refl

pub false_true : false ≡ true → ⊥
false_true is = cc

-- team 0 had better not be away in slot 0, at 5: both seasons are accepted
abbrev pub wish : Constraint
wish = soft 5 (Ca1 (0 ∷ []) 0 0 A (0 ∷ []))

abbrev pub wishful : Instance
wishful = two_with (wish ∷ [])

pub accepted_home : IsAccepted wishful (counts_of home)
accepted_home = record {
  round_robin = record { pairs = refl; cells = refl; phases = refl };
  hard = MeetsHard-from_sum wishful (counts_of home) refl;
}

pub accepted_out : IsAccepted wishful (counts_of out)
accepted_out = record {
  round_robin = record { pairs = refl; cells = refl; phases = refl };
  hard = MeetsHard-from_sum wishful (counts_of out) refl;
}

-- ---- refuted: team 0 is to be at home in both slots

-- the demand's row is row 29, and row 26 says that team 0 is at home in one slot at most
abbrev pub homes : Instance
homes = two_with (hard (Ca1 (0 ∷ []) 2 2 H (0 ∷ 1 ∷ [])) ∷ [])

pub rows-homes : drop 25 (rows_of homes)
    ≡ at_least 1 (no 5 ∷ no 6 ∷ []) ∷ at_least 1 (yes 7 ∷ yes 8 ∷ []) ∷ at_least 1 (no 7 ∷ no 8 ∷ [])
    ∷ at_least 2 (yes 5 ∷ yes 6 ∷ [])
    ∷ []
rows-homes = refl

homes_instance : IsInstance homes
homes_instance = record {
  teams = record { even = refl; at_least = omega arith; at_most = omega arith };
  few = omega arith;
  fit = All-from_recursion (λ (c : Constraint). IsTrue (class_fits 2 c.class)) homes.constraints (refl, tt);
}

-- row 29 forces both, and then row 26 is in conflict
abbrev pub log : List Step
log = Clause [] (29 ∷ 26 ∷ []) ∷ []

-- `0 29 26 0` has 9 bytes
short_log : length (step_text One (Clause [] (29 ∷ 26 ∷ []))) ≤ 16777216
unfolding digits
short_log = lit≤ tt

pub writable-log : IsWritable log
writable-log = record {
  named = All-from_recursion NamesRows log (
    All-from_recursion (λ (hint : ℕ). 1 ≤ hint) (29 ∷ 26 ∷ []) (omega arith, (omega arith, tt)),
    tt,
  );
  short = All-from_recursion (λ (step : Step). length (step_text (version_of log) step) ≤ 16777216) log (short_log, tt);
}

pub refutes-homes : RefutesLeague homes log
refutes-homes = record {
  accepted = refl;
  none = accepted_logs_exclude homes log homes_instance refl;
  writable = writable-log;
}

accepted_or : (steps : ℕ) → Rejected steps NoConflict ≡ Accepted → ⊥
accepted_or steps is = cc

accepted_empty : Rejected 0 NoEmptyClause ≡ Accepted → ⊥
accepted_empty is = cc

-- at home in one of them, as each team is: the row forces nothing
pub refutes-once : RefutesLeague (two_with (hard (Ca1 (0 ∷ []) 1 1 H (0 ∷ 1 ∷ [])) ∷ [])) log → ⊥
refutes-once is = accepted_or 1 is.accepted

-- a log of no steps refutes nothing
pub refutes-no_steps : (league : Instance) → RefutesLeague league [] → ⊥
refutes-no_steps league is = accepted_empty is.accepted

-- a league that accepts a season is refuted by none
pub refutes-wishful : (steps : List Step) → RefutesLeague wishful steps → ⊥
refutes-wishful steps is = is.none home accepted_home

-- ---- a sum can be written, in version 2, as `l 2 29 1 26 0 2`, unless it names no row

abbrev twice : Part
twice = record { factor = 2; row = 29 }

abbrev once : ℕ → Part
once number = record { factor = 1; row = number }

abbrev sum : Step
sum = Linear (twice ∷ once 26 ∷ []) 2

short_sum : length (step_text Two sum) ≤ 16777216
unfolding digits
short_sum = lit≤ tt

pub writable-sum : IsWritable (sum ∷ [])
writable-sum = record {
  named = All-from_recursion NamesRows (sum ∷ []) (
    All-from_recursion (λ (part : Part). 1 ≤ part.row) (twice ∷ once 26 ∷ []) (omega arith, (omega arith, tt)),
    tt,
  );
  short = All-from_recursion (λ (step : Step). length (step_text (version_of (sum ∷ [])) step) ≤ 16777216) (sum ∷ [])
      (short_sum, tt);
}

none_named : 1 ≤ 0 → ⊥
none_named is = omega (arith, is)

pub writable-no_row : IsWritable (Linear (twice ∷ once 0 ∷ []) 2 ∷ []) → ⊥
writable-no_row is = none_named (is.named 0 sum (lit< tt) 1 twice (lit< tt))

-- ---- spent: rows of two literals force nothing where nothing is known

quiet_two : (l m : Literal) → reach all_free (at_least 1 (l ∷ m ∷ [])).terms ≡ 2
    → IsQuietRow all_free (at_least 1 (l ∷ m ∷ []))
quiet_two l m two = record { no_conflict = omega (arith, two); none_forced = λ k d within. slack k d within two } where
  slack : (k : ℕ) (d : Term) → k < 2 → reach all_free (at_least 1 (l ∷ m ∷ [])).terms ≡ 2
      → value_of all_free (get_or (at_least 1 (l ∷ m ∷ [])).terms k d).lit ≡ Free
      → 1 + (get_or (at_least 1 (l ∷ m ∷ [])).terms k d).coef ≤ reach all_free (at_least 1 (l ∷ m ∷ [])).terms
  slack zero d within two free = omega (arith, two)
  slack (suc zero) d within two free = omega (arith, two)
  slack (suc (suc k)) d within two free = absurd (omega arith)

quiet_signed : (v w : ℕ) (a b : Bool)
    → IsQuietRow all_free (at_least 1 (record { var = v; positive = a } ∷ record { var = w; positive = b } ∷ []))
quiet_signed v w true true = quiet_two (yes v) (yes w) refl
quiet_signed v w true false = quiet_two (yes v) (no w) refl
quiet_signed v w false true = quiet_two (no v) (yes w) refl
quiet_signed v w false false = quiet_two (no v) (no w) refl

abbrev pub pair_row : Literal × Literal → Row
pair_row p = at_least 1 (p.0 ∷ p.1 ∷ [])

pub quiet_pairs : (pairs : List (Literal × Literal)) → IsQuiet all_free (map pair_row pairs)
quiet_pairs [] = All-nil (IsQuietRow all_free)
quiet_pairs (p ∷ pairs) =
    All-cons (IsQuietRow all_free) (pair_row p) (map pair_row pairs)
    (quiet_signed p.0.var p.1.var p.0.positive p.1.positive) (quiet_pairs pairs)

-- exactly one of two variables is true, or both say the same
abbrev pub one_of : ℕ → ℕ → List (Literal × Literal)
one_of v w = (yes v, yes w) ∷ (no v, no w) ∷ []

abbrev pub same : ℕ → ℕ → List (Literal × Literal)
same v w = (yes v, no w) ∷ (no v, yes w) ∷ []

-- the patterns: in each slot one team is at home, and each team once
abbrev pub pattern_pairs : List (Literal × Literal)
pattern_pairs = one_of 5 7 ++ (one_of 6 8 ++ (one_of 5 6 ++ one_of 7 8))

-- each meeting takes place in one of two slots; each team has in each slot a game at home or away; and the venues
abbrev pub season_pairs : List (Literal × Literal)
season_pairs =
    one_of 1 2 ++ (one_of 3 4
    ++ (one_of 1 3 ++ (one_of 2 4 ++ (one_of 1 3 ++ (one_of 2 4
    ++ (same 1 5 ++ (same 2 6 ++ (same 3 7 ++ (same 4 8 ++ pattern_pairs)))))))))

pub rows-season : rows_of (two_with []) ≡ map pair_row season_pairs
rows-season = refl

-- one of their two games is in slot 1, which always is so
abbrev pub one_there : Instance
one_there = two_with (hard (Ga1 ((0, 1) ∷ (1, 0) ∷ []) 1 1 (1 ∷ [])) ∷ [])

pub rows-one_there : (rows_of one_there ≡ map pair_row (season_pairs ++ one_of 2 4))
    × (pattern_rows one_there ≡ map pair_row pattern_pairs)
rows-one_there = (refl, refl)

-- a log of no steps can be written
pub writable-none : IsWritable []
writable-none = record {
  named = All-nil NamesRows;
  short = All-nil (λ (step : Step). length (step_text (version_of []) step) ≤ 16777216);
}

-- at the limit 0 the log without steps is spent, and 0 is below 3 to the 8
pub spent-one_there : IsSpentOn one_there (Some 0) []
spent-one_there =
    plain_spent one_there (Some 0) [] writable-none (record {
      limited = refl;
      spent = record {
        count = refl;
        news = AreNews-none _ _;
        quiet = (all_free, quiet_pairs (season_pairs ++ one_of 2 4));
      };
      few = lit< tt;
      tidy = All-nil (IsTidy 8);
    })

-- where propagation alone refutes the rows, no log without steps is spent: no values are quiet on rows 29 and 26
abbrev counts_for : Value → ℕ
counts_for value = if is_false value then 0 else 1

never_both : (a b : Value) → 2 ≤ 0 + counts_for a + counts_for b
    → (a ≡ Free → 3 ≤ 0 + counts_for a + counts_for b) → (b ≡ Free → 3 ≤ 0 + counts_for a + counts_for b)
    → 1 ≤ 0 + counts_for (opposite_of a) + counts_for (opposite_of b) → ⊥
never_both True True two first second one = omega (arith, one)
never_both True False two first second one = omega (arith, two)
never_both True Free two first second one = omega (arith, second refl)
never_both False True two first second one = omega (arith, two)
never_both False False two first second one = omega (arith, two)
never_both False Free two first second one = omega (arith, two)
never_both Free True two first second one = omega (arith, first refl)
never_both Free False two first second one = omega (arith, first refl)
never_both Free Free two first second one = omega (arith, first refl)

never_quiet : (values : ℕ → Value) → IsQuietRow values (at_least 2 (yes 5 ∷ yes 6 ∷ []))
    → IsQuietRow values (at_least 1 (no 5 ∷ no 6 ∷ [])) → ⊥
never_quiet values homes once =
    let some : Term = record { coef = 1; lit = yes 5 } in
    never_both (values 5) (values 6) homes.no_conflict (homes.none_forced 0 some (lit< tt))
    (homes.none_forced 1 some (lit< tt)) once.no_conflict

pub spent-homes : (limit : Option ℕ) → IsSpentOn homes limit [] → ⊥
spent-homes limit is =
    let values : ℕ → Value = is.spent.spent.quiet.0 in
    let quiet : IsQuiet values (rows_of homes) =
    subst (λ (rows : List Row). IsQuiet values rows) (more-plain homes [] is.log refl)
    (All-front (IsQuietRow values) is.log.behind.more _ is.spent.spent.quiet.1) in
    never_quiet values (quiet 28 (at_least 0 []) (lit< tt)) (quiet 25 (at_least 0 []) (lit< tt))

-- no log is spent at another limit, or one of as many steps as 3 to the 8
some_one : ◌≡◌ {A = Option ℕ} (Some 1) (Some 0) → ⊥
some_one is = let same : ◌≡◌ {A = ℕ} 1 0 = cc in omega (arith, same)

pub spent-one : IsSpentOn one_there (Some 1) [] → ⊥
spent-one is =
    some_one (subst (λ (steps : List Step). ◌≡◌ {A = Option ℕ} (Some 1) (Some (length steps))) (search-plain one_there [] is.log refl)
    is.spent.limited)

too_many : (steps : ℕ) → 6561 ≤ steps → steps < 6561 → ⊥
too_many steps many few = omega (arith, many, few)

pub spent-many : (limit : Option ℕ) (steps : List Step) → 6561 ≤ length steps → IsSpentOn one_there limit steps → ⊥
spent-many limit steps many is =
    too_many (length steps) many
    (subst (λ (search : List Step). length search < 6561) (search-plain one_there steps is.log refl) is.spent.few)

-- no log is spent that speaks of a ninth variable
nine_eight : 9 ≤ 8 → ⊥
nine_eight is = omega (arith, is)

pub spent-ninth : (limit : Option ℕ) (hints : List ℕ) → IsSpentOn one_there limit (Clause (yes 9 ∷ []) hints ∷ []) → ⊥
spent-ninth limit hints is =
    let steps : List Step = Clause (yes 9 ∷ []) hints ∷ [] in
    let tidy : All (IsTidy 8) steps =
    subst (λ (search : List Step). All (IsTidy 8) search) (search-plain one_there steps is.log refl) is.spent.tidy in
    nine_eight ((tidy 0 (Clause [] []) (lit< tt)).known 0 (yes 9) (lit< tt))
