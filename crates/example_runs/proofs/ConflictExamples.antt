-- A phased league of two teams with a wish (number 1) and three demands: team 0 isn't away in slot 0 (2); each team is
-- at home once, as it always is (3); and team 1 is at home to team 0 in slot 0 (4). Constraints 2 and 4 contradict each
-- other. x(0,1,s) is 1 + s, x(1,0,s) 3 + s, h(0,s) 5 + s, and h(1,s) 7 + s.
use Rattle.clause_search.proofs.SearchLemmas.{AreNews-none}
use Rattle.std.proofs.Common.{lit<, lit≤, ◌≡◌, ℕ, ◌≤◌, true, List, [], ◌∷◌, drop, length}
use Rattle.std.proofs.Common.{Option, Some, None, IsTrue}
use Rattle.std.proofs.Common.{inl, inr, refl, sym, ◌∙◌, arith}
use Rattle.std.proofs.lemmas.List.Elements.{All-from_recursion, All-nil}
use Rattle.std.specs.Fmt.{digits}
use Rattle.std.specs.Ordering.{nat_cmp}
use Rattle.std.specs.declared.cmp.Ordering.TheVariants.{Less, Greater}
use Rattle.league.specs.Accepted.{IsAccepted}
use Rattle.league.specs.Counts.{counts_of}
use Rattle.league.specs.Instance.{Instance, IsInstance, class_fits}
use Rattle.league.specs.declared.class.Class.TheVariants.{Ca1, Ca2, Fa2, Se1}
use Rattle.league.specs.declared.class.Constraint.{Constraint}
use Rattle.league.specs.declared.class.Side.TheVariants.{A, H}
use Rattle.league.specs.declared.game.Game.{Game}
use Rattle.league.proofs.AcceptedLemmas.{MeetsHard-from_sum, sum-from_MeetsHard}
use Rattle.league.proofs.AscendingLemmas.{IsAscending-ascends}
use Rattle.rows.specs.Cardinality.{at_least}
use Rattle.rows.specs.Literals.{yes, no}
use Rattle.encoding.specs.Encoding.{rows_of}
use Rattle.refutation.specs.Following.{all_free}
use Rattle.refutation.specs.Steps.{NamesRows, Step}
use Rattle.refutation.specs.Steps.Step.{Clause}
use Rattle.refutation.specs.Texts.{step_text, version_of}
use Rattle.refutation.specs.declared.version.Version.TheVariants.{One}
use Rattle.clause_search.specs.News.{IsTidy}
use Rattle.decoding.specs.Excluded.{NoneAccepted}
use Rattle.decoding.proofs.SeasonLemmas.{accepted_logs_exclude}
use Rattle.explain.specs.Parts.{is_hard_number, part_of, without}
use Rattle.robin_watch.proofs.LimitLemmas.{kept-unstopped}
use Rattle.solve.specs.Solutions.{IsSpentOn, IsWritable, RefutesLeague}
use Rattle.league_search.proofs.FoundLemmas.{plain_spent}
use Rattle.explain.specs.Cases.{is_decided}
use Rattle.explain.specs.Conflicts.{AreDecided, HasConflict, HasSchedule, IsAmple, IsCase, IsConflict, IsDecided}
use Rattle.explain.specs.Conflicts.{IsExplanation, IsIrreducible, IsIrreducibleIfDecided, IsSeason, IsSpentBy}
use Rattle.explain.specs.declared.cases.Case.{Case}
use Rattle.explain.specs.declared.cases.Case.TheVariants.{Without, Undecided}
use Rattle.explain.specs.declared.explained.Explained.TheVariants as explained
use Rattle.example_runs.proofs.SolveExamples.{false_true, fits_home, fits_out, hard, home, ordered_home, ordered_out}
use Rattle.example_runs.proofs.SolveExamples.{out, quiet_pairs, refutes-no_steps}
use Rattle.example_runs.proofs.SolveExamples.{season_pairs, soft, two_with, writable-none}

-- after slot 0 one team has a home game more than the other, which costs 3 in either season
abbrev pub wish : Constraint
wish = soft 3 (Fa2 (0 ∷ 1 ∷ []) 0 (0 ∷ []))

abbrev pub stays : Constraint
stays = hard (Ca1 (0 ∷ []) 0 0 A (0 ∷ []))

abbrev once : Constraint
once = hard (Ca1 (0 ∷ 1 ∷ []) 1 1 H (0 ∷ 1 ∷ []))

abbrev visits : Constraint
visits = hard (Ca2 (1 ∷ []) (0 ∷ []) 1 1 H (0 ∷ []))

abbrev pub phased : List Constraint → Instance
phased constraints = record { n = 2; phased = true; constraints = constraints }

abbrev pub league : Instance
league = phased (wish ∷ stays ∷ once ∷ visits ∷ [])

abbrev pub members : List ℕ
members = 2 ∷ 4 ∷ []

-- ---- the log: rows 31 and 32 are the demands', by row 20 team 1 then is at home, and by row 24 only one team is

pub rows-both : drop 30 (rows_of (part_of league members)) ≡ at_least 1 (yes 5 ∷ []) ∷ at_least 1 (yes 3 ∷ []) ∷ []
rows-both = refl

abbrev pub log : List Step
log = Clause [] (31 ∷ 32 ∷ 20 ∷ 24 ∷ []) ∷ []

both_instance : IsInstance (part_of league members)
both_instance = record {
  teams = record { even = refl; at_least = omega arith; at_most = omega arith };
  few = omega arith;
  fit = All-from_recursion (λ (c : Constraint). IsTrue (class_fits 2 c.class)) (stays ∷ visits ∷ []) (refl, (refl, tt));
}

short_log : length (step_text One (Clause [] (31 ∷ 32 ∷ 20 ∷ 24 ∷ []))) ≤ 16777216
unfolding digits
short_log = lit≤ tt

writable-log : IsWritable log
writable-log = record {
  named = All-from_recursion NamesRows log (
    All-from_recursion (λ (hint : ℕ). 1 ≤ hint) (31 ∷ 32 ∷ 20 ∷ 24 ∷ [])
        (omega arith, (omega arith, (omega arith, (omega arith, tt)))),
    tt,
  );
  short = All-from_recursion (λ (step : Step). length (step_text (version_of log) step) ≤ 16777216) log (short_log, tt);
}

pub none-both : NoneAccepted (part_of league members)
none-both = accepted_logs_exclude (part_of league members) log both_instance refl

refutes-both : RefutesLeague (part_of league members) log
refutes-both = record { accepted = refl; none = none-both; writable = writable-log }

-- ---- seasons: without 2 team 1 is at home first, and without 4 team 0 is

pub season-home : IsSeason (part_of league (without 2 members)) home
season-home = record {
  accepted = record {
    round_robin = record { pairs = refl; cells = refl; phases = refl };
    hard = MeetsHard-from_sum (part_of league (4 ∷ [])) (counts_of home) refl;
  };
  fit = fits_home;
  in_order = ordered_home;
}

pub season-out : IsSeason (part_of league (without 4 members)) out
season-out = record {
  accepted = record {
    round_robin = record { pairs = refl; cells = refl; phases = refl };
    hard = MeetsHard-from_sum (part_of league (2 ∷ [])) (counts_of out) refl;
  };
  fit = fits_out;
  in_order = ordered_out;
}

-- `home` has team 0 away in slot 0, at a deviation of 1
pub some_left : ◌≡◌ {A = ℕ} 1 0 → ⊥
some_left is = omega (arith, is)

stays_away : IsAccepted (part_of league (2 ∷ [])) (counts_of home) → ⊥
stays_away accepted = some_left (sum-from_MeetsHard (part_of league (2 ∷ [])) (counts_of home) accepted.hard)

pub season-away : IsSeason (part_of league (without 4 members)) home → ⊥
season-away is = stays_away is.accepted

pub case-home : IsCase league None ⊥ members 2 (Without home)
case-home = season-home

-- ---- the conflict, whatever the limit, and whether the run may be stopped or not

abbrev pub cases : List Case
cases = Without home ∷ Without out ∷ []

pub conflict-both : (limit : Option ℕ) (may_stop : Type 0) → IsConflict league limit may_stop members log cases
conflict-both limit may_stop = record {
  some = lit< tt;
  ascending = IsAscending-ascends nat_cmp members refl;
  hard = All-from_recursion (λ (k : ℕ). is_hard_number league.constraints k ≡ true) members (refl, (refl, tt));
  refuted = refutes-both;
  each = (season-home, (season-out, tt));
}

pub decided-both : AreDecided cases
decided-both = All-from_recursion (λ (case : Case). is_decided case ≡ true) cases (refl, (refl, tt))

pub irreducible-both : IsIrreducible league members
irreducible-both = record {
  infeasible = none-both;
  needed = All-from_recursion
      (λ (k : ℕ). (games : List Game) × IsSeason (part_of league (without k members)) games) members
      ((home, season-home), ((out, season-out), tt));
}

-- the cases come in the order of the members
pub conflict-crossed : (limit : Option ℕ) (may_stop : Type 0)
    → IsConflict league limit may_stop members log (Without out ∷ Without home ∷ []) → ⊥
conflict-crossed limit may_stop is = season-away is.each.1.0

-- the members ascend
greater_less : Greater ≡ Less → ⊥
greater_less is = cc

pub conflict-descending : (limit : Option ℕ) (may_stop : Type 0)
    → IsConflict league limit may_stop (4 ∷ 2 ∷ []) log cases → ⊥
conflict-descending limit may_stop is = greater_less (is.ascending 0 1 0 (lit< tt) (lit< tt))

-- a wish is no member of a conflict
pub conflict-wish : (limit : Option ℕ) (may_stop : Type 0) (steps : List Step) (others : List ℕ) (known : List Case)
    → IsConflict league limit may_stop (1 ∷ others) steps known → ⊥
conflict-wish limit may_stop steps others known is = false_true (is.hard 0 0 is.some)

-- a log without steps doesn't refute the members
pub conflict-no_steps : (limit : Option ℕ) (may_stop : Type 0) (known : List Case)
    → IsConflict league limit may_stop members [] known → ⊥
conflict-no_steps limit may_stop known is = refutes-no_steps (part_of league members) is.refuted

-- with constraint 3 no season meets them either, but it isn't needed
more_instance : IsInstance (part_of league (2 ∷ 3 ∷ 4 ∷ []))
more_instance = record {
  teams = record { even = refl; at_least = omega arith; at_most = omega arith };
  few = omega arith;
  fit = All-from_recursion (λ (c : Constraint). IsTrue (class_fits 2 c.class)) (stays ∷ once ∷ visits ∷ [])
      (refl, (refl, (refl, tt)));
}

-- the rows of constraint 3 are 32 to 35
pub none-more : NoneAccepted (part_of league (2 ∷ 3 ∷ 4 ∷ []))
none-more =
    accepted_logs_exclude (part_of league (2 ∷ 3 ∷ 4 ∷ [])) (Clause [] (31 ∷ 36 ∷ 20 ∷ 24 ∷ []) ∷ []) more_instance refl

pub irreducible-more : IsIrreducible league (2 ∷ 3 ∷ 4 ∷ []) → ⊥
irreducible-more is = none-both (is.needed 1 0 (lit< tt)).0 (is.needed 1 0 (lit< tt)).1.accepted

-- ---- a conflict of one demand, of which nothing was found out: a slot between the two games of two teams

abbrev pub apart : Instance
apart = two_with (hard (Se1 (0 ∷ 1 ∷ []) 1) ∷ [])

-- row 29 is the demand's: at most one game
pub rows-apart : drop 28 (rows_of apart) ≡ at_least 3 (no 1 ∷ no 2 ∷ no 3 ∷ no 4 ∷ []) ∷ []
rows-apart = refl

-- where 1 is true there is no other, against row 3; so it is false (row 30), by row 1 then 2 is true, and again there
-- is no other
abbrev pub alone : List Step
alone = Clause (no 1 ∷ []) (29 ∷ 3 ∷ []) ∷ Clause [] (30 ∷ 1 ∷ 29 ∷ 3 ∷ []) ∷ []

apart_instance : IsInstance apart
apart_instance = record {
  teams = record { even = refl; at_least = omega arith; at_most = omega arith };
  few = omega arith;
  fit = All-from_recursion (λ (c : Constraint). IsTrue (class_fits 2 c.class)) apart.constraints (refl, tt);
}

short_alone : (length (step_text One (Clause (no 1 ∷ []) (29 ∷ 3 ∷ []))) ≤ 16777216)
    × (length (step_text One (Clause [] (30 ∷ 1 ∷ 29 ∷ 3 ∷ []))) ≤ 16777216)
unfolding digits
short_alone = (lit≤ tt, lit≤ tt)

pub writable-alone : IsWritable alone
writable-alone = record {
  named = All-from_recursion NamesRows alone (
    All-from_recursion (λ (hint : ℕ). 1 ≤ hint) (29 ∷ 3 ∷ []) (omega arith, (omega arith, tt)),
    (
      All-from_recursion (λ (hint : ℕ). 1 ≤ hint) (30 ∷ 1 ∷ 29 ∷ 3 ∷ [])
          (omega arith, (omega arith, (omega arith, (omega arith, tt)))),
      tt,
    ),
  );
  short = All-from_recursion (λ (step : Step). length (step_text (version_of alone) step) ≤ 16777216) alone
      (short_alone.0, (short_alone.1, tt));
}

pub none-apart : NoneAccepted apart
none-apart = accepted_logs_exclude apart alone apart_instance refl

pub refutes-apart : RefutesLeague (part_of apart (1 ∷ [])) alone
refutes-apart = record {
  accepted = refl;
  none = none-apart;
  writable = writable-alone;
}

-- without it propagation stands still before it begins: the league of no demand
spent_bare : IsSpentOn (two_with []) (Some 0) []
spent_bare =
    plain_spent (two_with []) (Some 0) [] writable-none (record {
      limited = refl;
      spent = record { count = refl; news = AreNews-none _ _; quiet = (all_free, quiet_pairs season_pairs) };
      few = lit< tt;
      tidy = All-nil (IsTidy 8);
    })

spent_by_bare : IsSpentBy (two_with []) (Some 0) ⊥ []
spent_by_bare = record { kept = Some 0; is_kept = inl refl; spent = spent_bare }

pub case-open : IsCase apart (Some 0) ⊥ (1 ∷ []) 1 (Undecided [])
case-open = inl spent_by_bare

pub conflict-open : IsConflict apart (Some 0) ⊥ (1 ∷ []) alone (Undecided [] ∷ [])
conflict-open = record {
  some = lit< tt;
  ascending = IsAscending-ascends nat_cmp (1 ∷ []) refl;
  hard = All-from_recursion (λ (k : ℕ). is_hard_number apart.constraints k ≡ true) (1 ∷ []) (refl, tt);
  refuted = refutes-apart;
  each = (inl spent_by_bare, tt);
}

-- without a limit, and where nothing may stop the run, the case isn't one
none_some : (n : ℕ) → ◌≡◌ {A = Option ℕ} None (Some n) → ⊥
none_some n is = cc

pub case-unlimited : IsCase apart None ⊥ (1 ∷ []) 1 (Undecided []) → ⊥
case-unlimited (inl is) =
    none_some (length is.spent.log.behind.search)
    (sym (kept-unstopped None ⊥ is.kept (λ never. never) is.is_kept) ∙ is.spent.spent.limited)
case-unlimited (inr untried) = untried.0

-- where the run may be stopped it is: the others weren't tried
pub case-untried : IsCase apart None (Unit {0}) (1 ∷ []) 1 (Undecided [])
case-untried = inr (tt, refl)

pub decided-open : AreDecided (Undecided [] ∷ []) → ⊥
decided-open decided = false_true (decided 0 (Undecided []) (lit< tt))

-- ---- explanations

accepted_mild : IsAccepted (phased (wish ∷ [])) (counts_of out)
accepted_mild = record {
  round_robin = record { pairs = refl; cells = refl; phases = refl };
  hard = MeetsHard-from_sum (phased (wish ∷ [])) (counts_of out) refl;
}

pub season_mild : IsSeason (phased (wish ∷ [])) out
season_mild = record { accepted = accepted_mild; fit = fits_out; in_order = ordered_out }

pub explanation-met : IsExplanation (phased (wish ∷ [])) None ⊥ (explained.Met out 3)
explanation-met = (season_mild, refl)

pub explanation-conflict : IsExplanation league None ⊥ (explained.Conflict members log cases)
    × IsExplanation apart (Some 0) ⊥ (explained.Conflict (1 ∷ []) alone (Undecided [] ∷ []))
explanation-conflict = (conflict-both None ⊥, conflict-open)

pub explanation-spent : IsExplanation (two_with []) (Some 0) ⊥ (explained.Spent [])
explanation-spent = spent_by_bare

free_wish : ◌≡◌ {A = ℕ} 0 3 → ⊥
free_wish is = omega (arith, is)

pub explanation-free : IsExplanation (phased (wish ∷ [])) None ⊥ (explained.Met out 0) → ⊥
explanation-free is = free_wish is.1

-- a conflict whose cases are schedules is irreducible and leaves nothing open; one that isn't decided leaves it open
pub explained-decided : IsIrreducibleIfDecided league (explained.Conflict members log cases)
    × IsDecided (explained.Conflict members log cases)
    × (IsDecided (explained.Conflict (1 ∷ []) alone (Undecided [] ∷ [])) → ⊥)
explained-decided = (λ decided. irreducible-both, decided-both, decided-open)

pub explained-kinds : HasConflict (explained.Conflict members log cases) × HasSchedule (explained.Met out 3)
    × (HasSchedule (explained.Conflict members log cases) → ⊥) × (HasConflict (explained.Spent []) → ⊥)
    × (IsDecided (explained.Spent []) → ⊥)
explained-kinds = (tt, tt, λ has. has, λ has. has, λ is. is)

-- 3 to the 8 clauses are enough for eight variables, and any number is
pub ample-eight : IsAmple 8 None × IsAmple 8 (Some 6561)
ample-eight = (tt, lit≤ tt)

too_few : 6561 ≤ 6560 → ⊥
too_few few = omega (arith, few)

pub ample-less : IsAmple 8 (Some 6560) → ⊥
ample-less ample = too_few ample
