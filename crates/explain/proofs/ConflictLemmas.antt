-- What is said of a conflict at the end.
use Rattle.std.proofs.Common.{◌≡◌, ℕ, ◌<◌, ◌≤◌, ◌^◌, ◌==◌, not, true, false, List, [], ◌∷◌, ◌++◌, length}
use Rattle.std.proofs.Common.{Option, Some, None, inl, inr, refl, sym, subst, arith}
use Rattle.std.specs.Prelude.{IfOk, IfSome, Result, Ok, Err}
use Rattle.std.specs.List.{All, AllZip}
use Rattle.std.specs.Option.{option_to_list}
use Rattle.std.proofs.Math.Nat.{pow-le-pow_right}
use Rattle.std.proofs.lemmas.List.Elements.{All-cons, All-head, All-nil, All-tail}
use Rattle.league.specs.Instance.{Instance, IsInstance}
use Rattle.league.specs.declared.game.Game.{Game}
use Rattle.circle_method.specs.Circle.{double_games}
use Rattle.encoding.specs.Variables.{var_count}
use Rattle.explain.specs.Parts.{part_of, without}
use Rattle.refutation.specs.Steps.{Step}
use Rattle.robin_watch.proofs.LimitLemmas.{kept-unstopped}
use Rattle.solve.specs.Solutions.{IsSpentOn, RefutesLeague}
use Rattle.explain.specs.Cases.{is_decided}
use Rattle.explain.specs.Conflicts.{AreDecided, IsAmple, IsCase, IsConflict, IsDecided, IsExplanation, IsIrreducible}
use Rattle.explain.specs.Conflicts.{IsIrreducibleIfDecided, IsOpenLog, IsSeason, IsSpentBy}
use Rattle.explain.specs.Standings.{AreClosed, IsExplained, cases_of, is_open, is_open_case, numbers_of, said_of}
use Rattle.explain.specs.declared.cases.Case.{Case}
use Rattle.explain.specs.declared.cases.Case.TheVariants.{Without, Undecided}
use Rattle.explain.specs.declared.explained.Explained.{Explained}
use Rattle.explain.specs.declared.member.Contradiction.{Contradiction}
use Rattle.explain.specs.declared.member.Member.{Member}
use Rattle.explain.proofs.PartLaws.{fewer_vars, none_accepts}

-- ---- a case for each member

put_case : (league : Instance) (limit : Option ℕ) (may_stop : Type 0) (whole : List ℕ) (k : ℕ) (case : Option Case) (numbers : List ℕ)
    (cases : List Case) → is_open_case case ≡ false → IfSome case (IsCase league limit may_stop whole k)
    → AllZip (IsCase league limit may_stop whole) numbers cases
    → AllZip (IsCase league limit may_stop whole) (k ∷ numbers) (option_to_list case ++ cases)
put_case league limit may_stop whole k None numbers cases closed known later = absurd (cc)
put_case league limit may_stop whole k (Some case) numbers cases closed known later = (known, later)

each_case : (league : Instance) (limit : Option ℕ) (may_stop : Type 0) (whole : List ℕ) (members : List Member) → AreClosed members
    → All (λ m. IfSome m.case (IsCase league limit may_stop whole m.number)) members
    → AllZip (IsCase league limit may_stop whole) (numbers_of members) (cases_of members)
each_case league limit may_stop whole [] closed known = tt
each_case league limit may_stop whole (m ∷ members) closed known =
    put_case league limit may_stop whole m.number m.case (numbers_of members) (cases_of members)
    (All-head (λ (x : Member). is_open x ≡ false) m members closed)
    (All-head (λ (x : Member). IfSome x.case (IsCase league limit may_stop whole x.number)) m members known)
    (each_case league limit may_stop whole members (All-tail (λ (x : Member). is_open x ≡ false) m members closed)
    (All-tail (λ (x : Member). IfSome x.case (IsCase league limit may_stop whole x.number)) m members known))

-- ---- some member is there: the league of no constraint has a schedule

some_member : (league : Instance) (members : List ℕ) (log : List Step) → IsInstance league
    → RefutesLeague (part_of league members) log → 0 < length members
some_member league [] log instance is =
    absurd (is.none (double_games league.n) (none_accepts league instance.teams))
some_member league (k ∷ members) log instance is = omega arith

pub is_conflict : (league : Instance) (limit : Option ℕ) (may_stop : Type 0) (members : List Member) (log : List Step)
    → IsInstance league → IsExplained league limit may_stop members log → AreClosed members
    → IsConflict league limit may_stop (numbers_of members) log (cases_of members)
is_conflict league limit may_stop members log instance is closed = record {
  some = some_member league (numbers_of members) log instance is.refuted;
  ascending = is.ascending;
  hard = is.hard;
  refuted = is.refuted;
  each = each_case league limit may_stop (numbers_of members) members closed is.known;
}

-- ---- where each case is a schedule

all_needed : (league : Instance) (limit : Option ℕ) (may_stop : Type 0) (whole numbers : List ℕ) (cases : List Case)
    → AllZip (IsCase league limit may_stop whole) numbers cases → AreDecided cases
    → All (λ k. (games : List Game) × IsSeason (part_of league (without k whole)) games) numbers
all_needed league limit may_stop whole [] cases said decided =
    All-nil (λ (k : ℕ). (games : List Game) × IsSeason (part_of league (without k whole)) games)
all_needed league limit may_stop whole (k ∷ numbers) [] said decided = absurd said
all_needed league limit may_stop whole (k ∷ numbers) (Without games ∷ cases) said decided =
    All-cons (λ (k : ℕ). (games : List Game) × IsSeason (part_of league (without k whole)) games) k
    numbers (games, said.0)
    (all_needed league limit may_stop whole numbers cases said.1
    (All-tail (λ case. is_decided case ≡ true) (Without games) cases decided))
all_needed league limit may_stop whole (k ∷ numbers) (Undecided log ∷ cases) said decided =
    absurd (let wrong : false ≡ true = All-head (λ case. is_decided case ≡ true) (Undecided log) cases decided in cc)

pub is_irreducible : (league : Instance) (limit : Option ℕ) (may_stop : Type 0) (members : List ℕ) (log : List Step) (cases : List Case)
    → IsConflict league limit may_stop members log cases → AreDecided cases → IsIrreducible league members
is_irreducible league limit may_stop members log cases is decided = record {
  infeasible = is.refuted.none;
  needed = all_needed league limit may_stop members members cases is.each decided;
}

-- ---- an ample limit isn't spent

too_few : (limit : ℕ) (steps : ℕ) (vars : ℕ) (most : ℕ) → limit ≡ steps → steps < 3 ^ vars → vars ≤ most
    → 3 ^ most ≤ limit → ⊥
too_few limit steps vars most same few fewer ample =
    let powers : 3 ^ vars ≤ 3 ^ most = pow-le-pow_right {n = 3} (omega arith) fewer in
    omega (arith, same, few, powers, ample)

some_same : (a b : ℕ) → ◌≡◌ {A = Option ℕ} (Some a) (Some b) → a ≡ b
some_same a b is = cc

none_some : (a : ℕ) → ◌≡◌ {A = Option ℕ} None (Some a) → ⊥
none_some a is = cc

not_spent : (league : Instance) (vars : ℕ) (limit : Option ℕ) (log : List Step) → IsAmple vars limit
    → var_count league ≤ vars → IsSpentOn league limit log → ⊥
not_spent league vars None log ample few is = none_some (length is.log.behind.search) is.spent.limited
not_spent league vars (Some limit) log ample few is =
    too_few limit (length is.log.behind.search) (var_count league) vars
    (some_same limit (length is.log.behind.search) is.spent.limited) is.spent.few few ample

-- nor is it where nothing may stop the run
pub not_spent_by : (league : Instance) (vars : ℕ) (limit : Option ℕ) (may_stop : Type 0) (log : List Step)
    → (may_stop → ⊥) → IsAmple vars limit → var_count league ≤ vars → IsSpentBy league limit may_stop log → ⊥
not_spent_by league vars limit may_stop log never ample few is =
    not_spent league vars limit log ample few
    (subst (λ (kept : Option ℕ). IsSpentOn league kept log)
    (kept-unstopped limit may_stop is.kept never is.is_kept) is.spent)

not_open : (league : Instance) (vars : ℕ) (limit : Option ℕ) (may_stop : Type 0) (log : List Step)
    → (may_stop → ⊥) → IsAmple vars limit → var_count league ≤ vars → IsOpenLog league limit may_stop log → ⊥
not_open league vars limit may_stop log never ample few (inl is) =
    not_spent_by league vars limit may_stop log never ample few is
not_open league vars limit may_stop log never ample few (inr untried) = never untried.0

all_decided : (league : Instance) (limit : Option ℕ) (may_stop : Type 0) (whole numbers : List ℕ) (cases : List Case) (vars : ℕ)
    → (may_stop → ⊥) → IsAmple vars limit → var_count (part_of league whole) ≤ vars
    → AllZip (IsCase league limit may_stop whole) numbers cases → AreDecided cases
all_decided league limit may_stop whole [] [] vars never ample few said = All-nil (λ case. is_decided case ≡ true)
all_decided league limit may_stop whole [] (case ∷ cases) vars never ample few said = absurd said
all_decided league limit may_stop whole (k ∷ numbers) [] vars never ample few said = absurd said
all_decided league limit may_stop whole (k ∷ numbers) (Without games ∷ cases) vars never ample few said =
    All-cons (λ case. is_decided case ≡ true) (Without games) cases refl
    (all_decided league limit may_stop whole numbers cases vars never ample few said.1)
all_decided league limit may_stop whole (k ∷ numbers) (Undecided log ∷ cases) vars never ample few said =
    absurd
    (not_open (part_of league (without k whole)) vars limit may_stop log never ample
    (omega (arith, fewer_vars league (λ j. not (j == k)) whole, few)) said.0)

-- ---- the answer

pub said_explanation : (league : Instance) (limit : Option ℕ) (may_stop : Type 0) (least : Contradiction) → IsInstance league
    → IsExplained league limit may_stop least.members.items least.log → AreClosed least.members.items
    → IsExplanation league limit may_stop (said_of least)
said_explanation league limit may_stop least instance is closed =
    is_conflict league limit may_stop least.members.items least.log instance is closed

pub said_irreducible : (league : Instance) (limit : Option ℕ) (may_stop : Type 0) (least : Contradiction) → IsInstance league
    → IsExplained league limit may_stop least.members.items least.log → AreClosed least.members.items
    → IsIrreducibleIfDecided league (said_of least)
said_irreducible league limit may_stop least instance is closed decided =
    is_irreducible league limit may_stop (numbers_of least.members.items) least.log (cases_of least.members.items)
    (is_conflict league limit may_stop least.members.items least.log instance is closed) decided

pub said_decided : (league : Instance) (limit : Option ℕ) (may_stop : Type 0) (least : Contradiction)
    → IsExplained league limit may_stop least.members.items least.log → AreClosed least.members.items
    → (may_stop → ⊥) → IsAmple (var_count league) limit → IsDecided (said_of least)
said_decided league limit may_stop least is closed never ample =
    all_decided league limit may_stop (numbers_of least.members.items) (numbers_of least.members.items)
    (cases_of least.members.items) (var_count league) never ample is.few
    (each_case league limit may_stop (numbers_of least.members.items) least.members.items closed is.known)

pub said_so : {E : Type 0} (P : Explained → Type 0) (result : Result Explained E) (value : Explained)
    → IfOk result (λ explained. explained ≡ value) → P value → IfOk result P
said_so {E} P (Ok explained) value is holds = subst P (sym is) holds
said_so {E} P (Err error) value is holds = tt
