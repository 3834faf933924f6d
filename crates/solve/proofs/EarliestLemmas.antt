-- The best of what tries find, with one try more.
use Rattle.std.proofs.Common.{◌≡◌, ℕ, ◌+◌, Bool, ◌<◌, ◌≤◌, true, false, nat_lt, if◌then◌else◌, List, [], ◌∷◌, ◌++◌, get_or, length, map}
use Rattle.std.proofs.Common.{Option, None, Some, Result, Ok, Err, inl, inr, refl, arith, ap, sym, subst, ◌∙◌}
use Rattle.std.specs.Prelude.{IfOk, IfSome, IsNone}
use Rattle.std.specs.List.{All}
use Rattle.std.proofs.lemmas.Bool.{cases_lt}
use Rattle.std.proofs.lemmas.Bool.Decides.{nat_tests}
use Rattle.std.proofs.lemmas.List.{get_or_append_left, get_or_push, length-append, map_push}
use Rattle.std.proofs.lemmas.List.Elements.{All-append, All-cons, All-nil, All-push, All-weaker}
use Rattle.robin_watch.specs.declared.budgets.Budgets.{Budgets}
use Rattle.league.specs.Instance.{Instance}
use Rattle.refutation.specs.Steps.{Step}
use Rattle.solve.specs.Earliest.{IsBest, IsBestOf, IsBestOfTries, season_of, season_tried}
use Rattle.solve.specs.Solutions.{IsSolutionBy}
use Rattle.solve.specs.Tried.{IsTriedBy}
use Rattle.solve.specs.declared.lower.Season.{Season}
use Rattle.solve.specs.declared.solved.Solved.{Solved}
use Rattle.solve.specs.declared.solved.Solved.TheVariants as answers
use Rattle.solve.specs.declared.tries.Tried.{Tried}
use Rattle.solve.specs.declared.tries.Tried.TheVariants as tries

-- every schedule found costs at least so much, or more
abbrev AtLeast : ℕ → Option Season → Type 0
AtLeast k found = IfSome found (λ s. k ≤ s.objective)

abbrev MoreThan : ℕ → Option Season → Type 0
MoreThan k found = IfSome found (λ s. k < s.objective)

more-least : (k l : ℕ) (found : Option Season) → k < l → AtLeast l found → MoreThan k found
more-least k l None less at = tt
more-least k l (Some s) less at = omega (arith, less, at)

more-more : (k l : ℕ) (found : Option Season) → k ≤ l → MoreThan l found → MoreThan k found
more-more k l None less at = tt
more-more k l (Some s) less at = omega (arith, less, at)

none-more : (k : ℕ) (found : Option Season) → IsNone found → MoreThan k found
none-more k None none = tt
none-more k (Some s) none = absurd (cc)

append-push : {X : Type 0} (xs ys : List X) (x y : X) → (xs ++ x ∷ ys) ++ y ∷ [] ≡ xs ++ x ∷ (ys ++ y ∷ [])
append-push [] ys x y = refl
append-push (z ∷ xs) ys x y = ap (λ (l : List _). z ∷ l) (append-push xs ys x y)

-- a later schedule that doesn't cost less leaves the best
pub stays : (found : List (Option Season)) (best : Season) (later : Option Season) → AtLeast best.objective later
    → IsBestOf found (Some best) → IsBestOf (found ++ later ∷ []) (Some best)
stays found best later at is = record {
  before = is.before;
  after = is.after ++ later ∷ [];
  place = ap (λ (l : List (Option Season)). l ++ later ∷ []) is.place ∙ append-push is.before is.after (Some best) later;
  earlier = is.earlier;
  later = All-push (AtLeast best.objective) is.after later is.later at;
}

-- one that costs less is the best
pub lowers : (found : List (Option Season)) (best later : Season) → later.objective < best.objective
    → IsBestOf found (Some best) → IsBestOf (found ++ Some later ∷ []) (Some later)
lowers found best later less is = record {
  before = found;
  after = [];
  place = refl;
  earlier = subst (λ (l : List (Option Season)). All (MoreThan later.objective) l) (sym is.place)
      (All-append (MoreThan later.objective) is.before (Some best ∷ is.after)
      (All-weaker (MoreThan best.objective) (MoreThan later.objective)
      (λ o at. more-more later.objective best.objective o (omega (arith, less)) at) is.before is.earlier)
      (All-cons (MoreThan later.objective) (Some best) is.after less
      (All-weaker (AtLeast best.objective) (MoreThan later.objective)
      (λ o at. more-least later.objective best.objective o less at) is.after is.later)));
  later = All-nil (AtLeast later.objective);
}

-- the first one found is the best
pub comes : (found : List (Option Season)) (later : Season) → IsBestOf found None
    → IsBestOf (found ++ Some later ∷ []) (Some later)
comes found later none = record {
  before = found;
  after = [];
  place = refl;
  earlier = All-weaker IsNone (MoreThan later.objective) (λ o is. none-more later.objective o is) found none;
  later = All-nil (AtLeast later.objective);
}

-- none is found still
pub none-comes : (found : List (Option Season)) → IsBestOf found None → IsBestOf (found ++ None ∷ []) None
none-comes found none = All-push IsNone found None none refl

below-true : (a b : ℕ) → nat_lt a b ≡ true → a < b
below-true a b is = grind (arith, nat_tests)

below-false : (a b : ℕ) → nat_lt a b ≡ false → b ≤ a
below-false a b is = grind (arith, nat_tests)

chosen : (found : List (Option Season)) (best later : Season) (less : Bool)
    → (less ≡ true → later.objective < best.objective) → (less ≡ false → best.objective ≤ later.objective)
    → IsBestOf found (Some best) → IsBestOf (found ++ Some later ∷ []) (Some (if less then later else best))
chosen found best later true lower higher so_far = lowers found best later (lower refl) so_far
chosen found best later false lower higher so_far = stays found best (Some later) (higher refl) so_far

-- the lesser one of a schedule and a later one
pub lesser-is : (found : List (Option Season)) (best later kept : Season)
    → kept ≡ (if nat_lt later.objective best.objective then later else best) → IsBestOf found (Some best)
    → IsBestOf (found ++ Some later ∷ []) (Some kept)
lesser-is found best later kept is so_far =
    subst (λ (s : Season). IsBestOf (found ++ Some later ∷ []) (Some s)) (sym is)
    (chosen found best later (nat_lt later.objective best.objective)
    (λ less. below-true later.objective best.objective less) (λ less. below-false later.objective best.objective less)
    so_far)

-- what a try finds behind tries that found nothing
pub after-none : (found : List (Option Season)) (tried : Tried) → IsBestOf found None
    → IsBestOf (found ++ season_tried tried ∷ []) (season_tried tried)
after-none found (tries.Found season) none = comes found season none
after-none found (tries.Refuted log) none = none-comes found none
after-none found (tries.Spent log) none = none-comes found none

-- of one try what it finds is the best
pub one-best : (found : Option Season) → IsBestOf (found ∷ []) found
one-best None = All-cons IsNone None [] refl (All-nil IsNone)
one-best (Some season) = record {
  before = [];
  after = [];
  place = refl;
  earlier = All-nil (MoreThan season.objective);
  later = All-nil (AtLeast season.objective);
}

-- what the tries so far find, with one try more
pub more-found : (first : Solved) (later : List Tried) (tried : Tried) (answer : Option Season)
    → IsBestOf ((season_of first ∷ map season_tried later) ++ season_tried tried ∷ []) answer
    → IsBestOf (season_of first ∷ map season_tried (later ++ tried ∷ [])) answer
more-found first later tried answer is =
    subst (λ (found : List (Option Season)). IsBestOf (season_of first ∷ found) answer)
    (sym (map_push season_tried later tried)) is

-- tries, each behind the other, with one try more
pub more-tries : (attempt : ℕ → Tried → Type 0) (later : List Tried) (tried : Tried) (k : ℕ) (d : Tried)
    → ((j : ℕ) (e : Tried) → j < length later → attempt (j + 1) (get_or later j e))
    → attempt (length later + 1) tried → k < length (later ++ tried ∷ [])
    → attempt (k + 1) (get_or (later ++ tried ∷ []) k d)
more-tries attempt later tried k d each now below =
    elim (cases_lt k (length later)) as (λ _. attempt (k + 1) (get_or (later ++ tried ∷ []) k d)) [
      | inl before ↦
          subst (λ (t : Tried). attempt (k + 1) t)
          (sym (get_or_append_left later (tried ∷ []) d k before)) (each k d before)
      | inr behind ↦
          let same : k ≡ length later = omega (arith, below, behind, length-append later (tried ∷ [])) in
          subst (λ (j : ℕ). attempt (j + 1) (get_or (later ++ tried ∷ []) j d)) (sym same)
          (subst (λ (t : Tried). attempt (length later + 1) t)
          (sym (get_or_push later tried d (length later) refl)) now)
    ]

-- the best of tries of which each comes to what is said of it
pub best-by : {E : Type 0} (league : Instance) (budgets : Budgets) (may_stop : Type 0) (first : Solved)
    (attempt : ℕ → Tried → Type 0) (result : Result Solved E) → IsSolutionBy league budgets may_stop first
    → ((k : ℕ) (tried : Tried) → attempt k tried → IsTriedBy league budgets may_stop tried)
    → IfOk result (IsBestOfTries attempt budgets may_stop first) → IfOk result (IsBest league budgets may_stop)
best-by {E} league budgets may_stop first attempt (Ok answer) is each tries = record {
  first = first;
  is_solution = is;
  tries = record {
    later = tries.later;
    each = λ k d below. each (k + 1) (get_or tries.later k d) (tries.each k d below);
    few = tries.few;
    all = tries.all;
    best = tries.best;
  };
}
best-by {E} league budgets may_stop first attempt (Err error) is each tries = tt

-- an answer of one try, where there may be no more
pub one_try : (league : Instance) (budgets : Budgets) (may_stop : Type 0) (answer : Solved)
    → IsSolutionBy league budgets may_stop answer → budgets.tries ≤ 1 → IsBest league budgets may_stop answer
one_try league budgets may_stop answer is most = record {
  first = answer;
  is_solution = is;
  tries = record {
    later = [];
    each = λ k d below. absurd (omega (arith, below));
    few = λ some. absurd (omega (arith, some));
    all = λ goes_on unstopped. most;
    best = one-best (season_of answer);
  };
}

-- a refutation behind which no try is made
pub refuted_untried : (league : Instance) (budgets : Budgets) (may_stop : Type 0) (log : List Step)
    → IsSolutionBy league budgets may_stop (answers.Refuted log) → IsBest league budgets may_stop (answers.Refuted log)
refuted_untried league budgets may_stop log is = record {
  first = answers.Refuted log;
  is_solution = is;
  tries = record {
    later = [];
    each = λ k d below. absurd (omega (arith, below));
    few = λ some. absurd (omega (arith, some));
    all = λ goes_on unstopped. absurd (goes_on tt);
    best = one-best None;
  };
}
