-- What the answers say of a league and a schedule.
use Rattle.std.proofs.Common.{◌≡◌, ◌⊎◌, ℕ, ◌-◌, ◌*◌, ◌^◌, ◌<◌, ◌≤◌, Bool, false, List, [], ◌∷◌}
use Rattle.std.proofs.Common.{get_or, IfOk, Option, Result, Ok, Err, refl, sym, ap, subst, ◌∙◌, arith, lit<}
use Rattle.std.proofs.Math.Nat.{mul-le-mul}
use Rattle.std.proofs.lemmas.List.Elements.{All-head, All-nil, All-tail, All-weaker}
use Rattle.std.specs.List.{All}
use Rattle.league.specs.Accepted.{IsAccepted, objective}
use Rattle.league.specs.Bounds.{largest}
use Rattle.league.specs.Counts.{Counts, counts_of}
use Rattle.league.specs.Instance.{Instance, IsGame, IsInstance}
use Rattle.league.specs.Order.{IsInOrder}
use Rattle.league.specs.declared.class.Constraint.{Constraint}
use Rattle.league.specs.declared.game.Game.{Game}
use Rattle.rows.specs.Rows.{Row, SatisfiesAll}
use Rattle.encoding.specs.Known.{AreKnown, IsKnown}
use Rattle.encoding.specs.Shadow.{decoded}
use Rattle.encoding.specs.Variables.{x_count}
use Rattle.propagate.specs.Trails.{KnowsVariables}
use Rattle.refutation_check.proofs.SoundLemmas.{accepted_logs_refute}
use Rattle.refutation.specs.Steps.{NamesRows, Step, is_linear}
use Rattle.clause_search.specs.Answers.{IsAnswer, IsSpentAt, Refutes}
use Rattle.clause_search.specs.declared.found.Found.{Found}
use Rattle.clause_search.proofs.LineLemmas.{step_named}
use Rattle.league_search.proofs.LogLemmas.{refuted-clauses}
use Rattle.clause_search.proofs.SearchLemmas.{news-clauses}
use Rattle.descent.specs.Descended.{Descended}
use Rattle.descent.specs.Settled.{IsSettled}
use Rattle.descent.proofs.TrailLemmas.{trails-stay_feasible}
use Rattle.solve.specs.Solutions.{IsSchedule, league_score}
use Rattle.decoding.proofs.GameLemmas.{accepted_few, decoded_fit}
use Rattle.decoding.proofs.ShortfallLemmas.{largest-cons}
use Rattle.walk.proofs.WalkLemmas.{met}
use Rattle.bound_rows.specs.BoundRows.{bound_rows, bound_size, bound_vars}
use Rattle.bound_rows.specs.Bounded.{IsCounted}
use Rattle.bound_rows.proofs.CostLaws.{costs-bounded}
use Rattle.bound_rows.proofs.Faithful.{bounded-from_rows, bounds-from_refuted}
use Rattle.bounds.specs.Lower.{IsLower}
use Rattle.bounds.specs.Proofs.{IsBelow, IsLeast, IsNoneBelow, IsProved, IsProvedBy, IsSought, IsSoughtBy, IsSpentUnder}
use Rattle.bounds.specs.declared.proved.Proved.{Proved}
use Rattle.bounds.specs.declared.proved.Proved.TheVariants.{Least, Better, Spent}

pub knows-from_known : (vars : ℕ) (rows : List Row) → AreKnown vars rows → All (KnowsVariables vars) rows
knows-from_known vars rows known =
    All-weaker (IsKnown vars) (KnowsVariables vars) (λ row is k d within. (is k d within).1) rows known

-- games have variables among all
pub games-le : (league : Instance) → x_count league.n ≤ bound_vars league
games-le league = omega arith

-- ---- objectives of 64 bits

-- the largest of numbers of 32 bits has 32 bits
largest-lt : {X : Type 0} (f : X → ℕ) (xs : List X) → All (λ x. f x < 2 ^ 32) xs → largest f xs < 2 ^ 32
largest-lt f [] small = lit< tt
largest-lt {X} f (x ∷ xs) small =
    let Small : X → Type 0 = λ y. f y < 2 ^ 32 in
    omega (
      arith,
      largest-cons f x xs,
      All-head Small x xs small,
      largest-lt f xs (All-tail Small x xs small),
    )

-- each penalty has 32 bits, and an accepted schedule pays the greatest at most once for each term
pub objective_small : (league : Instance) (m : Counts) (terms : ℕ) → IsCounted league terms → IsAccepted league m
    → objective league m < 2 ^ 64
objective_small league m terms counted accepted =
    let most : ℕ = largest (λ (c : Constraint). c.penalty) league.constraints in
    let fits : most < 2 ^ 32 = largest-lt (λ (c : Constraint). c.penalty) league.constraints counted.penalties in
    let small : most ≤ 4294967295 = omega (arith, fits) in
    let paid : most * bound_size league ≤ 4294967295 * 40000000 = mul-le-mul small counted.few in
    omega (arith, costs-bounded league m counted.instance accepted, paid)

-- ---- logs that can be written

refuted-named : (rows : List Row) (vars : ℕ) (limit : Option ℕ) (steps : List Step) → Refutes rows vars limit steps
    → All NamesRows steps
refuted-named rows vars limit steps is =
    let clauses : All (λ step. is_linear step ≡ false) steps = refuted-clauses rows vars limit steps is in
    λ k d within. step_named vars (get_or steps k d) (is.tidy k d within) (clauses k d within)

spent-named : (rows : List Row) (vars : ℕ) (limit : Option ℕ) (steps : List Step) → IsSpentAt rows vars limit steps
    → All NamesRows steps
spent-named rows vars limit steps is =
    let clauses : All (λ step. is_linear step ≡ false) steps = news-clauses rows vars steps is.spent.news in
    λ k d within. step_named vars (get_or steps k d) (is.tidy k d within) (clauses k d within)

-- ---- answers

pub below-of : {may_stop : Type 0} (league : Instance) (bound moves cost : ℕ) (games : List Game)
    (descent : Descended) → IsSchedule league moves may_stop games cost descent → cost < bound
    → IsBelow league bound games cost
below-of league bound moves cost games descent is less = record {
  accepted = is.accepted;
  fit = is.fit;
  in_order = is.in_order;
  cost = is.cost;
  lower = less;
}

-- games that are decoded from values which satisfy the bound rows
pub decoded_bounded : (league : Instance) (bound : ℕ) (values : ℕ → Bool) (games : List Game) → IsInstance league
    → SatisfiesAll values (bound_rows league bound) → games ≡ decoded league.n values
    → IsAccepted league (counts_of games) × (objective league (counts_of games) ≤ bound)
decoded_bounded league bound values games is meets same =
    let found = bounded-from_rows league bound values is meets in (
      subst (λ (gs : List Game). IsAccepted league (counts_of gs)) (sym same) found.0,
      subst (λ (gs : List Game). objective league (counts_of gs) ≤ bound) (sym same) found.1,
    )

pub none-of : (league : Instance) (limit : Option ℕ) (bound : ℕ) (steps : List Step) → IsInstance league → 1 ≤ bound
    → Refutes (bound_rows league (bound - 1)) (bound_vars league) limit steps → IsNoneBelow league bound limit steps
none-of league limit bound steps is some refutes = record {
  least = bounds-from_refuted league bound is
      (accepted_logs_refute (bound_rows league (bound - 1)) (bound_vars league) steps refutes.accepted);
  nothing = λ none. absurd (omega (arith, none, some));
  refutes = λ positive. refutes;
  named = refuted-named (bound_rows league (bound - 1)) (bound_vars league) limit steps refutes;
}

pub spent-of : (league : Instance) (limit : Option ℕ) (bound : ℕ) (steps : List Step) → 1 ≤ bound
    → IsSpentAt (bound_rows league (bound - 1)) (bound_vars league) limit steps
    → IsSpentUnder league bound limit steps
spent-of league limit bound steps some spent = record {
  some = some;
  spent = spent;
  named = spent-named (bound_rows league (bound - 1)) (bound_vars league) limit steps spent;
}

pub none_below_0 : (league : Instance) (limit : Option ℕ) → IsNoneBelow league 0 limit []
none_below_0 league limit = record {
  least = λ other accepted. omega arith;
  nothing = λ none. refl;
  refutes = λ some. absurd (omega (arith, some));
  named = All-nil NamesRows;
}

pub least_of_none : (league : Instance) (m : Counts) (limit : Option ℕ) → objective league m ≡ 0
    → IsLeast league m limit 0 []
least_of_none league m limit costs =
    let none : IsNoneBelow league 0 limit [] = none_below_0 league limit in
    record {
      cost = sym costs;
      least = none.least;
      nothing = none.nothing;
      refutes = none.refutes;
      named = none.named;
    }

-- what an answer says of a bound it says of a schedule that costs as much and that no single move betters
pub proved-of : (league : Instance) (m : Counts) (limit : Option ℕ) (may_stop : Type 0) (cost : ℕ) (proved : Proved)
    → objective league m ≡ cost → may_stop ⊎ IsSettled league.n league.phased (league_score league) m
    → IsSought league cost limit proved → IsProved league m limit may_stop proved
proved-of league m limit may_stop cost (Least least log) costs settled (same, none) =
    let is : IsNoneBelow league least limit log = subst (λ (c : ℕ). IsNoneBelow league c limit log) (sym same) none in
    record {
      cost = same ∙ sym costs;
      least = is.least;
      nothing = is.nothing;
      refutes = is.refutes;
      named = is.named;
    }
proved-of league m limit may_stop cost (Better games lower) costs settled is =
    subst (λ (c : ℕ). IsBelow league c games lower) (sym costs) is
proved-of league m limit may_stop cost (Spent log) costs settled is =
    let under : IsSpentUnder league (objective league m) limit log =
    subst (λ (c : ℕ). IsSpentUnder league c limit log) (sym costs) is in
    record { some = under.some; settled = settled; spent = under.spent; named = under.named }

pub proved-by : (league : Instance) (m : Counts) (limits : Option ℕ → Type 0) (may_stop : Type 0) (cost : ℕ)
    (proved : Proved) → objective league m ≡ cost
    → may_stop ⊎ IsSettled league.n league.phased (league_score league) m → IsSoughtBy league cost limits proved
    → IsProvedBy league m limits may_stop proved
proved-by league m limits may_stop cost proved costs settled (limit, is, sought) =
    (limit, is, proved-of league m limit may_stop cost proved costs settled sought)

-- the same of an answer for which memory may have run out
pub proved-said : {E : Type 0} (league : Instance) (m : Counts) (limits : Option ℕ → Type 0) (may_stop : Type 0)
    (cost : ℕ) (result : Result Proved E) → objective league m ≡ cost
    → may_stop ⊎ IsSettled league.n league.phased (league_score league) m
    → IfOk result (IsSoughtBy league cost limits) → IfOk result (IsProvedBy league m limits may_stop)
proved-said league m limits may_stop cost (Ok proved) costs settled sought =
    proved-by league m limits may_stop cost proved costs settled sought
proved-said league m limits may_stop cost (Err memory) costs settled sought = sought

-- what holds for every limit holds for one that is kept to
pub sought-of : {E : Type 0} (league : Instance) (bound : ℕ) (limits : Option ℕ → Type 0) (limit : Option ℕ)
    → limits limit → (result : Result Proved E)
    → IfOk result (λ proved. (limit : Option ℕ) → IsSought league bound limit proved)
    → IfOk result (IsSoughtBy league bound limits)
sought-of league bound limits limit is (Ok proved) sought = (limit, is, sought limit)
sought-of league bound limits limit is (Err memory) sought = sought

-- what a search answers is over the rows and the variables that it was given
pub answer-of : (league : Instance) (bound vars : ℕ) (rows : List Row) (limit : Option ℕ) (answer : Found)
    → rows ≡ bound_rows league bound → vars ≡ bound_vars league → IsAnswer rows vars limit answer
    → IsAnswer (bound_rows league bound) (bound_vars league) limit answer
answer-of league bound vars rows limit answer rows_are vars_are is =
    subst (λ (rs : List Row). IsAnswer rs (bound_vars league) limit answer) rows_are
    (subst (λ (vs : ℕ). IsAnswer rows vs limit answer) vars_are is)

-- the games that are decoded from values which satisfy the bound rows of one less
pub lower-of : (league : Instance) (was n : ℕ) (values : ℕ → Bool) (games : List Game) → IsInstance league → 1 ≤ was
    → SatisfiesAll values (bound_rows league (was - 1)) → n ≡ league.n → games ≡ decoded n values → IsInOrder games
    → IsLower league was games
lower-of league was n values games is some meets teams same order =
    let are : games ≡ decoded league.n values = same ∙ ap (λ (k : ℕ). decoded k values) teams in
    let found = decoded_bounded league (was - 1) values games is meets are in
    record {
      accepted = found.0;
      fit = subst (λ (gs : List Game). All (IsGame league.n) gs) (sym are) (decoded_fit league.n values);
      few = accepted_few league.n values games are is.teams.at_most found.0.round_robin.pairs;
      in_order = order;
      lower = omega (arith, found.1, some);
    }

-- a descent leads to no higher an objective
pub lowered-le : {may_stop : Type 0} (league : Instance) (moves cost : ℕ) (games : List Game) (descent : Descended)
    → IsSchedule league moves may_stop games cost descent → cost ≤ objective league (counts_of descent.first)
lowered-le league moves cost games descent is =
    let first : Counts = counts_of descent.first in
    let stays = trails-stay_feasible league.n league.phased (league_score league) first (counts_of games) descent.trail
    ((met league first).1 is.descends.first.hard) is.descends.trail in
    omega (arith, stays.1, is.cost)

-- the end of a descent that begins with games which cost less than a number costs less, too
pub below-start : {may_stop : Type 0} (league : Instance) (was moves cost : ℕ) (start games : List Game)
    (descent : Descended) → IsLower league was start → IsSchedule league moves may_stop games cost descent
    → counts_of descent.first ≡ counts_of start → cost < was
below-start league was moves cost start games descent lower is first =
    omega (
      arith,
      lowered-le league moves cost games descent is,
      ap (λ (m : Counts). objective league m) first,
      lower.lower,
    )
