-- What groups say of a league: where one needs more than there is, its log is accepted, and where none does, no hard
-- CA1 makes the teams need more.
use Rattle.std.proofs.Common.{◌≡◌, ℕ, ◌+◌, ◌*◌, ◌/◌, ◌^◌, ◌<◌, ◌≤◌, Bool, true, false, nat_lt, List, [], ◌∷◌, length}
use Rattle.std.proofs.Common.{get_or, take, zero, suc, ◌&&◌, length-append, map, Option, Some, None, inl, inr, refl}
use Rattle.std.proofs.Common.{arith, ap, sym, subst, ◌∙◌}
use Rattle.std.specs.Prelude.{Contains, IsSome, IsTrue, IfSome, is_some, sum, ◌↔◌}
use Rattle.std.specs.List.{All, filter, sum_by}
use Rattle.std.proofs.Math.Nat.{mul-le-mul}
use Rattle.std.proofs.lemmas.Bool.{and_parts, cases_Bool, ltb-true}
use Rattle.std.proofs.lemmas.List.{length-map, take_all}
use Rattle.std.proofs.lemmas.List.Elements.{All-contains, All-filter, All-more}
use Rattle.std.proofs.lemmas.List.Folds.{list_any_at, list_any_none}
use Rattle.std.proofs.lemmas.List.FromFn.{fill_by_all, length-range_with_len}
use Rattle.std.proofs.lemmas.List.Sums.{count_by-le-length, length-filter}
use Rattle.league.proofs.SumLemmas.{sum_by-map, sum_by-same}
use Rattle.league.specs.Accepted.{hard_of}
use Rattle.league.specs.Counts.{teams_of}
use Rattle.league.specs.Instance.{Instance, IsInstance, are_slots, are_teams, class_fits, is_one_side}
use Rattle.league.specs.declared.class.Class.{Class}
use Rattle.league.specs.declared.class.Class.TheVariants.{Ca1, Ca2, Ca3, Ca4, Ga1, Br1, Br2, Fa2, Se1}
use Rattle.league.specs.declared.class.Constraint.{Constraint}
use Rattle.league.specs.declared.class.Side.{Side}
use Rattle.rows.specs.Literals.{Literal}
use Rattle.rows.specs.Sums.{literal}
use Rattle.encoding.specs.Encoding.{rows_of}
use Rattle.encoding.specs.Variables.{h_var, var_count}
use Rattle.encoding.proofs.FewLemmas.{slots_few}
use Rattle.encoding.proofs.SizeLemmas.{sum_by-constant}
use Rattle.refutation.specs.Steps.{Step}
use Rattle.refutation.specs.Verdict.{verdict_of}
use Rattle.refutation.specs.declared.verdict.Verdict.TheVariants.{Accepted}
use Rattle.venue_counts.specs.CountLogs.{AddsUp, IsShortCount, IsCrowdedCount, counted_rows, slot_row, team_row}
use Rattle.venue_counts.specs.VenueCounts.{are_short, are_crowded}
use Rattle.venue_counts.specs.Needs.{IsCount, bounds_at, counts_home, exceeds, exceeds_at, exceeds_by, is_bounded}
use Rattle.venue_counts.specs.Needs.{need_of}
use Rattle.venue_counts.specs.Keys.{key_of}
use Rattle.venue_counts.specs.Groups.{AreAllGroups, AreFound, AreGroups, IsGroup, IsOf, key_at}
use Rattle.venue_counts.specs.declared.group.Group.{Group}
use Rattle.venue_counts.specs.declared.limit.Limit.{Limit}
use Rattle.venue_counts.specs.declared.limit.Limit.TheVariants.{Most, Least}
use Rattle.venue_counts.proofs.CountLaws.{conflict, degree-all, weight-all}
use Rattle.venue_counts.proofs.GroupLemmas.{need-unbounded}
use Rattle.venue_counts.proofs.KeyLemmas.{same_key}
use Rattle.venue_counts.proofs.MemberLemmas.{any-implied}
use Rattle.venue_counts.proofs.NeedLemmas.{are_short-exceeds, are_crowded-exceeds, is_short_at-exceeds, those-itself}
use Rattle.venue_counts.proofs.NeedLemmas.{those-same}
use Rattle.venue_counts.proofs.VerdictLaws.{adds_up_accepted}

-- ---- all groups

-- the element at a place
element : {X : Type 0} (xs : List X) (p : ℕ) → p < length xs → (x : X) × ((d : X) → get_or xs p d ≡ x)
element [] p within = absurd (omega (arith, within))
element (x ∷ xs) zero within = (x, λ d. refl)
element (x ∷ xs) (suc p) within = let rest = element xs p (omega (arith, within)) in (rest.0, rest.1)

found-of : (limit : Limit) (n : ℕ) (constraints : List Constraint) (groups : List Group) (find : ℕ → Option ℕ)
    (side : Side) (slots : List ℕ) (o : Option ℕ) → AreFound groups find → All (IsGroup limit n constraints) groups
    → is_one_side side ≡ true → are_slots n slots ≡ true → find (key_of side slots) ≡ o → IsSome o
    → (g : Group) × Contains groups g × IsOf side slots g
found-of limit n constraints groups find side slots None found each one season at some = absurd (cc)
found-of limit n constraints groups find side slots (Some p) found each one season at some =
    let within : p < length groups = found.within (key_of side slots) p at in
    let here = element groups p within in
    let g : Group = here.0 in
    let there : Contains groups g = (p, within, here.1 g) in
    let is : IsGroup limit n constraints g = All-contains (IsGroup limit n constraints) groups g each there in
    let key : key_at g ≡ key_of side slots = sym (ap key_at (here.1 g)) ∙ found.key (key_of side slots) p g at in
    let same = same_key n g.side side g.slots.now slots is.one one is.season season key in
    (g, there, record { side_is = same.0; slots_are = same.1 })

pub all-groups : (limit : Limit) (n : ℕ) (constraints : List Constraint) (groups : List Group) (find : ℕ → Option ℕ)
    → AreFound groups find → AreGroups limit n constraints groups find → AreAllGroups limit n constraints groups
all-groups limit n constraints groups find found are = record {
  each = are.each;
  complete = λ side slots one season bounded.
      found-of limit n constraints groups find side slots (find (key_of side slots)) found are.each one season refl
      (are.seen side slots bounded);
}

-- ---- where no group needs too much

-- what a group's numbers sum to
pub group-sum : (limit : Limit) (n : ℕ) (constraints : List Constraint) (g : Group) → IsGroup limit n constraints g
    → sum g.needs.items ≡ sum_by (need_of limit constraints g.side g.slots.now) (teams_of n)
group-sum limit n constraints g is =
    let need : ℕ → ℕ = need_of limit constraints g.side g.slots.now in
    ap sum (fill_by_all need g.needs.items n 0 is.count is.needs) ∙ sum_by-map (λ (k : ℕ). k) need (teams_of n)

pub group-exceeds : (limit : Limit) (n : ℕ) (constraints : List Constraint) (g : Group) (answer : Bool)
    → IsGroup limit n constraints g → answer ≡ nat_lt (length g.slots.now * (n / 2)) (sum g.needs.items)
    → answer ≡ exceeds_at limit n constraints g.side g.slots.now
group-exceeds limit n constraints g answer is tells =
    tells ∙ ap (λ (k : ℕ). nat_lt (length g.slots.now * (n / 2)) k) (group-sum limit n constraints g is)

-- no group needs too much
abbrev pub NoneExceeds : Limit → ℕ → List Constraint → List Group → Type 0
NoneExceeds limit n constraints groups =
    All (λ g. exceeds_at limit n constraints g.side g.slots.now ≡ false) groups

own_bounds : (side : Side) (slots teams : List ℕ) (min max : ℕ)
    → bounds_at side slots (Ca1 teams min max side slots) ≡ true
own_bounds side slots teams min max = those-itself side slots

group-within : (limit : Limit) (n : ℕ) (constraints : List Constraint) (groups : List Group)
    → AreAllGroups limit n constraints groups → NoneExceeds limit n constraints groups → (side : Side) (slots : List ℕ)
    → is_one_side side ≡ true → are_slots n slots ≡ true → is_bounded constraints side slots ≡ true
    → exceeds_at limit n constraints side slots ≡ false
group-within limit n constraints groups all none side slots one season bounded =
    let found = all.complete side slots one season bounded in
    let g : Group = found.0 in
    let is : IsOf side slots g = found.2 in
    sym (ap (λ (s : Side). exceeds_at limit n constraints s g.slots.now) is.side_is
    ∙ ap (λ (ss : List ℕ). exceeds_at limit n constraints side ss) is.slots_are)
    ∙ All-contains (λ h. exceeds_at limit n constraints h.side h.slots.now ≡ false) groups g none found.1

-- what a constraint that fits says of a side and slots
pub fits_parts : (n : ℕ) (teams slots : List ℕ) (min max : ℕ) (side : Side)
    → IsTrue (class_fits n (Ca1 teams min max side slots)) → (are_slots n slots ≡ true) × (is_one_side side ≡ true)
fits_parts n teams slots min max side fits =
    let outer = and_parts (are_teams n teams && are_slots n slots) (is_one_side side) fits in
    ((and_parts (are_teams n teams) (are_slots n slots) outer.0).1, outer.1)

class-within : (limit : Limit) (n : ℕ) (constraints : List Constraint) (groups : List Group)
    → AreAllGroups limit n constraints groups → NoneExceeds limit n constraints groups → (class : Class)
    → IsTrue (class_fits n class)
    → ((side : Side) (slots : List ℕ) → bounds_at side slots class ≡ true → is_bounded constraints side slots ≡ true)
    → exceeds_by limit n constraints class ≡ false
class-within limit n constraints groups all none (Ca1 teams min max side slots) fits there =
    let parts = fits_parts n teams slots min max side fits in
    group-within limit n constraints groups all none side slots parts.1 parts.0
    (there side slots (own_bounds side slots teams min max))
class-within limit n constraints groups all none (Ca2 teams1 teams2 min max side slots) fits there = refl
class-within limit n constraints groups all none (Ca3 teams1 teams2 min max intp side) fits there = refl
class-within limit n constraints groups all none (Ca4 teams1 teams2 min max side span slots) fits there = refl
class-within limit n constraints groups all none (Ga1 meetings min max slots) fits there = refl
class-within limit n constraints groups all none (Br1 teams intp side slots) fits there = refl
class-within limit n constraints groups all none (Br2 teams intp slots) fits there = refl
class-within limit n constraints groups all none (Fa2 teams intp slots) fits there = refl
class-within limit n constraints groups all none (Se1 teams min) fits there = refl

pub none-exceeds : (limit : Limit) (league : Instance) (groups : List Group) → IsInstance league
    → AreAllGroups limit league.n league.constraints groups → NoneExceeds limit league.n league.constraints groups
    → exceeds limit league.n league.constraints ≡ false
none-exceeds limit league groups instance all none =
    let n : ℕ = league.n in
    let hard : List Constraint = hard_of league.constraints in
    let fit : All (λ c. IsTrue (class_fits n c.class)) hard =
    All-filter (λ (c : Constraint). c.hard) (λ c. IsTrue (class_fits n c.class)) league.constraints instance.fit in
    list_any_none (λ (c : Constraint). exceeds_by limit n league.constraints c.class) hard
    (λ k d within.
    class-within limit n league.constraints groups all none (get_or hard k d).class (fit k d within)
    (λ side slots bounds.
    list_any_at (λ (c : Constraint). bounds_at side slots c.class) hard k d within bounds))

-- ---- where a group needs too much

no_sum : (f : ℕ → ℕ) → ((i : ℕ) → f i ≡ 0) → (xs : List ℕ) → sum_by f xs ≡ 0
no_sum f none xs =
    sum_by-same f (λ i. 0) none xs ∙ sum_by-constant 0 xs
    ∙ (let zero_times : length xs * 0 ≡ 0 = omega arith in zero_times)

bounded-above : (limit : Limit) (n : ℕ) (constraints : List Constraint) (side : Side) (slots : List ℕ)
    → exceeds_at limit n constraints side slots ≡ true → is_bounded constraints side slots ≡ true
bounded-above limit n constraints side slots above =
    elim (cases_Bool (is_bounded constraints side slots)) [
      | inl bounded ↦ bounded
      | inr none ↦ absurd (omega (
        arith,
        ltb-true (length slots * (n / 2)) (sum_by (need_of limit constraints side slots) (teams_of n)) above,
        no_sum (need_of limit constraints side slots)
            (λ i. need-unbounded limit constraints side slots i none) (teams_of n),
      ))
    ]

class-above : (limit : Limit) (n : ℕ) (constraints : List Constraint) (side : Side) (slots : List ℕ) (class : Class)
    → exceeds_at limit n constraints side slots ≡ true → bounds_at side slots class ≡ true
    → exceeds_by limit n constraints class ≡ true
class-above limit n constraints side slots (Ca1 teams min max other others) above bounds =
    let same = those-same side other slots others bounds in
    sym (ap (λ (s : Side). exceeds_at limit n constraints s slots) same.0
    ∙ ap (λ (ss : List ℕ). exceeds_at limit n constraints other ss) same.1)
    ∙ above
class-above limit n constraints side slots (Ca2 teams1 teams2 min max other others) above bounds = absurd (cc)
class-above limit n constraints side slots (Ca3 teams1 teams2 min max intp other) above bounds = absurd (cc)
class-above limit n constraints side slots (Ca4 teams1 teams2 min max other span others) above bounds = absurd (cc)
class-above limit n constraints side slots (Ga1 meetings min max others) above bounds = absurd (cc)
class-above limit n constraints side slots (Br1 teams intp other others) above bounds = absurd (cc)
class-above limit n constraints side slots (Br2 teams intp others) above bounds = absurd (cc)
class-above limit n constraints side slots (Fa2 teams intp others) above bounds = absurd (cc)
class-above limit n constraints side slots (Se1 teams min) above bounds = absurd (cc)

-- a side and slots at which too much is needed are those of a hard CA1
pub exceeds-from : (limit : Limit) (n : ℕ) (constraints : List Constraint) (side : Side) (slots : List ℕ)
    → exceeds_at limit n constraints side slots ≡ true → exceeds limit n constraints ≡ true
exceeds-from limit n constraints side slots above =
    any-implied (λ (c : Constraint). bounds_at side slots c.class)
    (λ (c : Constraint). exceeds_by limit n constraints c.class)
    (λ c bounds. class-above limit n constraints side slots c.class above bounds) (hard_of constraints)
    (bounded-above limit n constraints side slots above)

counted-length : (n : ℕ) (home : Bool) (slots : List ℕ) (need : ℕ → ℕ)
    → length (counted_rows n home slots need) ≤ length slots + n
counted-length n home slots need =
    let bounded : List ℕ = filter (λ i. nat_lt 0 (need i)) (teams_of n) in
    omega (
      arith,
      length-append (map (slot_row n home) slots) (map (team_row n home slots need) bounded),
      length-map slots (slot_row n home),
      length-map bounded (team_row n home slots need),
      length-filter (λ i. nat_lt 0 (need i)) (teams_of n),
      count_by-le-length (λ i. nat_lt 0 (need i)) (teams_of n),
      length-range_with_len 0 n,
    )

-- the rows of a count are few
pub counted-few : (n : ℕ) (home : Bool) (slots : List ℕ) (need : ℕ → ℕ) → n ≤ 40 → are_slots n slots ≡ true
    → length (counted_rows n home slots need) ≤ 1000
counted-few n home slots need small season =
    omega (arith, counted-length n home slots need, slots_few n slots small season, small)

pub count-accepted : (limit : Limit) (league : Instance) (g : Group) (log : List Step) → IsInstance league
    → IsGroup limit league.n league.constraints g → sum g.needs.items < 2 ^ 64
    → exceeds_at limit league.n league.constraints g.side g.slots.now ≡ true
    → AddsUp (rows_of league)
    (counted_rows league.n (counts_home limit g.side) g.slots.now
    (need_of limit league.constraints g.side g.slots.now)) log
    → verdict_of (rows_of league) (var_count league) log ≡ Accepted
count-accepted limit league g log instance is small above adds =
    let n : ℕ = league.n in
    let slots : List ℕ = g.slots.now in
    let home : Bool = counts_home limit g.side in
    let need : ℕ → ℕ = need_of limit league.constraints g.side slots in
    let lit : ℕ → ℕ → Literal = λ i s. literal (h_var n i s) home in
    let few : length slots ≤ 78 = slots_few n slots instance.teams.at_most is.season in
    let teams : length (teams_of n) ≡ n = length-range_with_len 0 n in
    let teams_few : length (teams_of n) ≤ 40 = omega (arith, teams, instance.teams.at_most) in
    let needed : sum_by need (teams_of n) < 2 ^ 64 = omega (arith, group-sum limit n league.constraints g is, small) in
    let halves : n ≡ 2 * (n / 2) = omega (arith, instance.teams.even) in
    let half_few : n / 2 ≤ 40 = omega (arith, halves, instance.teams.at_most) in
    adds_up_accepted (rows_of league) (counted_rows n home slots need) (var_count league) log adds
    (omega (arith, weight-all lit (n / 2) need (teams_of n) slots, mul-le-mul few teams_few))
    (omega (arith, degree-all lit (n / 2) need (teams_of n) slots, mul-le-mul few half_few, needed))
    (conflict lit (n / 2) need (teams_of n) slots
    (omega (
      arith,
      ltb-true (length slots * (n / 2)) (sum_by need (teams_of n)) above,
      ap (λ (k : ℕ). length slots * k) (teams ∙ halves),
    )))

-- ---- what is said of each bound

pub short-count : (league : Instance) (log : List Step) → IsInstance league → IsCount Most league log
    → IsShortCount league log
short-count league log instance is = record {
  side = is.side;
  slots = is.slots;
  short = is_short_at-exceeds league.n league.constraints is.side is.slots instance.teams.even ∙ is.above;
  adds_up = is.adds_up;
}

pub crowded-count : (league : Instance) (log : List Step) → IsCount Least league log → IsCrowdedCount league log
crowded-count league log is = record {
  side = is.side;
  slots = is.slots;
  crowded = is.above;
  adds_up = is.adds_up;
}

tells : (found : Option (List Step)) (a b : Bool) → is_some found ≡ b → a ≡ b → IsSome found ↔ (a ≡ true)
tells found a b is same = (λ some. same ∙ sym is ∙ some, λ yes. is ∙ sym same ∙ yes)

pub are_short-told : (league : Instance) (found : Option (List Step)) → IsInstance league
    → is_some found ≡ exceeds Most league.n league.constraints → IsSome found ↔ (are_short league ≡ true)
are_short-told league found instance is =
    tells found (are_short league) (exceeds Most league.n league.constraints) is
    (are_short-exceeds league instance.teams.even)

pub are_crowded-told : (league : Instance) (found : Option (List Step))
    → is_some found ≡ exceeds Least league.n league.constraints → IsSome found ↔ (are_crowded league ≡ true)
are_crowded-told league found is =
    tells found (are_crowded league) (exceeds Least league.n league.constraints) is (are_crowded-exceeds league)

pub short-counted : (league : Instance) (found : Option (List Step)) → IsInstance league
    → IfSome found (IsCount Most league) → IfSome found (IsShortCount league)
short-counted league None instance is = tt
short-counted league (Some log) instance is = short-count league log instance is

pub crowded-counted : (league : Instance) (found : Option (List Step)) → IfSome found (IsCount Least league)
    → IfSome found (IsCrowdedCount league)
crowded-counted league None is = tt
crowded-counted league (Some log) is = crowded-count league log is

-- ---- the groups that are gone through

pub item-group : (limit : Limit) (n : ℕ) (constraints : List Constraint) (groups items : List Group) (k : ℕ) (g : Group)
    → AreAllGroups limit n constraints groups → items ≡ groups → k < length items → g ≡ get_or items k g
    → IsGroup limit n constraints g
item-group limit n constraints groups items k g all same there at =
    subst (λ (e : Group). IsGroup limit n constraints e) (sym at)
    ((subst (λ (gs : List Group). All (IsGroup limit n constraints) gs) (sym same) all.each) k g there)

pub item-exceeds : (limit : Limit) (n m : ℕ) (constraints : List Constraint) (g : Group) (answer : Bool) → n ≡ m
    → IsGroup limit m constraints g → answer ≡ nat_lt (length g.slots.now * (n / 2)) (sum g.needs.items)
    → answer ≡ exceeds_at limit m constraints g.side g.slots.now
item-exceeds limit n m constraints g answer same is tested =
    group-exceeds limit m constraints g answer is
    (tested ∙ ap (λ (k : ℕ). nat_lt (length g.slots.now * (k / 2)) (sum g.needs.items)) same)

pub adds-of : (limit : Limit) (league encoded : Instance) (g : Group) (log : List Step) → encoded ≡ league
    → AddsUp (rows_of encoded)
    (counted_rows encoded.n (counts_home limit g.side) g.slots.now
    (need_of limit encoded.constraints g.side g.slots.now))
    log
    → AddsUp (rows_of league)
    (counted_rows league.n (counts_home limit g.side) g.slots.now (need_of limit league.constraints g.side g.slots.now))
    log
adds-of limit league encoded g log same adds =
    subst
    (λ (l : Instance). AddsUp (rows_of l)
    (counted_rows l.n (counts_home limit g.side) g.slots.now (need_of limit l.constraints g.side g.slots.now)) log)
    same adds

pub more-within : (limit : Limit) (n m : ℕ) (constraints : List Constraint) (items : List Group) (k : ℕ) (g : Group)
    (answer : Bool) → n ≡ m → IsGroup limit m constraints g → k < length items → g ≡ get_or items k g
    → answer ≡ nat_lt (length g.slots.now * (n / 2)) (sum g.needs.items) → answer ≡ false
    → NoneExceeds limit n constraints (take k items) → NoneExceeds limit n constraints (take (k + 1) items)
more-within limit n m constraints items k g answer same is there at tested lacks before =
    let here : exceeds_at limit n constraints g.side g.slots.now ≡ false =
    sym (sym lacks ∙ item-exceeds limit n m constraints g answer same is tested
    ∙ ap (λ (l : ℕ). exceeds_at limit l constraints g.side g.slots.now) (sym same)) in
    All-more (λ h. exceeds_at limit n constraints h.side h.slots.now ≡ false) items k g there before
    (subst (λ (h : Group). exceeds_at limit n constraints h.side h.slots.now ≡ false) at here)

pub all-within : (limit : Limit) (n : ℕ) (league : Instance) (groups items : List Group) (k : ℕ) → IsInstance league
    → n ≡ league.n → items ≡ groups → length items ≤ k → AreAllGroups limit league.n league.constraints groups
    → NoneExceeds limit n league.constraints (take k items) → false ≡ exceeds limit league.n league.constraints
all-within limit n league groups items k instance same is whole all within =
    sym (none-exceeds limit league groups instance all
    (subst (λ (m : ℕ). NoneExceeds limit m league.constraints groups) same
    (subst (λ (gs : List Group). NoneExceeds limit n league.constraints gs) (take_all k items whole ∙ is) within)))
