-- What kept rules cost: that it fits, how it follows one rule's change, and that it is what is counted afresh.
use Rattle.std.proofs.Common.{◌≡◌, ℕ, ◌+◌, ◌*◌, ◌^◌, ◌<◌, ◌≤◌, Bool, true, false, not, if◌then◌else◌, List, [], ◌∷◌, length, map, get_or, set, take, refl, ap, subst, sym, ◌∙◌, arith}
use Rattle.std.proofs.lemmas.List.{map-set, set-get_or, take_all}
use Rattle.std.proofs.lemmas.List.Elements.{All-head, All-set, All-tail}
use Rattle.std.proofs.lemmas.List.Sums.{sum_by-cons, sum_by-set, sum_by-take-le, sum_by_more}
use Rattle.std.specs.List.{All, filter, sum, sum_by}
use Rattle.league.specs.Counts.{Counts}
use Rattle.rule_core.specs.declared.rule.Entries.{Ghosts}
use Rattle.rule_core.specs.Keys.{KeyList}
use Rattle.rule_core.specs.Table.{Table, table_counts}
use Rattle.descent.specs.Bench.{OnlyUsed}
use Rattle.descent.specs.ByTeam.{GameRoom}
use Rattle.descent.specs.Ready.{AreReady, IsExact, IsReady, IsTallied, hard_cost, soft_cost}
use Rattle.descent.specs.Tallies.{cost_on, infeasibility_on, objective_on}
use Rattle.descent.specs.Weighing.{if_kind, is_kind}
use Rattle.descent.specs.declared.bench.Bench.{Bench}
use Rattle.descent.specs.declared.kept.Kept.{Kept}
use Rattle.descent.specs.declared.weigh.Sums.{Sums}
use Rattle.descent.specs.declared.weighted.Weighted.{Weighted}
use Rattle.std.proofs.Math.Nat.{mul-le-mul}

product_fits : (p d len : ℕ) → p < 2 ^ 32 → d ≤ 2 ^ 64 * len → p * d ≤ 2 ^ 96 * len
product_fits p d len small fits =
    let a : p ≤ 2 ^ 32 = omega arith in
    let b : p * d ≤ 2 ^ 32 * (2 ^ 64 * len) = mul-le-mul a fits in
    omega (arith, b)

either : (b : Bool) (x : ℕ) → (if b then x else 0) + (if b then 0 else x) ≡ x
either true x = omega arith
either false x = omega arith

if_le : (b : Bool) (x y : ℕ) → x ≤ y → (if b then x else 0) ≤ y
if_le true x y h = h
if_le false x y h = omega arith

else_le : (b : Bool) (x y : ℕ) → x ≤ y → (if b then 0 else x) ≤ y
else_le true x y h = omega arith
else_le false x y h = h

sum_fits : {X : Type 0} (f g : X → ℕ) (P : X → Type 0) → ((x : X) → P x → f x ≤ 2 ^ 96 * g x) → (xs : List X) → All P xs → sum_by f xs ≤ 2 ^ 96 * sum_by g xs
sum_fits f g P each [] all = omega arith
sum_fits f g P each (x ∷ xs) all = omega (arith, sum_by-cons f x xs, sum_by-cons g x xs, each x (All-head P x xs all), sum_fits f g P each xs (All-tail P x xs all))

pub hard_fits : {R : Type 0} (E : Ghosts R) (n room : ℕ) (rules : List (Kept R)) → All (IsReady E n room) rules → sum_by hard_cost rules ≤ 2 ^ 96 * sum_by (λ k. length k.vector.items) rules
hard_fits E n room rules all =
    sum_fits hard_cost (λ k. length k.vector.items) (IsReady E n room) (λ k is. if_le k.weighted.hard
    (k.weighted.penalty * k.deviation) (2 ^ 96 * length k.vector.items)
    (product_fits k.weighted.penalty k.deviation (length k.vector.items) is.penalty_fits is.small)) rules all

pub soft_fits : {R : Type 0} (E : Ghosts R) (n room : ℕ) (rules : List (Kept R)) → All (IsReady E n room) rules → sum_by soft_cost rules ≤ 2 ^ 96 * sum_by (λ k. length k.vector.items) rules
soft_fits E n room rules all =
    sum_fits soft_cost (λ k. length k.vector.items) (IsReady E n room) (λ k is. else_le k.weighted.hard
    (k.weighted.penalty * k.deviation) (2 ^ 96 * length k.vector.items)
    (product_fits k.weighted.penalty k.deviation (length k.vector.items) is.penalty_fits is.small)) rules all

-- one rule's entries and cost have changed
pub AreReady-next : {R : Type 0} (E : Ghosts R) (n : ℕ) (bench bench_after : Bench) (rules : List (Kept R)) (sums sums_after : Sums) (i : ℕ) (d new : Kept R) → i < length rules → AreReady E n bench rules sums
    → new.weighted ≡ (get_or rules i d).weighted → IsReady E n bench.found.room new → OnlyUsed bench bench_after
    → sums_after.infeasibility + hard_cost (get_or rules i d) ≡ sums.infeasibility + hard_cost new → sums_after.objective + soft_cost (get_or rules i d) ≡ sums.objective + soft_cost new → AreReady E n bench_after (set rules i new) sums_after
AreReady-next {R} E n bench bench_after rules sums sums_after i d new within are weighted ready used hard soft =
    let old = get_or rules i d in
    let was : IsReady E n bench.found.room old = are.ready i d within in
    let reach : E.reach_of new.weighted.rule ≤ bench_after.keys.room = omega (arith, are.reach i d within, ap (λ (w : Weighted R). E.reach_of w.rule) weighted, used.reach) in
    let long : length new.vector.items ≡ length old.vector.items = ready.terms ∙ ap (λ (w : Weighted R). E.term_count w.rule) weighted ∙ sym was.terms in
    record {
      ready = subst (λ (s : KeyList). All (IsReady E n s.room) (set rules i new)) (sym used.found) (All-set (IsReady E n bench.found.room) rules i new ready are.ready);
      reach = All-set (λ k. E.reach_of k.weighted.rule ≤ bench_after.keys.room) rules i new reach (subst (λ (room : ℕ). All (λ k. E.reach_of k.weighted.rule ≤ room) rules) (sym used.reach) are.reach);
      few = omega (arith, sum_by-set (λ (k : Kept R). length k.vector.items) rules i new d within, long, are.few);
      clean = ap (λ (s : KeyList). s.list) used.found ∙ are.clean;
      infeasibility = omega (arith, sum_by-set hard_cost rules i new d within, hard, are.infeasibility);
      objective = omega (arith, sum_by-set soft_cost rules i new d within, soft, are.objective);
    }

-- the weighted rules stay
pub weights-next : {R : Type 0} (rules : List (Kept R)) (i : ℕ) (d new : Kept R) → new.weighted ≡ (get_or rules i d).weighted → map (λ k. k.weighted) (set rules i new) ≡ map (λ k. k.weighted) rules
weights-next {R} rules i d new same =
    map-set (λ (k : Kept R). k.weighted) rules i new
    ∙ ap (λ (w : Weighted R). set (map (λ (k : Kept R). k.weighted) rules) i w) same
    ∙ sym (map-set (λ (k : Kept R). k.weighted) rules i (get_or rules i d))
    ∙ ap (λ (l : List (Kept R)). map (λ (k : Kept R). k.weighted) l) (set-get_or rules i d)

hard_step : {X : Type 0} (b : Bool) (x rest : ℕ) (f : X → ℕ) (w : X) (ws : List X) → x ≡ f w → rest ≡ sum_by f ws → (if b then x else 0) + rest ≡ sum_by f (if b then w ∷ ws else ws)
hard_step true x rest f w ws is rests = omega (arith, is, rests, sum_by-cons f w ws)
hard_step false x rest f w ws is rests = omega (arith, rests)

soft_step : {X : Type 0} (b : Bool) (x rest : ℕ) (f : X → ℕ) (w : X) (ws : List X) → x ≡ f w → rest ≡ sum_by f ws → (if b then 0 else x) + rest ≡ sum_by f (if not b then w ∷ ws else ws)
soft_step true x rest f w ws is rests = omega (arith, rests)
soft_step false x rest f w ws is rests = omega (arith, is, rests, sum_by-cons f w ws)

cost_counted : {R : Type 0} (E : Ghosts R) (n room : ℕ) (m : Counts) (k : Kept R) → IsReady E n room k → IsExact E m k → k.weighted.penalty * k.deviation ≡ cost_on E m k.weighted
cost_counted E n room m k ready exact = ap (λ (d : ℕ). k.weighted.penalty * d) (ready.sum_is ∙ ap sum exact)

-- what the hard rules cost is what is counted afresh
pub hard_counted : {R : Type 0} (E : Ghosts R) (n room : ℕ) (m : Counts) (rules : List (Kept R)) → All (IsReady E n room) rules → All (IsExact E m) rules → sum_by hard_cost rules ≡ infeasibility_on E m (map (λ k. k.weighted) rules)
hard_counted E n room m [] ready exact = refl
hard_counted {R} E n room m (k ∷ rules) ready exact =
    sum_by-cons hard_cost k rules
    ∙ hard_step k.weighted.hard (k.weighted.penalty * k.deviation) (sum_by hard_cost rules) (cost_on E m) k.weighted (filter (λ w. w.hard) (map (λ (k : Kept R). k.weighted) rules))
    (cost_counted E n room m k (All-head (IsReady E n room) k rules ready) (All-head (IsExact E m) k rules exact))
    (hard_counted E n room m rules (All-tail (IsReady E n room) k rules ready) (All-tail (IsExact E m) k rules exact))

-- what the soft rules cost is what is counted afresh
pub soft_counted : {R : Type 0} (E : Ghosts R) (n room : ℕ) (m : Counts) (rules : List (Kept R)) → All (IsReady E n room) rules → All (IsExact E m) rules → sum_by soft_cost rules ≡ objective_on E m (map (λ k. k.weighted) rules)
soft_counted E n room m [] ready exact = refl
soft_counted {R} E n room m (k ∷ rules) ready exact =
    sum_by-cons soft_cost k rules
    ∙ soft_step k.weighted.hard (k.weighted.penalty * k.deviation) (sum_by soft_cost rules) (cost_on E m) k.weighted (filter (λ w. not w.hard) (map (λ (k : Kept R). k.weighted) rules))
    (cost_counted E n room m k (All-head (IsReady E n room) k rules ready) (All-head (IsExact E m) k rules exact))
    (soft_counted E n room m rules (All-tail (IsReady E n room) k rules ready) (All-tail (IsExact E m) k rules exact))

-- a number of each rule, summed
pub weights_summed : {R : Type 0} (f : Weighted R → ℕ) (rules : List (Kept R))
    → sum_by (λ k. f k.weighted) rules ≡ sum_by f (map (λ k. k.weighted) rules)
weights_summed f [] = refl
weights_summed {R} f (k ∷ rules) =
    omega (
      arith,
      sum_by-cons (λ (k : Kept R). f k.weighted) k rules,
      sum_by-cons f k.weighted (map (λ (k : Kept R). k.weighted) rules),
      weights_summed f rules,
    )

-- ---- rules weighed on other counts than those of their entries

-- a number of the rules of a kind, summed
pub kind_summed : {R : Type 0} (kind : Bool) (f : Weighted R → ℕ) (rules : List (Kept R))
    → sum_by (λ k. if_kind kind f k.weighted) rules
    ≡ sum_by f (filter (λ w. is_kind kind w.hard) (map (λ k. k.weighted) rules))
kind_summed kind f [] = refl
kind_summed {R} kind f (k ∷ rules) =
    sum_by-cons (λ (k : Kept R). if_kind kind f k.weighted) k rules
    ∙ hard_step (is_kind kind k.weighted.hard) (f k.weighted) (sum_by (λ (k : Kept R). if_kind kind f k.weighted) rules)
    f k.weighted (filter (λ w. is_kind kind w.hard) (map (λ (k : Kept R). k.weighted) rules)) refl
    (kind_summed kind f rules)

-- both kinds are all
pub both_kinds : {R : Type 0} (f : Weighted R → ℕ) (weights : List (Weighted R))
    → sum_by f (filter (λ w. is_kind true w.hard) weights) + sum_by f (filter (λ w. is_kind false w.hard) weights)
    ≡ sum_by f weights
both_kinds f [] = refl
both_kinds {R} f (w ∷ weights) =
    omega (
      arith,
      sum_by-cons f w weights,
      hard_step w.hard (f w) (sum_by f (filter (λ w. is_kind true w.hard) weights)) f w
          (filter (λ w. is_kind true w.hard) weights) refl refl,
      soft_step w.hard (f w) (sum_by f (filter (λ w. is_kind false w.hard) weights)) f w
          (filter (λ w. is_kind false w.hard) weights) refl refl,
      either w.hard (f w),
      both_kinds f weights,
    )

-- the next of some rules is ready
pub item_ready : {R : Type 0} (E : Ghosts R) (n room room_now : ℕ) (rules : List (Kept R)) (i : ℕ) (x : Kept R)
    → All (IsReady E n room) rules → i < length rules → x ≡ get_or rules i x → room_now ≡ room → IsReady E n room_now x
item_ready {R} E n room room_now rules i x ready within is same =
    subst (λ (k : Kept R). IsReady E n room_now k) (sym is)
    (subst (λ (r : ℕ). IsReady E n r (get_or rules i x)) (sym same) (ready i x within))

-- what it costs is not large
pub cost_small : {R : Type 0} (E : Ghosts R) (n room : ℕ) (x : Kept R) (deviation : ℕ) → IsReady E n room x
    → deviation ≤ 2 ^ 64 * length x.vector.items → x.weighted.penalty * deviation ≤ 2 ^ 96 * length x.vector.items
cost_small E n room x deviation ready small =
    product_fits x.weighted.penalty deviation (length x.vector.items) ready.penalty_fits small

-- a sum of what rules cost with that of the next
pub small_more : {R : Type 0} (rules : List (Kept R)) (i before after cost : ℕ) (x : Kept R) → i < length rules
    → x ≡ get_or rules i x → cost ≤ 2 ^ 96 * length x.vector.items
    → before ≤ 2 ^ 96 * sum_by (λ k. length k.vector.items) (take i rules) → after ≡ before + cost
    → after ≤ 2 ^ 96 * sum_by (λ k. length k.vector.items) (take (i + 1) rules)
small_more {R} rules i before after cost x within is small so_far more =
    omega (
      arith,
      so_far,
      more,
      small,
      sum_by_more (λ (k : Kept R). length k.vector.items) rules i x within,
      ap (λ (k : Kept R). length k.vector.items) is,
    )

-- a number of the rules of a kind with that of the next
pub kind_more : {R : Type 0} (kind : Bool) (f : Weighted R → ℕ) (rules : List (Kept R)) (i before after more : ℕ)
    (x : Kept R) → i < length rules → x ≡ get_or rules i x → more ≡ if_kind kind f x.weighted
    → before ≡ sum_by (λ k. if_kind kind f k.weighted) (take i rules) → after ≡ before + more
    → after ≡ sum_by (λ k. if_kind kind f k.weighted) (take (i + 1) rules)
kind_more {R} kind f rules i before after more x within is this so_far adds =
    omega (
      arith,
      so_far,
      adds,
      this,
      sum_by_more (λ (k : Kept R). if_kind kind f k.weighted) rules i x within,
      ap (λ (k : Kept R). if_kind kind f k.weighted) is,
    )

-- the number of some rules of a kind is at most that of all
pub kind_part : {R : Type 0} (kind : Bool) (f : Weighted R → ℕ) (rules : List (Kept R)) (i part : ℕ)
    → part ≡ sum_by (λ k. if_kind kind f k.weighted) (take i rules)
    → part ≤ sum_by f (filter (λ w. is_kind kind w.hard) (map (λ k. k.weighted) rules))
kind_part {R} kind f rules i part is =
    omega (
      arith,
      is,
      sum_by-take-le (λ (k : Kept R). if_kind kind f k.weighted) rules i,
      kind_summed kind f rules,
    )

-- with no rule left the number of the rules of a kind is that of all
pub kind_whole : {R : Type 0} (kind : Bool) (f : Weighted R → ℕ) (rules : List (Kept R)) (i whole : ℕ)
    → length rules ≤ i → whole ≡ sum_by (λ k. if_kind kind f k.weighted) (take i rules)
    → whole ≡ sum_by f (filter (λ w. is_kind kind w.hard) (map (λ k. k.weighted) rules))
kind_whole {R} kind f rules i whole past is =
    is
    ∙ ap (λ (l : List (Kept R)). sum_by (λ k. if_kind kind f k.weighted) l) (take_all i rules past)
    ∙ kind_summed kind f rules

-- a bench that was used twice
pub used-again : (first next last : Bench) → OnlyUsed first next → OnlyUsed next last → OnlyUsed first last
used-again first next last before after = record {
  reach = after.reach ∙ before.reach;
  found = after.found ∙ before.found;
}

-- rules are as ready at a bench that was used
pub ready-used : {R : Type 0} (E : Ghosts R) (n : ℕ) (bench used : Bench) (rules : List (Kept R)) (sums : Sums)
    → AreReady E n bench rules sums → OnlyUsed bench used → AreReady E n used rules sums
ready-used {R} E n bench used rules sums are only = record {
  ready = subst (λ (s : KeyList). All (IsReady E n s.room) rules) (sym only.found) are.ready;
  reach = subst (λ (room : ℕ). All (λ k. E.reach_of k.weighted.rule ≤ room) rules) (sym only.reach) are.reach;
  few = are.few;
  clean = ap (λ (s : KeyList). s.list) only.found ∙ are.clean;
  infeasibility = are.infeasibility;
  objective = are.objective;
}

-- nothing has changed but the counts' representation, and a bench was used
pub tallied-kept : {R : Type 0} (E : Ghosts R) (rules : List (Kept R)) (table now : Table)
    (by_team by_team_now : List GameRoom) (bench used : Bench) (sums : Sums)
    → IsTallied E rules table by_team bench sums → now.n ≡ table.n → table_counts now ≡ table_counts table
    → length by_team_now ≡ table.n → All (λ l. 8 * table.n ≤ l.room) by_team_now → OnlyUsed bench used
    → IsTallied E rules now by_team_now used sums
tallied-kept E rules table now by_team by_team_now bench used sums is n counts teams lists only = record {
  ready = subst (λ (k : ℕ). AreReady E k used rules sums) (sym n)
      (ready-used E table.n bench used rules sums is.ready only);
  teams = teams ∙ sym n;
  room = subst (λ (k : ℕ). All (λ (l : GameRoom). 8 * k ≤ l.room) by_team_now) (sym n) lists;
  exact = subst (λ (m : Counts). All (IsExact E m) rules) (sym counts) is.exact;
}
