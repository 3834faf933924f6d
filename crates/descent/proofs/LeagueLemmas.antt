-- Weighted rules of a league's constraints: what they give and cost is what the league says.
use Rattle.std.proofs.Common.{◌≡◌, ◌↔◌, ℕ, ◌*◌, ◌<◌, ◌≤◌, max, Bool, true, false, not, if◌then◌else◌, List, [], ◌∷◌, length, map, get_or, refl, ap, ◌∙◌, arith}
use Rattle.std.proofs.lemmas.List.Elements.{All-cons, All-nil}
use Rattle.std.proofs.lemmas.List.Sums.{sum_by-cons}
use Rattle.std.proofs.Math.Nat.{mul-le-mul}
use Rattle.std.specs.List.{All, AllZip, filter, sum, sum_by}
use Rattle.league.specs.Accepted.{MeetsHard, hard_of, infeasibility, objective}
use Rattle.league.specs.Counts.{Counts}
use Rattle.league.specs.Deviation.{deviation_of, vector_of}
use Rattle.league.specs.Instance.{Instance}
use Rattle.league.specs.declared.class.Class.{Class}
use Rattle.league.specs.declared.class.Constraint.{Constraint}
use Rattle.league.proofs.AcceptedLemmas.{All-from_sum_zero, MeetsHard-from_sum, sum-from_MeetsHard, sum_zero-from_All}
use Rattle.league.proofs.SumLemmas.{sum_by-same}
use Rattle.rule_core.specs.Rule.{IsRuleOf}
use Rattle.rule_core.specs.declared.rule.Entries.{Ghosts}
use Rattle.deviation.proofs.EntryLemmas.{vector-by_entries}
use Rattle.descent.specs.League.{AreRulesOf, IsWeightedOf, hard_sum, price_of}
use Rattle.descent.specs.Tallies.{all_terms, cost_on, infeasibility_on, objective_on, vector_on}
use Rattle.descent.specs.declared.weighted.Weighted.{Weighted}

-- the vector of a constraint's rule is the constraint's
vector-same : {R : Type 0} (E : Ghosts R) (n : ℕ) (m : Counts) (class : Class) (rule : R) → IsRuleOf E n class rule → vector_on E m rule ≡ vector_of n m class
vector-same E n m class rule is = vector-by_entries n m class (E.term_count rule) (λ key. E.entry rule key m) (vector_on E m rule) (is.terms m) (λ k. is.entries k m) refl

vectors_zip : {R : Type 0} (E : Ghosts R) (n least : ℕ) (m : Counts) (constraints : List Constraint) (weights : List (Weighted R)) → AllZip (IsWeightedOf E n least) constraints weights → map (λ w. vector_on E m w.rule) weights ≡ map (λ c. vector_of n m c.class) constraints
vectors_zip E n least m [] [] all = refl
vectors_zip E n least m [] (w ∷ weights) all = absurd all
vectors_zip E n least m (c ∷ constraints) [] all = absurd all
vectors_zip {R} E n least m (c ∷ constraints) (w ∷ weights) all =
    ap (λ (v : List ℕ). v ∷ map (λ (x : Weighted R). vector_on E m x.rule) weights) (vector-same E n m c.class w.rule all.0.rule)
    ∙ ap (λ (l : List (List ℕ)). vector_of n m c.class ∷ l) (vectors_zip E n least m constraints weights all.1)

-- the vectors are the constraints'
pub vectors-league : {R : Type 0} (E : Ghosts R) (least : ℕ) (league : Instance) (weights : List (Weighted R)) (m : Counts) → AreRulesOf E least league weights → map (λ w. vector_on E m w.rule) weights ≡ map (λ c. vector_of league.n m c.class) league.constraints
vectors-league E least league weights m are = vectors_zip E league.n least m league.constraints weights are

cost-same : {R : Type 0} (E : Ghosts R) (n least : ℕ) (m : Counts) (c : Constraint) (w : Weighted R) → IsWeightedOf E n least c w → cost_on E m w ≡ price_of least c * deviation_of n m c.class
cost-same E n least m c w is =
    ap (λ (p : ℕ). p * sum (vector_on E m w.rule)) is.penalty
    ∙ ap (λ (v : List ℕ). price_of least c * sum v) (vector-same E n m c.class w.rule is.rule)

price_hard : (b : Bool) (x y d : ℕ) → b ≡ true → (if b then x else y) * d ≡ x * d
price_hard true x y d is = refl
price_hard false x y d is = absurd (cc)

price_soft : (b : Bool) (x y d : ℕ) → not b ≡ true → (if b then x else y) * d ≡ y * d
price_soft true x y d is = absurd (cc)
price_soft false x y d is = refl

-- one item more of two lists that keep or leave it alike
sum_kept : {X Y : Type 0} (a b : Bool) (f : X → ℕ) (g : Y → ℕ) (x : X) (y : Y) (xs : List X) (ys : List Y) → a ≡ b → (b ≡ true → f x ≡ g y) → sum_by f xs ≡ sum_by g ys → sum_by f (if a then x ∷ xs else xs) ≡ sum_by g (if b then y ∷ ys else ys)
sum_kept true true f g x y xs ys same is rest = omega (arith, sum_by-cons f x xs, sum_by-cons g y ys, is refl, rest)
sum_kept true false f g x y xs ys same is rest = absurd (cc)
sum_kept false true f g x y xs ys same is rest = absurd (cc)
sum_kept false false f g x y xs ys same is rest = rest

hard_zip : {R : Type 0} (E : Ghosts R) (n least : ℕ) (m : Counts) (constraints : List Constraint) (weights : List
    (Weighted R)) → AllZip (IsWeightedOf E n least) constraints weights
    → sum_by (cost_on E m) (filter (λ w. w.hard) weights)
    ≡ sum_by (λ c. max c.penalty least * deviation_of n m c.class) (filter (λ c. c.hard) constraints)
hard_zip E n least m [] [] all = refl
hard_zip E n least m [] (w ∷ weights) all = absurd all
hard_zip E n least m (c ∷ constraints) [] all = absurd all
hard_zip {R} E n least m (c ∷ constraints) (w ∷ weights) all =
    sum_kept w.hard c.hard (cost_on E m) (λ x. max x.penalty least * deviation_of n m x.class) w c (filter (λ (x : Weighted R). x.hard) weights) (filter (λ (x : Constraint). x.hard) constraints) all.0.hard
    (λ hard. cost-same E n least m c w all.0 ∙ price_hard c.hard (max c.penalty least) c.penalty (deviation_of n m c.class) hard)
    (hard_zip E n least m constraints weights all.1)

-- what the hard rules cost is what the hard constraints cost
pub infeasibility-league : {R : Type 0} (E : Ghosts R) (least : ℕ) (league : Instance) (weights : List (Weighted R)) (m : Counts) → AreRulesOf E least league weights → infeasibility_on E m weights ≡ hard_sum least league m
infeasibility-league E least league weights m are = hard_zip E league.n least m league.constraints weights are

soft_zip : {R : Type 0} (E : Ghosts R) (n least : ℕ) (m : Counts) (constraints : List Constraint) (weights : List
    (Weighted R)) → AllZip (IsWeightedOf E n least) constraints weights
    → sum_by (cost_on E m) (filter (λ w. not w.hard) weights)
    ≡ sum_by (λ c. c.penalty * deviation_of n m c.class) (filter (λ c. not c.hard) constraints)
soft_zip E n least m [] [] all = refl
soft_zip E n least m [] (w ∷ weights) all = absurd all
soft_zip E n least m (c ∷ constraints) [] all = absurd all
soft_zip {R} E n least m (c ∷ constraints) (w ∷ weights) all =
    sum_kept (not w.hard) (not c.hard) (cost_on E m) (λ x. x.penalty * deviation_of n m x.class) w c (filter (λ (x : Weighted R). not x.hard) weights) (filter (λ (x : Constraint). not x.hard) constraints) (ap not all.0.hard)
    (λ soft. cost-same E n least m c w all.0 ∙ price_soft c.hard (max c.penalty least) c.penalty (deviation_of n m c.class) soft)
    (soft_zip E n least m constraints weights all.1)

-- what the soft rules cost is the objective
pub objective-league : {R : Type 0} (E : Ghosts R) (least : ℕ) (league : Instance) (weights : List (Weighted R)) (m : Counts) → AreRulesOf E least league weights → objective_on E m weights ≡ objective league m
objective-league E least league weights m are = soft_zip E league.n least m league.constraints weights are

max_none : (x : ℕ) → max x 0 ≡ x
max_none x = omega arith

-- with the penalties as they stand it is the infeasibility
pub hard_sum-own : (league : Instance) (m : Counts) → hard_sum 0 league m ≡ infeasibility league m
hard_sum-own league m =
    sum_by-same (λ c. max c.penalty 0 * deviation_of league.n m c.class) (λ c. c.penalty * deviation_of league.n m c.class)
    (λ c. ap (λ (p : ℕ). p * deviation_of league.n m c.class) (max_none c.penalty)) (hard_of league.constraints)

none_free : (p d : ℕ) → 0 < p → p * d ≡ 0 → d ≡ 0
none_free p d some none =
    let one : 1 ≤ p = omega arith in
    let self : d ≤ d = omega arith in
    let le : 1 * d ≤ p * d = mul-le-mul one self in
    omega (arith, le, none)

times_none : (p d : ℕ) → d ≡ 0 → p * d ≡ 0
times_none p d none = ap (λ (x : ℕ). p * x) none ∙ omega arith

dear : (p least : ℕ) → 0 < least → 0 < max p least
dear p least some = omega arith

-- where no hard constraint is free, all of them are met exactly where they cost nothing
pub hard_sum-met : (least : ℕ) (league : Instance) (m : Counts) → 0 < least → (hard_sum least league m ≡ 0) ↔ MeetsHard league m
hard_sum-met least league m some =
    let hard : List Constraint = hard_of league.constraints in
    let deviation : Constraint → ℕ = λ c. deviation_of league.n m c.class in
    let price : Constraint → ℕ = λ c. max c.penalty least in (
      λ none. MeetsHard-from_sum league m (sum_zero-from_All deviation hard (λ k d lt. none_free (price (get_or hard k d)) (deviation (get_or hard k d)) (dear (get_or hard k d).penalty least some) (All-from_sum_zero (λ c. price c * deviation c) hard none k d lt))),
      λ met. sum_zero-from_All (λ c. price c * deviation c) hard (λ k d lt. times_none (price (get_or hard k d)) (deviation (get_or hard k d)) (All-from_sum_zero deviation hard (sum-from_MeetsHard league m met) k d lt)),
    )

-- the rules are of the league's teams
pub teams-league : {R : Type 0} (E : Ghosts R) (n least : ℕ) (constraints : List Constraint) (weights : List (Weighted R)) → AllZip (IsWeightedOf E n least) constraints weights → All (λ w. E.team_count w.rule ≡ n) weights
teams-league {R} E n least [] [] all = All-nil (λ (w : Weighted R). E.team_count w.rule ≡ n)
teams-league E n least [] (w ∷ weights) all = absurd all
teams-league E n least (c ∷ constraints) [] all = absurd all
teams-league E n least (c ∷ constraints) (w ∷ weights) all = All-cons (λ x. E.team_count x.rule ≡ n) w weights all.0.rule.teams (teams-league E n least constraints weights all.1)

-- the rules have at most 1,600 entries each
pub terms-league : {R : Type 0} (E : Ghosts R) (n least : ℕ) (constraints : List Constraint) (weights : List (Weighted R)) → AllZip (IsWeightedOf E n least) constraints weights → all_terms E weights ≤ 1600 * length constraints
terms-league E n least [] [] all = omega arith
terms-league E n least [] (w ∷ weights) all = absurd all
terms-league E n least (c ∷ constraints) [] all = absurd all
terms-league {R} E n least (c ∷ constraints) (w ∷ weights) all =
    omega (arith, sum_by-cons (λ (x : Weighted R). E.term_count x.rule) w weights, all.0.rule.short, terms-league E n least constraints weights all.1)
