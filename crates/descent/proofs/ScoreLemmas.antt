-- Scores compared.
use Rattle.std.proofs.Common.{◌≡◌, ℕ, ◌-◌, ◌^◌, ◌<◌, ◌≤◌, true, false, ◌&&◌, ◌||◌, ◌==◌, nat_lt, List, sym, arith}
use Rattle.std.proofs.lemmas.Bool.{false_from_ne_true}
use Rattle.std.proofs.lemmas.Bool.Decides.{nat_tests}
use Rattle.league.specs.Counts.{Counts}
use Rattle.rule_core.specs.declared.rule.Entries.{Ghosts}
use Rattle.descent.specs.Tallies.{IsWithin}
use Rattle.descent.specs.declared.weigh.Sums.{Sums}
use Rattle.descent.specs.declared.weighted.Weighted.{Weighted}
use Rattle.descent.specs.Score.{AreBoundsBelow, IsNoWorse, is_lower, score_on}
use Rattle.descent.specs.declared.score.Score.{Score}

itself : (a b : ℕ) → (nat_lt a a || ((a == a) && nat_lt b b)) ≡ false
itself a b = grind (arith, nat_tests)

between : (a b c d e f : ℕ) → (nat_lt c a || ((c == a) && nat_lt d b)) ≡ true
    → (nat_lt c e || ((c == e) && nat_lt d f)) ≡ false → (nat_lt a e || ((a == e) && nat_lt b f)) ≡ false
between a b c d e f down up = grind (arith, nat_tests)

none_left : (a b c d : ℕ) → c ≡ 0 → (nat_lt a c || ((a == c) && nat_lt b d)) ≡ true → a ≡ 0
none_left a b c d none down = grind (arith, nat_tests)

less_left : (a b c d : ℕ) → c ≡ 0 → (nat_lt a c || ((a == c) && nat_lt b d)) ≡ true → b < d
less_left a b c d none down = grind (arith, nat_tests)

at_most : (a b c d : ℕ) → (nat_lt a c || ((a == c) && nat_lt b d)) ≡ true → a ≤ c
at_most a b c d down = grind (arith, nat_tests)

less_by_one : (a b c d : ℕ) → c ≡ 0 → (nat_lt a c || ((a == c) && nat_lt b d)) ≡ true → b ≤ d - 1
less_by_one a b c d none down = omega (arith, less_left a b c d none down)

-- where the infeasibility isn't 0, a lower score may have any objective
pub bounds-infeasible : (before : Score) → AreBoundsBelow (record { infeasibility = before.infeasibility; objective = 2 ^ 128 - 1 }) before
bounds-infeasible before after down =
    (λ _. at_most after.infeasibility after.objective before.infeasibility before.objective down, λ h. absurd (omega (arith, h)))

-- where the infeasibility is 0, a lower score has a lower objective
pub bounds-feasible : (before : Score) → before.infeasibility ≡ 0
    → AreBoundsBelow (record { infeasibility = 0; objective = before.objective - 1 }) before
bounds-feasible before none after down = (
  λ _. omega (arith, none, at_most after.infeasibility after.objective before.infeasibility before.objective down),
  λ _. less_by_one after.infeasibility after.objective before.infeasibility before.objective none down,
)

-- a score that isn't within the bounds isn't lower
pub beyond-bounds : {R : Type 0} (E : Ghosts R) (weights : List (Weighted R)) (m : Counts) (most : Sums) (before : Score)
    → AreBoundsBelow most before → (IsWithin E most m weights → ⊥) → false ≡ is_lower (score_on E weights m) before
beyond-bounds E weights m most before bounds beyond =
    sym (false_from_ne_true (is_lower (score_on E weights m) before) (λ down.
    beyond (record { infeasibility = (bounds (score_on E weights m) down).0; objective = (bounds (score_on E weights m) down).1 })))

-- a score isn't worse than itself
pub IsNoWorse-itself : (a : Score) → IsNoWorse a a
IsNoWorse-itself a = itself a.infeasibility a.objective

-- what isn't worse than a lower score isn't worse
pub IsNoWorse-lower : (first mid last : Score) → is_lower mid first ≡ true → IsNoWorse last mid → IsNoWorse last first
IsNoWorse-lower first mid last down up =
    between first.infeasibility first.objective mid.infeasibility mid.objective last.infeasibility last.objective down up

-- below a score of infeasibility 0 the objective alone falls
pub lower-feasible : (a b : Score) → b.infeasibility ≡ 0 → is_lower a b ≡ true → a.infeasibility ≡ 0
lower-feasible a b none down = none_left a.infeasibility a.objective b.infeasibility b.objective none down

pub lower-objective : (a b : Score) → b.infeasibility ≡ 0 → is_lower a b ≡ true → a.objective < b.objective
lower-objective a b none down = less_left a.infeasibility a.objective b.infeasibility b.objective none down
