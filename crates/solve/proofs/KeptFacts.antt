-- Worked budgets, so that a wrong definition of those to which a run kept does not check.
use Rattle.std.proofs.Common.{◌≡◌, None, Some, inl, inr, refl, arith}
use Rattle.robin_watch.specs.declared.budgets.Budgets.{Budgets}
use Rattle.solve.specs.Kept.{AreKeptTo}

abbrev set : Budgets
set = record { conflicts = None; moves = 10; tries = 2; patterns = 500; seed = 1 }

-- of a run that may be stopped: 7 clauses where any number was set, 3 moves, no clause of patterns
pub kept-stopped : AreKeptTo set (Unit {0}) (record set { conflicts = Some 7; moves = 3; patterns = 0 })
kept-stopped = record {
  conflicts = inr (tt, (7, refl, tt));
  patterns = inr (tt, (0, refl, omega arith));
  moves = inr (tt, (3, refl, omega arith));
  tries = refl;
  seed = refl;
}

-- a run that nothing may stop has no budget of conflicts then
pub kept-unstopped : AreKeptTo set ⊥ (record set { conflicts = Some 7 }) → ⊥
kept-unstopped are = elim are.conflicts [
  | inl same ↦ cc
  | inr lower ↦ lower.0
]

-- no more moves, and no other seed
pub kept-more : AreKeptTo set (Unit {0}) (record set { moves = 11 }) → ⊥
kept-more are = elim are.moves [
  | inl same ↦ cc
  | inr (may, (k, is, below)) ↦ let same : 11 ≡ k = cc in omega (arith, same, below)
]

pub kept-seed : AreKeptTo set (Unit {0}) (record set { seed = 2 }) → ⊥
kept-seed are = let same : 2 ≡ 1 = are.seed in cc
