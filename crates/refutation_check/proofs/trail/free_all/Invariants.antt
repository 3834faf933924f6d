use Rattle.std.proofs.Common.{◌≡◌, ◌≢◌, ℕ, length, take}
use Rattle.std.specs.List.{All}
use Rattle.rows.specs.Values.{valued}
use Rattle.rows.specs.declared.partial.Value.TheVariants.{Free}
use Rattle.refutation_check.proofs.trail.free_all.Given as goal

abbrev pub invariant-loop-var : goal.invariant-loop-var
invariant-loop-var l = record {
  freed : All (λ v. valued l.partial v ≡ Free) (take l.var-index l.vars);
  kept : (v : ℕ) → valued l.partial v ≢ Free → valued l.fn.partial v ≢ Free;
  same : length l.partial ≡ length l.fn.partial;
}
