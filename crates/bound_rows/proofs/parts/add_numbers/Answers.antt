use Rattle.std.proofs.Common.{◌≡◌, ℕ, ◌+◌, ◌-◌, [], ◌∷◌, ap, arith, refl, ◌∙◌}
use Rattle.league.specs.declared.class.Class.TheVariants.{Se1}
use Rattle.bound_rows.proofs.PartLemmas.{range-more}
use Rattle.bound_rows.proofs.parts.add_numbers.Goals as goal

number_of : (min fewer : ℕ) → min - fewer ≡ min + 1 - (1 + fewer)
number_of min fewer = omega arith

pub loop-fewer-preserved : goal.loop-fewer-preserved
loop-fewer-preserved c =
    range-more (λ u. Se1 (c.args.first ∷ c.args.second ∷ []) (c.args.min + 1 - u)) 1 c.loop-fewer.fewer
    (1 + c.loop-fewer.fewer) c.args.made.now.items c.loop-fewer.made.items _ _ refl c.loop-fewer.invariant
    (c.in_ok-se1_part.ensures
    ∙ ap (λ (k : ℕ). Se1 (c.args.first ∷ c.args.second ∷ []) k) (number_of c.args.min c.loop-fewer.fewer))
    c.in_ok-push.ensures.items
