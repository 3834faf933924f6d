use Rattle.std.proofs.Common.{◌≡◌, ℕ, ◌*◌, ◌/◌, ◌++◌, List, [], ap, ◌∙◌}
use Rattle.league.specs.declared.class.Constraint.{Constraint}
use Rattle.rand_pcg.specs.Lcg.{Lcg}
use Rattle.instance_gen.specs.Draws.{after, seeded}
use Rattle.instance_gen.specs.Made.{fixed_first, fixed_last, from_ca2, from_ca4, from_ga1, from_br1}
use Rattle.instance_gen.specs.Made.{made_ca1, made_ca2, made_ca4, made_ga1, made_br1, made_list}
use Rattle.instance_gen.proofs.MadeLemmas.{listed-next}
use Rattle.instance_gen.proofs.made.constraints_of.Goals as goal

pub returns : goal.returns
returns c =
    let n : ℕ = c.args.circle.now.n in
    let g : Lcg = seeded c.args.seed in
    let to_ca2 : c.push_drawn.new.rng ≡ from_ca2 n g = c.in_ok-push_drawn.ensures.rest
    ∙ ap (after (5 * (c.n-half.result / 2))) c.generator-rng.ensures
    ∙ ap (λ (k : ℕ). after (5 * (k / 2)) g) c.n-half.ensures.n in
    let to_ca4 : c.push_drawn-2.new.rng ≡ from_ca4 n g =
    c.in_ok-push_drawn-2.ensures.rest ∙ ap (after (5 * 4)) to_ca2 in
    let to_ga1 : c.push_drawn-3.new.rng ≡ from_ga1 n g =
    c.in_ok-push_drawn-3.ensures.rest ∙ ap (after (6 * 2)) to_ca4 in
    let to_br1 : c.push_drawn-4.new.rng ≡ from_br1 n g =
    c.in_ok-push_drawn-4.ensures.rest ∙ ap (after (2 * 4)) to_ga1 in
    let ca1s : List Constraint = made_list (made_ca1 n) 5 (n / 2) g in
    let ca2s : List Constraint = made_list (made_ca2 n) 5 4 (from_ca2 n g) in
    let ca4s : List Constraint = made_list (made_ca4 n) 6 2 (from_ca4 n g) in
    let ga1s : List Constraint = made_list (made_ga1 n) 2 4 (from_ga1 n g) in
    let br1s : List Constraint = made_list (made_br1 n) 3 (n / 2) (from_br1 n g) in
    let first : c.push_drawn.new.constraints.items ≡ ca1s =
    listed-next (λ r. made_list (made_ca1 n) 5 (c.n-half.result / 2) r) c.new-constraints.result.items
    c.push_drawn.new.constraints.items [] _ g c.in_ok-push_drawn.ensures.list c.new-constraints.ensures.items
    c.generator-rng.ensures
    ∙ ap (λ (k : ℕ). made_list (made_ca1 n) 5 (k / 2) g) c.n-half.ensures.n in
    let second : c.push_drawn-2.new.constraints.items ≡ ca1s ++ ca2s =
    listed-next (λ r. made_list (made_ca2 n) 5 4 r) c.push_drawn.new.constraints.items
    c.push_drawn-2.new.constraints.items ca1s _ (from_ca2 n g) c.in_ok-push_drawn-2.ensures.list first to_ca2 in
    let third : c.push_first.new.constraints.items ≡ ca1s ++ ca2s ++ fixed_first n =
    c.in_ok-push_first.ensures ∙ ap (λ (l : List Constraint). l ++ fixed_first n) second in
    let fourth : c.push_drawn-3.new.constraints.items ≡ ca1s ++ ca2s ++ fixed_first n ++ ca4s =
    listed-next (λ r. made_list (made_ca4 n) 6 2 r) c.push_first.new.constraints.items
    c.push_drawn-3.new.constraints.items (ca1s ++ ca2s ++ fixed_first n) _ (from_ca4 n g)
    c.in_ok-push_drawn-3.ensures.list third to_ca4 in
    let fifth : c.push_drawn-4.new.constraints.items ≡ ca1s ++ ca2s ++ fixed_first n ++ ca4s ++ ga1s =
    listed-next (λ r. made_list (made_ga1 n) 2 4 r) c.push_drawn-3.new.constraints.items
    c.push_drawn-4.new.constraints.items (ca1s ++ ca2s ++ fixed_first n ++ ca4s) _ (from_ga1 n g)
    c.in_ok-push_drawn-4.ensures.list fourth to_ga1 in
    let sixth : c.push_drawn-5.new.constraints.items ≡ ca1s ++ ca2s ++ fixed_first n ++ ca4s ++ ga1s ++ br1s =
    listed-next (λ r. made_list (made_br1 n) 3 (c.n-half.result / 2) r) c.push_drawn-4.new.constraints.items
    c.push_drawn-5.new.constraints.items (ca1s ++ ca2s ++ fixed_first n ++ ca4s ++ ga1s) _ (from_br1 n g)
    c.in_ok-push_drawn-5.ensures.list fifth to_br1
    ∙ ap (λ (k : ℕ). ca1s ++ ca2s ++ fixed_first n ++ ca4s ++ ga1s ++ made_list (made_br1 n) 3 (k / 2) (from_br1 n g))
    c.n-half.ensures.n in
    c.in_ok-push_last.ensures ∙ ap (λ (l : List Constraint). l ++ fixed_last n) sixth
