use Rattle.std.proofs.Common.{◌≡◌, ◌≤◌, ◌+◌, ◌-◌, ◌*◌, min as smaller, ◌∷◌, [], ℕ, ap, ◌∙◌, arith, inl, inr}
use Rattle.std.proofs.lemmas.Bool.{cases_lt}
use Rattle.std.proofs.lemmas.Nat.{mul-le}
use Rattle.std.specs.List.{range_with_len, sum_by}
use Rattle.league.specs.Counts.{slot_count}
use Rattle.league.specs.declared.class.Class.TheVariants.{Se1}
use Rattle.league.proofs.RangeLemmas.{sum_by-range_more}
use Rattle.bound_rows.specs.Sizes.{part_size}
use Rattle.bound_rows.proofs.CountLemmas.{pair_size}
use Rattle.bound_rows.proofs.separation.pair_terms.Goals as goal

pub loop-before-preserved : goal.loop-before-preserved
loop-before-preserved c =
    let place : 0 + c.loop-before.before ≡ c.loop-before.before = omega arith in
    let f : ℕ → ℕ = λ v. part_size c.args.n (Se1 (0 ∷ 1 ∷ []) (v + 1)) in
    record {
      so_far = omega (
        arith,
        c.loop-before.invariant.so_far,
        c.apart_terms-total.ensures.terms,
        sum_by-range_more f 0 c.loop-before.before,
        ap f place,
      );
      most = omega (arith, c.loop-before.invariant.most, c.apart_terms-total.ensures.most);
    }

pub returns-clause-terms : goal.returns-clause-terms
returns-clause-terms c =
    let n = c.args.n in
    let g = λ (v : ℕ). part_size n (Se1 (0 ∷ 1 ∷ []) v) in
    let near : c.min-near.result ≡ smaller c.args.min (slot_count n) =
    c.min-near.ensures
    ∙ ap (λ (s : ℕ). smaller c.args.min s)
    (c.from.ensures ∙ c.slot_count.ensures) in
    let all : c.loop-before.before ≡ c.min-near.result = omega arith in
    let later : c.apart_terms-last.result * c.from-2.result ≡ g c.min-near.result * (c.args.min - c.min-near.result) =
    ap (λ (k : ℕ). k * c.from-2.result) c.apart_terms-last.ensures.terms
    ∙ ap (λ (k : ℕ). g c.min-near.result * k) c.from-2.ensures in
    omega (
      arith,
      pair_size n 0 1 c.args.min c.min-near.result near,
      c.loop-before.invariant.so_far,
      ap (λ (k : ℕ). sum_by (λ v. g (v + 1)) (range_with_len 0 k)) all,
      later,
    )

pub returns-clause-most : goal.returns-clause-most
returns-clause-most c =
    let n = c.args.n in
    let last = c.apart_terms-last.result in
    let more = c.from-2.result in
    let near : c.min-near.result ≡ smaller c.args.min (slot_count n) =
    c.min-near.ensures
    ∙ ap (λ (s : ℕ). smaller c.args.min s)
    (c.from.ensures ∙ c.slot_count.ensures) in
    let few : slot_count n ≤ 78 = omega (arith, c.requires.at_most) in
    let later : last * more ≤ 158 * 4294967295 =
    elim (cases_lt c.args.min (slot_count n)) [
      | inl short ↦
          let none : more ≡ 0 = omega (arith, near, short, c.from-2.ensures) in
          omega (arith, mul-le last more 12404 0 c.apart_terms-last.ensures.most (omega (arith, none)))
      | inr long ↦
          let whole : slot_count n ≤ c.min-near.result = omega (arith, near, long) in
          mul-le last more 158 4294967295 (c.apart_terms-last.ensures.long whole) (omega (arith, c.from-2.ensures, c.ranges.min.fits))
    ] in
    omega (arith, later, c.loop-before.invariant.most, near, few)
