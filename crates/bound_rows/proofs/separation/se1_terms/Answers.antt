use Rattle.std.proofs.Common.{◌<◌, ℕ, ◌*◌, List, length, sym, ap, ◌∙◌, arith}
use Rattle.std.proofs.lemmas.Nat.{mul-le}
use Rattle.std.specs.List.{All}
use Rattle.league.specs.Instance.{class_fits}
use Rattle.league.specs.Meetings.{pairs_of}
use Rattle.league.specs.declared.class.Class.{Class}
use Rattle.league.proofs.FitLemmas.{are_teams-ascending}
use Rattle.league.proofs.SumLemmas.{sum_by-flat_map}
use Rattle.encoding.proofs.ClassSizeLemmas.{pairs_of-ascend}
use Rattle.bound_rows.specs.Parts.{parts_of, se1_parts}
use Rattle.bound_rows.specs.Sizes.{part_size, parts_size}
use Rattle.bound_rows.proofs.CountLemmas.{times-comm}
use Rattle.bound_rows.proofs.SeparationSizes.{pairs_size}
use Rattle.bound_rows.proofs.separation.se1_terms.Goals as goal

pub returns-clause-terms : goal.returns-clause-terms
returns-clause-terms c =
    let n = c.args.n in
    let teams = c.in-Se1.teams in
    let min = c.in-Se1.min in
    let pairs : List (ℕ × ℕ) = pairs_of teams in
    let each : ℕ = parts_size n (se1_parts min (0, 1)) in
    let fits = sym (ap (class_fits n) c.in-Se1.is) ∙ c.requires.fits in
    let orders : All (λ p. p.0 < p.1) pairs = pairs_of-ascend teams (are_teams-ascending n teams fits) in
    ap (λ (k : ℕ). k * c.pair_total.result) c.pair_terms.ensures.terms
    ∙ ap (λ (k : ℕ). each * k) c.pair_total.ensures.count
    ∙ times-comm each (length pairs) ∙ sym (pairs_size n min pairs c.requires.n.at_least orders)
    ∙ sym (sum_by-flat_map (part_size n) (se1_parts min) pairs)
    ∙ sym (ap (λ (class : Class). parts_size n (parts_of n class)) c.in-Se1.is)

pub returns-clause-most : goal.returns-clause-most
returns-clause-most c =
    omega (
      arith,
      mul-le c.pair_terms.result c.pair_total.result 700000000000 780 c.pair_terms.ensures.most
          c.pair_total.ensures.few,
    )
