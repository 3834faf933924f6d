use Rattle.std.proofs.Common.{◌<◌, ◌≤◌, ℕ, ◌+◌, List, [], ◌∷◌, length, ap, sym, subst, ◌∙◌, arith}
use Rattle.std.proofs.lemmas.List.FromFn.{length-range_with_len}
use Rattle.std.specs.List.{range_with_len}
use Rattle.league.specs.Capacity.{meetings_with}
use Rattle.league.specs.Counts.{slot_count}
use Rattle.league.specs.declared.class.Side.TheVariants.{Both}
use Rattle.encoding.specs.Keys.{IsListable, most_counted}
use Rattle.encoding.specs.Lists.{games_in, meetings_in_order}
use Rattle.encoding.specs.declared.keys.Counted.{Counted}
use Rattle.encoding.proofs.HeldKeys.{in_order-one, one_team, same_key}
use Rattle.encoding.proofs.NumberLemmas.{run_ascends}
use Rattle.encoding.proofs.keys.separation_key.Goals as goal

pub returns-clause-key : goal.returns-clause-key
returns-clause-key c = λ teams.
    let n = c.args.n in
    let i = c.args.first in
    let j = c.args.second in
    let window = c.consecutive-2.result.now in
    same_key n c.new.result _ _ _ _ c.new.ensures.low c.new.ensures.high c.new.ensures.counted
    (ap (λ (ts : List ℕ). games_in n (meetings_in_order Both i ts) window) c.consecutive.ensures.numbers
    ∙ ap (λ (ps : List (ℕ × ℕ)). games_in n ps window) (in_order-one i j c.requires.pair.order)
    ∙ ap (λ (ss : List ℕ). games_in n (meetings_with Both i (j ∷ [])) ss)
    (c.consecutive-2.ensures.numbers ∙ ap (range_with_len c.args.place) c.separation_window.ensures))

pub returns-clause-listable : goal.returns-clause-listable
returns-clause-listable c =
    let n = c.args.n in
    let within : c.args.place + c.separation_window.result ≤ slot_count n =
    omega (arith, c.requires.place, c.separation_window.ensures) in
    let first : c.args.first < n = omega (arith, c.requires.pair.order, c.requires.pair.within) in
    subst (λ (k : Counted). IsListable n k) (sym c.new.ensures.counted) (
      first,
      one_team n c.args.second c.consecutive.result.now c.requires.pair.within c.consecutive.ensures.numbers,
      run_ascends n c.args.place c.separation_window.result c.consecutive-2.result.now
          c.consecutive-2.ensures.numbers within,
    )

pub returns-clause-few : goal.returns-clause-few
returns-clause-few c =
    omega (
      arith,
      ap most_counted c.new.ensures.counted,
      ap length c.consecutive.ensures.numbers,
      length-range_with_len c.args.second 1,
    )
