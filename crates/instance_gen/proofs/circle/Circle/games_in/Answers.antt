use Rattle.std.proofs.Common.{◌≡◌, ℕ, ◌<◌, List, ap, arith, refl, subst, sym, ◌∙◌}
use Rattle.std.specs.Int.{from_bool}
use Rattle.std.specs.List.{All}
use Rattle.std.specs.Ordering.{nat_cmp}
use Rattle.league.specs.Counts.{slot_count}
use Rattle.league.specs.Sets.{IsAscending}
use Rattle.league.proofs.WrongLemmas.{from_bool-le}
use Rattle.patterns.specs.PatternSet.{pattern_of}
use Rattle.instance_gen.specs.Made.{circle}
use Rattle.instance_gen.proofs.MadeLemmas.{games_in-next, letters_count, patterns_count, read_made, slots_few}
use Rattle.instance_gen.proofs.circle.Circle.games_in.Goals as goal

pub pattern-pattern-requires : goal.pattern-pattern-requires
pattern-pattern-requires c =
    omega (arith, patterns_count c.args.self.now.n c.args.self.now.patterns c.args.self.now.venues)

pub side-requires : goal.side-requires
side-requires c =
    let n : ℕ = c.args.self.now.n in
    let P : List ℕ → Type 0 = λ slots. All (λ s. s < slot_count n) slots in
    let below : P c.numbers-numbers.result.now = subst P (sym c.numbers-numbers.ensures.numbers) c.requires.slots in
    omega (
      arith,
      letters_count n c.args.team.0 c.args.self.now.patterns c.pattern-pattern.result.now c.args.self.now.venues
          c.pattern-pattern.ensures,
      below c.loop-slot.slot-index 0 c.loop-slot-test.true,
    )

pub overflow_add-games : goal.overflow_add-games
overflow_add-games c =
    let n : ℕ = c.args.self.now.n in
    let P : List ℕ → Type 0 = λ slots. All (λ s. s < slot_count n) slots in
    let below : P c.numbers-numbers.result.now = subst P (sym c.numbers-numbers.ensures.numbers) c.requires.slots in
    let Ascends : List ℕ → Type 0 = λ slots. IsAscending nat_cmp slots in
    let ascending : Ascends c.numbers-numbers.result.now =
    subst Ascends (sym c.numbers-numbers.ensures.numbers) c.numbers-numbers.ensures.ascending in
    omega (
      arith,
      slots_few n c.numbers-numbers.result.now c.args.self.now.teams
          ascending
          below,
      c.loop-slot.invariant.bounded,
      c.loop-slot-test.true,
      from_bool-le c.is_same.result c.from-games.result c.from-games.ensures,
    )

pub loop-slot-preserved : goal.loop-slot-preserved
loop-slot-preserved c =
    let n : ℕ = c.args.self.now.n in
    let P : List ℕ → Type 0 = λ slots. All (λ s. s < slot_count n) slots in
    let below : P c.numbers-numbers.result.now = subst P (sym c.numbers-numbers.ensures.numbers) c.requires.slots in
    let is_row : c.pattern-pattern.result.now ≡ pattern_of n (circle n) c.args.team.0 =
    read_made (pattern_of n (circle n)) n c.args.team.0 c.args.self.now.patterns c.pattern-pattern.result.now
    c.args.self.now.venues c.pattern-pattern.ensures in
    record {
      counted = games_in-next n c.args.team.0 c.loop-slot.slot-index c.loop-slot.games c.from-games.result _
          c.args.side c.side.result c.pattern-pattern.result.now c.numbers-numbers.result.now
          c.args.self.now.teams c.requires.team c.requires.side c.loop-slot-test.true below is_row c.side.ensures
          (c.from-games.ensures ∙ ap from_bool c.is_same.ensures) c.loop-slot.invariant.counted refl;
      bounded = omega (
        arith,
        c.loop-slot.invariant.bounded,
        from_bool-le c.is_same.result c.from-games.result c.from-games.ensures,
      );
    }
