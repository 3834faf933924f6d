use Rattle.std.proofs.Common.{◌≡◌, arith, ap, ◌∙◌, ℕ, ◌-◌}
use Rattle.std.specs.List.{flat_map, range_with_len}
use Rattle.circle_method.specs.Circle.{slot_games}
use Rattle.circle_method.proofs.GameLemmas.{single_games-more}
use Rattle.circle_method.proofs.SingleLemmas.{single_breaks_of, single_count_of, single_round_robin_of}
use Rattle.circle_method.proofs.circle.single.Goals as goal

pub loop-slot-preserved : goal.loop-slot-preserved
loop-slot-preserved c = single_games-more c.args.n c.loop-slot.slot c.loop-slot.schedule _ c.loop-slot.invariant c.in_ok-add_slot.ensures

pub returns-clause-round_robin : goal.returns-clause-round_robin
returns-clause-round_robin c =
    single_round_robin_of c.args.n c.loop-slot.schedule c.requires.teams (c.loop-slot.invariant ∙ (let all : c.loop-slot.slot ≡ c.args.n - 1 = omega arith in ap (λ (k : ℕ). flat_map (slot_games c.args.n) (range_with_len 0 k)) all))

pub returns-clause-count : goal.returns-clause-count
returns-clause-count c =
    single_count_of c.args.n c.loop-slot.schedule c.requires.teams (c.loop-slot.invariant ∙ (let all : c.loop-slot.slot ≡ c.args.n - 1 = omega arith in ap (λ (k : ℕ). flat_map (slot_games c.args.n) (range_with_len 0 k)) all))

pub returns-clause-breaks : goal.returns-clause-breaks
returns-clause-breaks c =
    single_breaks_of c.args.n c.loop-slot.schedule c.requires.teams (c.loop-slot.invariant ∙ (let all : c.loop-slot.slot ≡ c.args.n - 1 = omega arith in ap (λ (k : ℕ). flat_map (slot_games c.args.n) (range_with_len 0 k)) all))
