use Rattle.std.proofs.Common.{List, ◌++◌, ap, sym, ◌∙◌, append-nil, arith}
use Rattle.std.specs.List.{flat_map}
use Rattle.season_misses.specs.Reasons.{by_gap}
use Rattle.season_misses.proofs.StepLemmas.{neighbours-few}
use Rattle.league.specs.declared.game.Game.{Game}
use Rattle.season_misses.proofs.gaps.push_by_gaps.Goals as goal

pub returns : goal.returns
returns c =
    sym (append-nil c.loop-rest.reasons.items)
    ∙ sym (ap (λ (two : List (Game × Game)). c.loop-rest.reasons.items ++ flat_map (by_gap c.args.key c.args.min) two) (neighbours-few c.loop-rest.rest.now (omega arith)))
    ∙ c.loop-rest.invariant
