use Rattle.std.proofs.Common.{[], ap, arith, refl, ◌∙◌}
use Rattle.std.proofs.lemmas.List.{take_all}
use Rattle.std.specs.List.{flat_map}
use Rattle.league.specs.Capacity.{meetings_with}
use Rattle.league.specs.declared.class.Side.TheVariants.{H}
use Rattle.encoding.proofs.GrownLemmas.{grown}
use Rattle.encoding.proofs.meetings.all_meetings.Goals as goal

pub loop-team-preserved : goal.loop-team-preserved
loop-team-preserved c =
    let teams = c.args.teams.now in
    grown (λ i. meetings_with H i teams) [] c.loop-team.meetings.items c.add_home_meetings.new.meetings.items _ teams
    c.loop-team.team-index 0 c.loop-team-test.true c.loop-team.invariant c.in_ok-add_home_meetings.ensures refl

pub returns : goal.returns
returns c =
    let teams = c.args.teams.now in
    c.loop-team.invariant
    ∙ ap (flat_map (λ i. meetings_with H i teams)) (take_all c.loop-team.team-index teams (omega arith))
