use Rattle.std.proofs.Common.{◌∙◌}
use Rattle.season_misses.specs.Phrases as phrases
use Rattle.season_misses.proofs.PieceLemmas.{mapped_next}
use Rattle.season_misses.proofs.teams.names_of.Goals as goal

pub loop-team-preserved : goal.loop-team-preserved
loop-team-preserved c =
    mapped_next (phrases.name_of c.args.names.now) c.args.teams.now c.loop-team.team-index _ c.loop-team.found.items _ c.new.result c.loop-team-test.true c.loop-team.invariant c.in_ok-push.ensures.items (c.new.ensures ∙ c.in_ok-name.ensures.ok ∙ c.name_of.ensures)
