use Rattle.std.proofs.Common.{◌∙◌}
use Rattle.encoding.proofs.NumberLemmas.{meetings_are, meetings_few, meetings_of-teams}
use Rattle.resume.proofs.system.season_meetings.Goals as goal

pub returns-clause-meetings : goal.returns-clause-meetings
returns-clause-meetings c =
    meetings_of-teams c.args.n c.deref.result.now c.in_ok-meetings.meetings.items
    (c.deref.ensures.value ∙ c.in_ok-teams.ensures) c.in_ok-meetings.ensures

pub returns-clause-fit : goal.returns-clause-fit
returns-clause-fit c =
    (meetings_are c.args.n c.in_ok-meetings.meetings.items (returns-clause-meetings c)).fit

pub returns-clause-few : goal.returns-clause-few
returns-clause-few c =
    meetings_few c.args.n c.in_ok-meetings.meetings.items c.requires.at_most
    (meetings_are c.args.n c.in_ok-meetings.meetings.items (returns-clause-meetings c))
