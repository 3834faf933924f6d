use Rattle.std.proofs.Common.{ℕ, List, sym, subst}
use Rattle.league.specs.Counts.{teams_of}
use Rattle.encoding.specs.Ascending.{AreMeetings}
use Rattle.encoding.proofs.MeetingOrder.{AreMeetings-home, AreTeams-all}
use Rattle.encoding.proofs.TieLemmas.{tie_literals, tie_terms}
use Rattle.encoding.proofs.venue_rows.list_tie.Goals as goal

pub list_games-requires-clause-meetings : goal.list_games-requires-clause-meetings
list_games-requires-clause-meetings c =
    subst (λ (n : ℕ). AreMeetings n c.args.meetings.now) (sym c.n-n.ensures.n)
    (subst (λ (ms : List (ℕ × ℕ)). AreMeetings c.args.season.now ms) (sym c.requires.meetings)
    (AreMeetings-home c.args.season.now c.args.team (teams_of c.args.season.now) c.requires.team
    (AreTeams-all c.args.season.now)))

pub returns-clause-literals : goal.returns-clause-literals
returns-clause-literals c =
    tie_literals c.args.season.now c.n-n.result c.args.team c.args.slot c.h_at.result c.args.meetings.now
    c.list_games.new.self.literals.items c.new-home.result
    c.n-n.ensures.n c.requires.meetings c.in_ok-list_games.ensures.listed c.h_at.ensures.var c.new-home.ensures
    c.push.new.self.items c.negate.result c.negate.ensures c.in_ok-push.ensures.items

pub returns-clause-terms : goal.returns-clause-terms
returns-clause-terms c =
    tie_terms c.args.season.now c.n-n.result c.args.team c.args.slot c.h_at.result c.args.meetings.now
    c.list_games.new.self.literals.items c.new-home.result
    c.n-n.ensures.n c.requires.meetings c.in_ok-list_games.ensures.listed c.h_at.ensures.var c.new-home.ensures
    c.deref.result.now c.weigh.new.terms.items c.from.result c.deref.ensures.value c.from.ensures
    c.in_ok-weigh.ensures
