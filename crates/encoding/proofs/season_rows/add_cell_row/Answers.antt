use Rattle.std.proofs.Common.{ℕ, List, sym, subst}
use Rattle.league.specs.Counts.{teams_of}
use Rattle.league.specs.declared.class.Side.TheVariants.{Both}
use Rattle.encoding.specs.Ascending.{AreMeetings}
use Rattle.encoding.proofs.MeetingOrder.{AreMeetings-in_order, AreTeams-all}
use Rattle.encoding.proofs.season_rows.add_cell_row.Goals as goal

pub push_one_game-requires-clause-meetings : goal.push_one_game-requires-clause-meetings
push_one_game-requires-clause-meetings c =
    subst (λ (ms : List (ℕ × ℕ)). AreMeetings c.args.season.now ms) (sym c.requires.meetings)
    (AreMeetings-in_order c.args.season.now Both c.args.team (teams_of c.args.season.now) c.requires.team
    (AreTeams-all c.args.season.now))
