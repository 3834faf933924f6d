use Rattle.std.proofs.Common.{Some, map, string_bytes}
use Rattle.command_line.specs.Words.{asking, following}
use Rattle.command_line.proofs.TeamLemmas.{asking-teams, following-teams, seen-teams}
use Rattle.command_line.proofs.words.read_words.Goals as goal

pub returns-in-Some-clause-teams : goal.returns-in-Some-clause-teams
returns-in-Some-clause-teams c =
    let words = map string_bytes c.args.words.now in
    seen-teams (Some c.in-Some.question) (asking words) c.in-Some.ensures (asking-teams words)

pub returns-in-None-clause-teams : goal.returns-in-None-clause-teams
returns-in-None-clause-teams c =
    let words = map string_bytes c.args.words.now in
    seen-teams c.command.result (following words) c.command.ensures (following-teams words)
