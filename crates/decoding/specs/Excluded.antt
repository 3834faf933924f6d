-- What a log that is accepted over a league's rows proves of its schedules.
use Rattle.std.specs.Prelude.{◌≡◌, List}
use Rattle.league.specs.Accepted.{IsAccepted}
use Rattle.league.specs.Counts.{counts_of}
use Rattle.league.specs.Instance.{Instance, IsInstance}
use Rattle.league.specs.declared.game.Game.{Game}
use Rattle.encoding.specs.Encoding.{rows_of}
use Rattle.encoding.specs.Variables.{var_count}
use Rattle.refutation.specs.Steps.{Step}
use Rattle.refutation.specs.Verdict.{verdict_of}
use Rattle.refutation.specs.declared.verdict.Verdict.TheVariants.{Accepted}

-- the league accepts no list of games
abbrev pub NoneAccepted : Instance → Type 0
NoneAccepted league = (games : List Game) → IsAccepted league (counts_of games) → ⊥

-- where a log is accepted over a league's rows, the league accepts no list of games
abbrev pub AcceptedLogsExclude : Type 0
AcceptedLogsExclude =
    (league : Instance) (steps : List Step) → IsInstance league
    → verdict_of (rows_of league) (var_count league) steps ≡ Accepted → NoneAccepted league
