-- A league that allows its teams too few breaks is counted out: no season of it is resumed, whatever is played.
use Rattle.std.specs.Prelude.{◌≡◌, ℕ, List}
use Rattle.std.specs.List.{All}
use Rattle.league.specs.Counts.{counts_of}
use Rattle.league.specs.Instance.{Instance}
use Rattle.league.specs.declared.game.Game.{Game}
use Rattle.encoding.specs.Variables.{var_count}
use Rattle.refutation.specs.Steps.{NamesRows, Step}
use Rattle.refutation.specs.Verdict.{verdict_of}
use Rattle.refutation.specs.Writable.{HasShortLines}
use Rattle.refutation.specs.declared.verdict.Verdict.TheVariants.{Accepted}
use Rattle.break_counts.specs.Sums.{AllowsTooFew}
use Rattle.resume.specs.Kept.{resume_rows}

-- a log that is accepted over the resume rows, and whose text can be written and read back
pub record RefutesSeason (league : Instance) (played : List Game) (k : ℕ) (steps : List Step) : Type 0 where
  pub accepted : verdict_of (resume_rows league (counts_of played) k) (var_count league) steps ≡ Accepted
  pub named : All NamesRows steps
  pub short_lines : HasShortLines steps

-- such a log of a league that allows its teams too few breaks
pub record CountsOut (league : Instance) (played : List Game) (k : ℕ) (steps : List Step) : Type 0 where
  pub few : AllowsTooFew league
  pub refutes : RefutesSeason league played k steps
