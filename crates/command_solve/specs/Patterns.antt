-- What `patterns` answers: its stages in their order, and what is found of a league's patterns.
use Rattle.std.specs.Prelude.{◌≡◌, ℕ, ◌+◌, ◌⊎◌, false, List, [], ◌∷◌, ◌++◌, codes, decimal, Option, Ok}
use Rattle.std.specs.List.{flat_map}
use Rattle.robin_io.specs.Outside.{Store}
use Rattle.league.specs.Instance.{Instance}
use Rattle.league.specs.declared.class.Side.{Side}
use Rattle.league.specs.declared.class.Side.TheVariants.{H, A, Both}
use Rattle.robinx.specs.Pieces.{pieces}
use Rattle.robinx.specs.InstanceFile.{instance_of}
use Rattle.robinx.specs.declared.instance.TheConstants.{INSTANCE_LIMIT}
use Rattle.answers.specs.Reply.{Answer}
use Rattle.answers.specs.Stages.{◌>>=◌, Outcome, reads, says}
use Rattle.answers.specs.declared.status.Status.TheVariants.{Yes, Refuted, Spent}
use Rattle.encoding.specs.Encoding.{rows_of}
use Rattle.refutation.specs.Steps.{Step}
use Rattle.refutation.specs.Logs.{log_of}
use Rattle.refutation.specs.Texts.{log_text}
use Rattle.break_counts.specs.BreakCounts.{are_few}
use Rattle.break_counts.specs.Sums.{AllowsTooFew}
use Rattle.command_check.specs.Check.{encodes}
use Rattle.league_search.specs.PatternLogs.{IsPatternSpent, RefutesPatterns}
use Rattle.league_search.specs.PatternSets.{IsPatternSet}
use Rattle.command_solve.specs.Solve as solves

-- ---- texts

-- where a team plays in a slot, as a letter
abbrev pub letter : Side → List ℕ
letter H = codes "H"
letter A = codes "A"
letter Both = []

-- the line of a team: its number, a space, and a letter for each slot
abbrev pub pattern_line : ℕ → List Side → List ℕ
pattern_line team pattern = decimal team ++ (codes " " ++ (flat_map letter pattern ++ codes "\n"))

-- a line for each team, from this one on
abbrev pub lines_from : ℕ → List (List Side) → List ℕ
lines_from team [] = []
lines_from team (pattern ∷ patterns) = pattern_line team pattern ++ lines_from (team + 1) patterns

abbrev pub patterns_text : List (List Side) → List ℕ
patterns_text patterns = lines_from 0 patterns

-- ---- what is found

-- patterns that satisfy the pattern rows are written
pub record ArePatterns (league : Instance) (answer : Answer) : Type 0 where
  pub patterns : List (List Side)
  pub set : IsPatternSet league patterns
  pub status : answer.status ≡ Yes
  pub text : answer.text ≡ patterns_text patterns

-- a log that refutes the pattern rows, and so the league, is written, and reads back as it
pub record IsRefuted (league : Instance) (conflicts : Option ℕ) (answer : Answer) : Type 0 where
  pub steps : List Step
  pub refutes : RefutesPatterns league conflicts steps
  pub status : answer.status ≡ Refuted
  pub text : answer.text ≡ log_text steps
  pub reads_back : log_of answer.text ≡ Ok steps

-- a log that is spent at the budget over the pattern rows is written, and reads back as it
pub record IsBudgetSpent (league : Instance) (conflicts : Option ℕ) (answer : Answer) : Type 0 where
  pub steps : List Step
  pub spent : IsPatternSpent league conflicts steps
  pub status : answer.status ≡ Spent
  pub text : answer.text ≡ log_text steps
  pub reads_back : log_of answer.text ≡ Ok steps

-- what a search for a league's patterns finds, within a budget of conflicts
abbrev pub AreSearched : Instance → Option ℕ → Outcome
AreSearched league conflicts answer =
    ArePatterns league answer ⊎ (IsRefuted league conflicts answer ⊎ IsBudgetSpent league conflicts answer)

-- What is found of a league's patterns: where it allows its teams too few breaks, a log that refutes it, whatever the
-- budget, since no season has its patterns; and else what the search finds. Where one hard constraint allows too few,
-- there is such a log.
abbrev pub AreFound : Instance → Option ℕ → Outcome
AreFound league conflicts answer =
    (AllowsTooFew league × solves.IsRefuted league (rows_of league) answer)
    ⊎ ((are_few league ≡ false) × AreSearched league conflicts answer)

-- ---- stages

-- `patterns`, over what a store shows
abbrev pub patterned : Store → List ℕ → Option ℕ → Outcome
patterned store instance conflicts = do
  bytes ← reads store (codes "instance") instance INSTANCE_LIMIT 0
  league ← says (codes "instance") (instance_of (pieces bytes))
  rows ← encodes league
  AreFound league conflicts
