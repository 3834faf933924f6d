-- What `solve` answers: its stages in their order, and what is found of a league.
use Rattle.std.specs.Prelude.{◌≡◌, ℕ, ◌<◌, ◌≤◌, ◌^◌, ◌++◌, ◌⊎◌, true, false, if◌then◌else◌, List, [], length, reverse}
use Rattle.std.specs.Prelude.{codes, decimal, Some, Ok}
use Rattle.std.specs.List.{All, flat_map}
use Rattle.robin_io.specs.Outside.{Store}
use Rattle.league.specs.Accepted.{IsAccepted, objective}
use Rattle.league.specs.Counts.{counts_of}
use Rattle.league.specs.Instance.{Instance, IsGame}
use Rattle.league.specs.Order.{IsInOrder}
use Rattle.league.specs.declared.game.Game.{Game}
use Rattle.circle_method.specs.Circle.{double_games}
use Rattle.robinx.specs.Pieces.{pieces}
use Rattle.robinx.specs.InstanceFile.{instance_of}
use Rattle.robinx.specs.SolutionFile.{solution_of}
use Rattle.robinx.specs.Texts.{solution_text}
use Rattle.robinx.specs.declared.instance.TheConstants.{INSTANCE_LIMIT}
use Rattle.answers.specs.Reply.{Answer}
use Rattle.answers.specs.Stages.{◌>>=◌, Outcome, reads, says}
use Rattle.answers.specs.declared.status.Status.TheVariants.{Yes, Refuted, Spent}
use Rattle.rows.specs.Rows.{Row}
use Rattle.encoding.specs.Encoding.{encoding_size}
use Rattle.encoding.specs.Variables.{has_breaks, var_count}
use Rattle.refutation.specs.Steps.{Step}
use Rattle.refutation.specs.Logs.{log_of}
use Rattle.refutation.specs.Texts.{log_text}
use Rattle.refutation.specs.Verdict.{verdict_of}
use Rattle.refutation.specs.declared.verdict.Verdict.TheVariants.{Accepted}
use Rattle.clause_search.specs.News.{IsSpent}
use Rattle.league_search.specs.Sums.{IsBehind}
use Rattle.robin_watch.specs.declared.budgets.Budgets.{Budgets}
use Rattle.moves.specs.declared.swap.Swap.{Swap}
use Rattle.moves.specs.declared.swap.Swap.TheVariants.{HomeSwap, RoundSwap, TeamSwap, PartRoundSwap, PartTeamSwap}
use Rattle.descent.specs.Descended.{Descended}
use Rattle.descent.specs.Trail.{IsClimb}
use Rattle.league_search.specs.declared.found.PatternFound.{PatternFound}
use Rattle.solve.specs.Kept.{AreKeptTo}
use Rattle.solve.specs.Solutions.{IsDescent, LeavesOpen, league_score}
use Rattle.venue_counts.specs.VenueCounts.{are_crowded, are_short}
use Rattle.break_counts.specs.BreakCounts.{are_few}
use Rattle.decoding.specs.Excluded.{NoneAccepted}
use Rattle.command_check.specs.Check.{encodes}
use Rattle.encoding.specs.Limit.{most_terms}

-- ---- what is found

-- the comment of a move by its name, with two numbers or three
abbrev pub move_of_two : List ℕ → ℕ → ℕ → List ℕ
move_of_two name a b =
    codes "<!-- move " ++ (name ++ (codes " " ++ (decimal a ++ (codes " " ++ (decimal b ++ codes " -->\n")))))

abbrev pub move_of_three : List ℕ → ℕ → ℕ → ℕ → List ℕ
move_of_three name a b c =
    codes "<!-- move "
    ++ (name
    ++ (codes " " ++ (decimal a ++ (codes " " ++ (decimal b ++ (codes " " ++ (decimal c ++ codes " -->\n")))))))

abbrev pub move_line : Swap → List ℕ
move_line (HomeSwap i j) = move_of_two (codes "HomeSwap") i.0 j.0
move_line (RoundSwap s t) = move_of_two (codes "RoundSwap") s.0 t.0
move_line (TeamSwap i j) = move_of_two (codes "TeamSwap") i.0 j.0
move_line (PartRoundSwap i s t) = move_of_three (codes "PartRoundSwap") i.0 s.0 t.0
move_line (PartTeamSwap i j s) = move_of_three (codes "PartTeamSwap") i.0 j.0 s.0

-- the comment of a descent: the objective that it began with, how many moves it made, and whether its end is settled
abbrev pub descent_line : ℕ → Descended → List ℕ
descent_line cost descent =
    codes "<!-- descent first="
    ++ (decimal cost
    ++ (codes " moves="
    ++ (decimal (length descent.trail)
    ++ (if descent.settled then codes " settled=yes -->\n" else codes " settled=no -->\n"))))

-- the comments behind a schedule: its descent, and the moves
abbrev pub descent_text : ℕ → Descended → List ℕ
descent_text cost descent = descent_line cost descent ++ flat_map move_line descent.trail

-- A schedule of games of the league, which accepts it, in order, is written as a solution file, with its objective, and
-- behind it the descent that led to it; the whole reads back as these games. Taken backwards from the schedule, the
-- moves are legal, each raises the score, and they end in an accepted schedule, whose objective is written too. As many
-- moves as that objective says are enough to settle.
pub record IsSchedule (league : Instance) (moves : ℕ) (may_stop : Type 0) (answer : Answer) : Type 0 where
  pub games : List Game
  pub descent : Descended
  pub accepted : IsAccepted league (counts_of games)
  pub fit : All (IsGame league.n) games
  pub in_order : IsInOrder games
  pub descends : IsDescent league moves may_stop games descent
  pub climbs : IsClimb league.n league.phased (league_score league) (counts_of games) (reverse descent.trail)
      (counts_of descent.first)
  pub settles : objective league (counts_of descent.first) ≤ moves → descent.settled ≡ true
  pub status : answer.status ≡ Yes
  pub text : answer.text ≡ solution_text games (Some (0, objective league (counts_of games)))
      ++ descent_text (objective league (counts_of descent.first)) descent
  pub reads_back : solution_of league.n (pieces answer.text) ≡ Ok games

-- A log that is accepted over the league's rows is written, and reads back as it: so the league accepts no list of
-- games, of whatever length.
pub record IsRefuted (league : Instance) (rows : List Row) (answer : Answer) : Type 0 where
  pub steps : List Step
  pub accepted : verdict_of rows (var_count league) steps ≡ Accepted
  pub none : NoneAccepted league
  pub status : answer.status ≡ Refuted
  pub text : answer.text ≡ log_text steps
  pub reads_back : log_of answer.text ≡ Ok steps

-- A log that is spent at the budget of conflicts over the league's rows is written, and reads back as it. Where hard
-- constraints bound breaks, sums may come before the steps of the search, which are as many as the budget. The budget is
-- below 3 to the number of variables, so a greater one, or none, is never spent. Patterns are known that satisfy the
-- league's pattern rows, or a log that is spent over these at the budget of patterns.
pub record IsBudgetSpent (league : Instance) (rows : List Row) (budgets : Budgets) (answer : Answer) : Type 0 where
  pub steps : List Step
  pub patterns : PatternFound
  pub log : IsBehind rows (var_count league) steps
  pub none : has_breaks league.constraints ≡ false → log.sums ≡ []
  pub budget : budgets.conflicts ≡ Some (length log.search)
  pub spent : IsSpent (length log.search) log.more (var_count league) log.search
  pub few : length log.search < 3 ^ var_count league
  pub pattern_rows : LeavesOpen league budgets.patterns patterns
  pub status : answer.status ≡ Spent
  pub text : answer.text ≡ log_text steps
  pub reads_back : log_of answer.text ≡ Ok steps

-- What is found of a league, over its rows and within budgets. Where the league accepts the schedule of the circle
-- method, a schedule is; where its venue counts are short, or crowded, or it allows its teams too few breaks, a refutation
-- is, whatever the budgets.
pub record IsFound (league : Instance) (budgets : Budgets) (may_stop : Type 0) (rows : List Row) (answer : Answer)
    : Type 0 where
  pub found :
      IsSchedule league budgets.moves may_stop answer
      ⊎ (IsRefuted league rows answer ⊎ IsBudgetSpent league rows budgets answer)
  pub circle : IsAccepted league (counts_of (double_games league.n)) → answer.status ≡ Yes
  pub short : are_short league ≡ true → answer.status ≡ Refuted
  pub crowded : are_crowded league ≡ true → answer.status ≡ Refuted
  pub few : are_few league ≡ true → answer.status ≡ Refuted

-- What is found within the budgets to which a run kept: those that were set, or, where it may be stopped, lower ones.
pub record IsFoundBy (league : Instance) (budgets : Budgets) (may_stop : Type 0) (rows : List Row) (answer : Answer)
    : Type 0 where
  pub kept : Budgets
  pub are_kept : AreKeptTo budgets may_stop kept
  pub is_found : IsFound league kept may_stop rows answer

-- ---- stages

-- `solve`, over what a store shows, by a run that may be stopped where `may_stop` says so
abbrev pub solved : Store → List ℕ → Budgets → Type 0 → Outcome
solved store instance budgets may_stop = do
  bytes ← reads store (codes "instance") instance INSTANCE_LIMIT 0
  league ← says (codes "instance") (instance_of (pieces bytes))
  rows ← encodes league
  IsFoundBy league budgets may_stop rows

-- ---- a run

-- a file within its limit whose bytes are known, which says a league whose rows aren't too many
pub record IsWellFormedInstance
    (store : Store)
    (instance : List ℕ)
    (league : Instance)
    : Type 0 where
  pub bytes : List ℕ
  pub known : store.contents instance ≡ Some bytes
  pub within : length bytes ≤ INSTANCE_LIMIT
  pub says_league : instance_of (pieces bytes) ≡ Ok league
  pub small : encoding_size league ≤ most_terms
