-- What a run may answer.
use Rattle.std.specs.Prelude.{◌≡◌, ℕ, Option, None, Some}
use Rattle.robin_io.specs.Outside.{Store}
use Rattle.robin_watch.specs.Limits.{IsKeptTo}
use Rattle.answers.specs.Reply.{refused_words}
use Rattle.answers.specs.Stages.{Outcome}
use Rattle.command_prove.specs.Bound.{bounded}
use Rattle.command_check.specs.Check.{checked}
use Rattle.command_solve.specs.Circle.{circle_season}
use Rattle.command_line.specs.Words.{Command}
use Rattle.command_line.specs.Words.Command.{Validate, Show, Demands, Sheet, Check, Solve, SolveFrom, Patterns, Explain, Part, Prove}
use Rattle.command_line.specs.Words.Command.{Bound, Resume, ResumeNear, Audit, Rows, Values, Circle, Make, Trial, Help, Version}
use Rattle.command_explain.specs.Explained.{explained}
use Rattle.command_explain.specs.Parted.{parted}
use Rattle.answers.specs.Help.{help_answer, version_answer}
use Rattle.command_solve.specs.MadeInstance.{IsMade}
use Rattle.command_solve.specs.Patterns.{patterned}
use Rattle.command_prove.specs.Floor.{IsShownWith}
use Rattle.command_prove.specs.Prove.{proved}
use Rattle.command_resume.specs.Audited.{audited}
use Rattle.command_resume.specs.Near.{neared}
use Rattle.command_resume.specs.Resumed.{resumed}
use Rattle.command_rows.specs.Rowed.{rowed}
use Rattle.command_show.specs.Demands.{demanded}
use Rattle.command_show.specs.Show.{shown}
use Rattle.command_show.specs.declared.form.Form.TheVariants.{Text, Csv}
use Rattle.command_solve.specs.From.{begun}
use Rattle.command_solve.specs.Solve.{solved}
use Rattle.command_solve.specs.Trial.{tried}
use Rattle.command_check.specs.Validate.{validated}
use Rattle.command_rows.specs.Valued.{valued}

-- the answer to the words, of a run that may be stopped where `may_stop` says so, and in which the steps of a log may
-- take so many bytes as `room` says
abbrev pub IsAnswer : Type 0 → Option ℕ → Option Command → Store → Outcome
IsAnswer may_stop room None store answer = answer ≡ refused_words
IsAnswer may_stop room (Some (Validate instance solution)) store answer = validated store instance solution answer
IsAnswer may_stop room (Some (Show instance solution most width)) store answer =
    shown store instance solution (Text most width) answer
IsAnswer may_stop room (Some (Demands instance members)) store answer = demanded store instance members answer
IsAnswer may_stop room (Some (Sheet instance solution)) store answer = shown store instance solution Csv answer
IsAnswer may_stop room (Some (Check instance log)) store answer = checked store room instance log answer
IsAnswer may_stop room (Some (Solve instance budgets)) store answer = solved store instance budgets may_stop answer
IsAnswer may_stop room (Some (SolveFrom instance solution budgets)) store answer =
    begun store instance solution budgets may_stop answer
IsAnswer may_stop room (Some (Patterns instance conflicts)) store answer = patterned store instance conflicts answer
IsAnswer may_stop room (Some (Explain instance conflicts)) store answer = explained store instance conflicts may_stop answer
IsAnswer may_stop room (Some (Part instance members)) store answer = parted store instance members answer
IsAnswer may_stop room (Some (Prove instance solution floor conflicts)) store answer =
    proved store instance solution (IsShownWith floor (IsKeptTo conflicts may_stop) may_stop) answer
IsAnswer may_stop room (Some (Bound instance log)) store answer = bounded store room instance log answer
IsAnswer may_stop room (Some (Resume instance solution k conflicts)) store answer =
    resumed store instance solution k (IsKeptTo conflicts may_stop) answer
IsAnswer may_stop room (Some (ResumeNear instance solution k budgets)) store answer =
    neared store instance solution k (IsKeptTo budgets.conflicts may_stop) may_stop answer
IsAnswer may_stop room (Some (Audit instance solution k log)) store answer =
    audited store room instance solution k log answer
IsAnswer may_stop room (Some (Rows instance goal)) store answer = rowed store instance goal answer
IsAnswer may_stop room (Some (Values instance values)) store answer = valued store instance values answer
IsAnswer may_stop room (Some (Circle n)) store answer = answer ≡ circle_season n
IsAnswer may_stop room (Some (Make n seed)) store answer = IsMade n seed answer
IsAnswer may_stop room (Some (Trial n seed budgets)) store answer = tried n seed budgets may_stop answer
IsAnswer may_stop room (Some (Help topic)) store answer = answer ≡ help_answer topic
IsAnswer may_stop room (Some Version) store answer = answer ≡ version_answer
