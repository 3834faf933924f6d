-- What `resume` and `audit` answer of the files of ResumeExamples.
use Rattle.clause_search.proofs.SearchLemmas.{AreNews-none}
use Rattle.std.proofs.Common.{lit<, lit≤, ◌≡◌, ℕ, ◌∙◌, true, false}
use Rattle.std.proofs.Common.{List, [], ◌∷◌, ◌++◌, Option, Some, None, Ok, codes}
use Rattle.std.proofs.Common.{ap, sym, refl, arith, inl, inr}
use Rattle.std.proofs.lemmas.List.Elements.{All-nil}
use Rattle.std.specs.Fmt.{digits}
use Rattle.example_runs.proofs.Runs.{ended_with, store_of, written_between}
use Rattle.robin_run.specs.Run.{Writes}
use Rattle.league.specs.Accepted.{IsAccepted}
use Rattle.league.specs.Counts.{Counts, counts_of}
use Rattle.league.specs.declared.game.Game.{Game}
use Rattle.league.proofs.AcceptedLemmas.{MeetsHard-from_sum}
use Rattle.robinx.specs.Pieces.{pieces, pieces_from}
use Rattle.robinx.specs.Tags.{attributes_at}
use Rattle.robinx.specs.SolutionFile.{solution_of}
use Rattle.robinx.specs.Texts.{solution_text}
use Rattle.robinx.specs.Walk.{walk}
use Rattle.robinx.specs.declared.instance.TheConstants.{INSTANCE_LIMIT, SOLUTION_LIMIT}
use Rattle.answers.specs.Reply.{Answer}
use Rattle.answers.specs.Stages.{IsFile}
use Rattle.answers.specs.declared.status.Status.{Status}
use Rattle.answers.specs.declared.status.Status.TheVariants.{Yes, No, Refuted, Spent}
use Rattle.refutation.specs.Following.{all_free}
use Rattle.refutation.specs.Logs.{lines_from, log_of}
use Rattle.refutation.specs.Steps.{Step}
use Rattle.refutation.specs.Steps.Step.{Clause}
use Rattle.refutation.specs.Texts.{log_text}
use Rattle.refutation.specs.declared.verdict.Cause.TheVariants.{NoConflict}
use Rattle.refutation.specs.declared.verdict.Verdict.TheVariants.{Accepted, Rejected}
use Rattle.clause_search.specs.Answers.{IsSpentAt}
use Rattle.clause_search.specs.News.{IsTidy}
use Rattle.command_check.specs.Check.{most_log_bytes, verdict_answer}
use Rattle.resume.specs.Kept.{is_played, resume_rows}
use Rattle.resume.specs.Answers.{IsResumed}
use Rattle.resume.specs.declared.resumed.Resumed.TheVariants as resumed
use Rattle.command_resume.specs.Audited.{IsVerdict, IsWellFormedAudit, audited}
use Rattle.command_resume.specs.Near.{IsNearBy}
use Rattle.command_resume.specs.Resumed.{IsBudgetSpent, IsExcluded, IsFound, IsFoundBy, IsKeptSeason, IsOldPlan, IsPlanned}
use Rattle.command_resume.specs.Resumed.{resumed as resumes}
use Rattle.example_runs.proofs.CommandExamples.{false_true, one_break}
use Rattle.example_runs.proofs.SolveExamples.{fits_home, home, ordered_home, out}
use Rattle.example_runs.proofs.SolveExamples.{quiet_pairs, season_pairs, text}
use Rattle.example_runs.proofs.ResumeExamples.{accepted_home, contents, crowded, crowded_file, first, league}
use Rattle.example_runs.proofs.ResumeExamples.{league_file, log, log_file, none_crowded, none_one, nowhere}
use Rattle.example_runs.proofs.ResumeExamples.{played_file, refutes-crowded, same_whole, says_league}
use Rattle.example_runs.proofs.ResumeExamples.{season-home, small, whole}

-- ---- what `resume` answers

abbrev planned_reply : Answer
planned_reply = record {
  status = Yes;
  text = text (
      "<?xml version=\"1.0\" encoding=\"UTF-8\"?>"
      ∷ "<Solution>"
      ∷ "<MetaData>"
      ∷ "<ObjectiveValue infeasibility=\"0\" objective=\"4\"/>"
      ∷ "</MetaData>"
      ∷ "<Games>"
      ∷ "<ScheduledMatch home=\"1\" away=\"0\" slot=\"0\"/>"
      ∷ "<ScheduledMatch home=\"0\" away=\"1\" slot=\"1\"/>"
      ∷ "</Games>"
      ∷ "</Solution>"
      ∷ []
      );
}

planned_text : planned_reply.text ≡ solution_text home (Some (0, 4))
unfolding digits
planned_text = refl

planned_read : solution_of 2 (pieces planned_reply.text) ≡ Ok home
unfolding attributes_at pieces_from walk
planned_read = refl

pub planned-first : IsPlanned league first 1 planned_reply
planned-first = record {
  games = home;
  season = season-home;
  status = refl;
  text = planned_text;
  reads_back = planned_read;
}

-- what no season keeps isn't planned
pub planned-crowded : (answer : Answer) → IsPlanned league crowded 1 answer → ⊥
planned-crowded answer is = none_crowded is.games is.season.resumes

abbrev excluded_reply : Answer
excluded_reply = record { status = Refuted; text = codes "refutation 1\n0 29 30 6 0\nend\n" }

excluded_text : excluded_reply.text ≡ log_text log
unfolding digits
excluded_text = refl

reads_back : log_of excluded_reply.text ≡ Ok log
unfolding lines_from
reads_back = refl

pub excluded-crowded : IsExcluded league crowded 1 (Some 0) excluded_reply
excluded-crowded = record {
  steps = log;
  refutes = refutes-crowded;
  status = refl;
  text = excluded_text;
  reads_back = reads_back;
}

-- what a season keeps isn't excluded
pub excluded-first : (conflicts : Option ℕ) (answer : Answer) → IsExcluded league first 1 conflicts answer → ⊥
excluded-first conflicts answer is = is.refutes.none home season-home.resumes

-- whether its games are listed late first or not, the old plan is written in order
pub old_plan-whole : IsOldPlan league whole planned_reply
old_plan-whole = record {
  games = home;
  same = same_whole;
  in_order = ordered_home;
  status = refl;
  text = planned_text;
}

-- the other season is no old plan
pub old_plan-out : (answer : Answer) (is : IsOldPlan league whole answer) → is.games ≡ out → ⊥
old_plan-out answer is games = none_one (ap (λ (m : Counts). m 1 0 0) (sym (ap counts_of games) ∙ is.same))

-- one game isn't a season: team 0 is never at home to team 1
one_left : ◌≡◌ {A = ℕ} 1 0 → ⊥
one_left is = omega (arith, is)

refuses_first : IsAccepted league (counts_of first) → ⊥
refuses_first accepted = one_left accepted.round_robin.pairs

pub found-first : (conflicts : Option ℕ) → IsFound league first 1 conflicts planned_reply
found-first conflicts = record { found = inl planned-first; plan = λ accepted. absurd (refuses_first accepted) }

-- two games in slot 0, for two teams, and none in slot 1: four cells are wrong
four_left : ◌≡◌ {A = ℕ} 4 0 → ⊥
four_left is = omega (arith, is)

refuses_crowded : IsAccepted league (counts_of crowded) → ⊥
refuses_crowded accepted = four_left accepted.round_robin.cells

pub found-crowded : IsFound league crowded 1 (Some 0) excluded_reply
found-crowded = record { found = inr (inl excluded-crowded); plan = λ accepted. absurd (refuses_crowded accepted) }

accepted_whole : IsAccepted league (counts_of whole)
accepted_whole = record {
  round_robin = record { pairs = refl; cells = refl; phases = refl };
  hard = MeetsHard-from_sum league (counts_of whole) refl;
}

planned_whole : IsPlanned league whole 1 planned_reply
planned_whole = record {
  games = home;
  season = record {
    resumes = record {
      accepted = accepted_home;
      keeps = λ i j s within. ap (λ (m : Counts). is_played m i j s) same_whole;
    };
    fit = fits_home;
    in_order = ordered_home;
    cost = refl;
  };
  status = refl;
  text = planned_text;
  reads_back = planned_read;
}

pub found-whole : (conflicts : Option ℕ) → IsFound league whole 1 conflicts planned_reply
found-whole conflicts = record { found = inl planned_whole; plan = λ accepted. old_plan-whole }

-- a plan that is accepted isn't refuted
refuted_yes : Refuted ≡ Yes → ⊥
refuted_yes is = cc

pub found-refuted : (k : ℕ) (conflicts : Option ℕ) → IsFound league whole k conflicts excluded_reply → ⊥
found-refuted k conflicts is = refuted_yes (is.plan accepted_whole).status

pub kept_season-first : IsKeptSeason league first 1 (written_between (Some []) (Some planned_reply.text))
kept_season-first = record {
  games = home;
  season = season-home;
  written = planned_text;
  reads_back = ap (λ (bytes : List ℕ). solution_of 2 (pieces bytes)) (sym planned_text) ∙ planned_read;
}

pub kept_season-crowded : (old new : Option (List ℕ)) → IsKeptSeason league crowded 1 (written_between old new) → ⊥
kept_season-crowded old new is = none_crowded is.games is.season.resumes

-- ---- where no slot was played, and nothing may be learnt, propagation stands still before it begins

spent_first : IsSpentAt (resume_rows league (counts_of first) 0) 8 (Some 0) []
spent_first = record {
  limited = refl;
  spent = record { count = refl; news = AreNews-none _ _; quiet = (all_free, quiet_pairs season_pairs) };
  few = lit< tt;
  tidy = All-nil (IsTidy 8);
}

abbrev open_log : Answer
open_log = record { status = Spent; text = codes "refutation 1\nend\n" }

open_log_read : log_of open_log.text ≡ Ok []
unfolding lines_from
open_log_read = refl

pub spent-first : IsBudgetSpent league first 0 (Some 0) open_log
spent-first = record { steps = []; spent = spent_first; status = refl; text = refl; reads_back = open_log_read }

pub found-open : IsFound league first 0 (Some 0) open_log
found-open = record { found = inr (inr spent-first); plan = λ accepted. absurd (refuses_first accepted) }

-- whatever is played of a league that allows its teams too few breaks, it is refuted
pub found-few : (played : List Game) (k : ℕ) (limits : Option ℕ → Type 0) (answer : Answer)
    → IsFoundBy one_break played k limits answer → answer.status ≡ Refuted
found-few played k limits answer (inl counted) = counted.status
found-few played k limits answer (inr found) = absurd (false_true (sym found.0))

pub near-few : (played : List Game) (k : ℕ) (limits : Option ℕ → Type 0) (may_stop : Type 0) (answer : Answer)
    → IsNearBy one_break played k limits may_stop answer → answer.status ≡ Refuted
near-few played k limits may_stop answer (inl counted) = counted.status
near-few played k limits may_stop answer (inr found) = absurd (false_true (sym found.0))

-- three answers, each to its season
pub resumed-each : IsResumed league first 1 None (resumed.Schedule home 4)
    × IsResumed league crowded 1 (Some 0) (resumed.Refuted log) × IsResumed league first 0 (Some 0) (resumed.Spent [])
resumed-each = (season-home, refutes-crowded, spent_first)

pub resumed-first : Writes (ended_with Yes (Some (codes "..")) (Some (codes ".." ++ planned_reply.text))) (IsFound league first 1 None)
resumed-first = record { answer = planned_reply; of_kind = found-first None; ended = refl; written = refl }

pub resumed-lost : (ended : Status) → Writes (ended_with ended (Some []) None) (IsFound league first 1 None) → ⊥
resumed-lost ended is = is.written

-- ---- what `audit` answers of the log, and of one that leaves row 30 out, whose step takes no room

abbrev accepted_reply : Answer
accepted_reply = record { status = Yes; text = codes "accepted steps 1\n" }

accepted_is : accepted_reply ≡ verdict_answer 1 Accepted
unfolding digits
accepted_is = refl

-- the step is an empty clause, which takes 64 bytes
pub verdict-crowded : IsVerdict league crowded 1 (Some 64) log accepted_reply
verdict-crowded = record { verdict = accepted_is; within = refl; none = λ yes. none_crowded }

-- where there is room for a byte less, no verdict is said
pub verdict-tight : (answer : Answer) → IsVerdict league crowded 1 (Some 63) log answer → ⊥
verdict-tight answer is = let within : false ≡ true = is.within in cc

abbrev rejected_reply : Answer
rejected_reply = record { status = No; text = codes "rejected step 1 cause NoConflict\n" }

rejected_is : rejected_reply ≡ verdict_answer 1 (Rejected 1 NoConflict)
unfolding digits
rejected_is = refl

no_yes : No ≡ Yes → ⊥
no_yes is = cc

pub verdict-shorter : IsVerdict league crowded 1 (Some 0) (Clause [] (29 ∷ 6 ∷ []) ∷ []) rejected_reply
verdict-shorter = record { verdict = rejected_is; within = refl; none = λ yes. absurd (no_yes yes) }

-- of games that a season keeps no log is accepted
pub verdict-first : (room : Option ℕ) (steps : List Step) (answer : Answer) → answer.status ≡ Yes
    → IsVerdict league first 1 room steps answer → ⊥
verdict-first room steps answer ended is = is.none ended home season-home.resumes

pub audited-crowded : Writes (ended_with Yes (Some (codes "..")) (Some (codes "..accepted steps 1\n"))) (IsVerdict league crowded 1 (Some 64) log)
audited-crowded = record { answer = accepted_reply; of_kind = verdict-crowded; ended = refl; written = refl }

-- whatever ends with yes, a season that is there isn't excluded
pub audited-first : (room : Option ℕ) (steps : List Step) (old new : Option (List ℕ)) → Writes (ended_with Yes old new) (IsVerdict league first 1 room steps) → ⊥
audited-first room steps old new is = verdict-first room steps is.answer (sym is.ended) is.of_kind

-- ---- the stages of `resume` and `audit`, and the files of a run

says_crowded : solution_of 2 (pieces crowded_file) ≡ Ok crowded
unfolding attributes_at pieces_from walk
says_crowded = refl

says_log : log_of log_file ≡ Ok log
unfolding lines_from
says_log = refl

pub formed-crowded : IsWellFormedAudit (store_of contents nowhere) (codes "league") (codes "crowded") 1 (codes "log") league crowded
    log
formed-crowded = record {
  season = record {
    say = record {
      first = league_file;
      second = crowded_file;
      first_known = refl;
      second_known = refl;
      says_league = says_league;
      says_played = says_crowded;
    };
    first_within = omega arith;
    second_within = omega arith;
    slots = lit≤ tt;
    small = small;
  };
  third = log_file;
  known = refl;
  within = omega arith;
  says_steps = says_log;
}

abbrev never : ℕ → Type 0
never n = ⊥

file_league : IsFile (contents (codes "league")) INSTANCE_LIMIT league_file
file_league = record { same = refl; within = omega arith }

file_played : IsFile (contents (codes "played")) SOLUTION_LIMIT played_file
file_played = record { same = refl; within = omega arith }

file_crowded : IsFile (contents (codes "crowded")) SOLUTION_LIMIT crowded_file
file_crowded = record { same = refl; within = omega arith }

file_log : IsFile (contents (codes "log")) most_log_bytes log_file
file_log = record { same = refl; within = omega arith }

-- whatever the limit to which the search kept
pub resumed-stages : (limits : Option ℕ → Type 0) (conflicts : Option ℕ) → limits conflicts
    → resumes (store_of contents nowhere) (codes "league") (codes "played") 1 limits planned_reply
unfolding attributes_at pieces_from walk
resumed-stages limits conflicts is = inl (
  league_file,
  file_league,
  inl (lit≤ tt, inl (small, inl (played_file, file_played, inr (refl, (conflicts, is, found-first conflicts))))),
)

pub audited-stages : audited (store_of contents nowhere) (Some 64) (codes "league") (codes "crowded") 1 (codes "log") accepted_reply
unfolding attributes_at pieces_from walk lines_from
audited-stages = inl (
  league_file,
  file_league,
  inl (lit≤ tt, inl (small, inl (crowded_file, file_crowded, inl (log_file, file_log, verdict-crowded)))),
)
