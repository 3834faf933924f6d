-- What is found of a league, answered.
use Rattle.std.proofs.Common.{◌≡◌, ◌≤◌, ℕ, true, List, [], ◌∷◌, length, Option, None, Some, Result, Ok, Err, arith, ap}
use Rattle.std.proofs.Common.{inl, inr, subst, sym, ◌∙◌}
use Rattle.std.specs.Prelude.{IfOk}
use Rattle.std.specs.List.{All, AllZip}
use Rattle.std.proofs.lemmas.List.Elements.{All-cons, All-head, All-nil, All-tail}
use Rattle.league.specs.Accepted.{IsAccepted}
use Rattle.league.specs.Accepted as costs
use Rattle.league.specs.Counts.{counts_of}
use Rattle.league.specs.Instance.{Instance, IsTeamCount}
use Rattle.league.specs.declared.game.Game.{Game}
use Rattle.circle_method.specs.Circle.{double_games}
use Rattle.robinx.specs.Pieces.{pieces}
use Rattle.robinx.specs.SolutionFile.{solution_of}
use Rattle.robinx.specs.Texts.{solution_text}
use Rattle.robinx.proofs.SolutionLemmas.{solution-reads_back}
use Rattle.encoding.specs.Variables.{var_count}
use Rattle.refutation.specs.Steps.{NamesRows, Step}
use Rattle.refutation.specs.Logs.{log_of, most_bytes}
use Rattle.refutation.specs.Texts.{log_text, step_text, version_of}
use Rattle.answers.specs.SeenReply.{answer_of}
use Rattle.answers.specs.declared.reply.Reply.{Reply}
use Rattle.answers.specs.declared.status.Status.{Status}
use Rattle.answers.specs.declared.status.Status.TheVariants.{Yes, Refuted, Spent}
use Rattle.solve.specs.Solutions.{IsWritable}
use Rattle.solve.proofs.FewLemmas.{round_robin-few}
use Rattle.venue_counts.specs.VenueCounts.{are_crowded, are_short}
use Rattle.break_counts.specs.BreakCounts.{are_few}
use Rattle.explain.specs.Parts.{part_of, without}
use Rattle.explain.specs.Conflicts.{AreDecided, IsAmple, IsCase, IsConflict, IsIrreducible, IsOpenLog, IsSeason, IsSpentBy}
use Rattle.explain.specs.declared.cases.Case.{Case}
use Rattle.explain.specs.declared.cases.Case.TheVariants.{Without, Undecided}
use Rattle.command_explain.specs.Explained.{IsFound}
use Rattle.command_explain.specs.Texts.{IsWritableCase, LogReadsBack, ReadsBack, conflict_text}

-- ---- a conflict can be written

writable-none : IsWritable []
writable-none = record {
  named = All-nil NamesRows;
  short = All-nil (λ (step : Step). length (step_text (version_of []) step) ≤ most_bytes);
}

open-writable : (league : Instance) (limit : Option ℕ) (may_stop : Type 0) (log : List Step)
    → IsOpenLog league limit may_stop log → IsWritable log
open-writable league limit may_stop log (inl is) = is.spent.log.writable
open-writable league limit may_stop log (inr untried) =
    subst (λ (steps : List Step). IsWritable steps) (sym untried.1) writable-none

each_writable : (league : Instance) (limit : Option ℕ) (may_stop : Type 0) (whole members : List ℕ) (cases : List Case)
    → AllZip (IsCase league limit may_stop whole) members cases → All IsWritableCase cases
each_writable league limit may_stop whole [] [] each = All-nil IsWritableCase
each_writable league limit may_stop whole [] (case ∷ cases) each = absurd each
each_writable league limit may_stop whole (k ∷ members) [] each = absurd each
each_writable league limit may_stop whole (k ∷ members) (Without games ∷ cases) each =
    All-cons IsWritableCase (Without games) cases tt (each_writable league limit may_stop whole members cases each.1)
each_writable league limit may_stop whole (k ∷ members) (Undecided log ∷ cases) each =
    All-cons IsWritableCase (Undecided log) cases
    (open-writable (part_of league (without k whole)) limit may_stop log each.0)
    (each_writable league limit may_stop whole members cases each.1)

same_length : (league : Instance) (limit : Option ℕ) (may_stop : Type 0) (whole members : List ℕ) (cases : List Case)
    → AllZip (IsCase league limit may_stop whole) members cases → length cases ≡ length members
same_length league limit may_stop whole [] [] each = omega arith
same_length league limit may_stop whole [] (case ∷ cases) each = absurd each
same_length league limit may_stop whole (k ∷ members) [] each = absurd each
same_length league limit may_stop whole (k ∷ members) (case ∷ cases) each =
    omega (arith, same_length league limit may_stop whole members cases each.1)

pub conflict-writable : (league : Instance) (limit : Option ℕ) (may_stop : Type 0) (members : List ℕ) (log : List Step)
    (cases : List Case) → IsConflict league limit may_stop members log cases → All IsWritableCase cases
conflict-writable league limit may_stop members log cases is = each_writable league limit may_stop members members cases is.each

pub conflict-each : (league : Instance) (limit : Option ℕ) (may_stop : Type 0) (members : List ℕ) (log : List Step) (cases : List Case)
    → IsConflict league limit may_stop members log cases → length cases ≡ length members
conflict-each league limit may_stop members log cases is = same_length league limit may_stop members members cases is.each

-- ---- what is written reads back

-- the text of a season reads back, with any score
season-reads_back : (league : Instance) (games : List Game) (score : Option (ℕ × ℕ)) → IsTeamCount league.n
    → IsSeason league games → solution_of league.n (pieces (solution_text games score)) ≡ Ok games
season-reads_back league games score teams is =
    solution-reads_back league.n games score teams.at_most
    (round_robin-few league.n league.phased games teams is.fit is.accepted.round_robin) is.fit

each_read : (league : Instance) (limit : Option ℕ) (may_stop : Type 0) (whole members : List ℕ) (cases : List Case) → IsTeamCount league.n
    → AllZip (IsCase league limit may_stop whole) members cases → All LogReadsBack cases → All (ReadsBack league.n) cases
each_read league limit may_stop whole [] [] teams each logs = All-nil (ReadsBack league.n)
each_read league limit may_stop whole [] (case ∷ cases) teams each logs = absurd each
each_read league limit may_stop whole (k ∷ members) [] teams each logs = absurd each
each_read league limit may_stop whole (k ∷ members) (Without games ∷ cases) teams each logs =
    All-cons (ReadsBack league.n) (Without games) cases
    (season-reads_back (part_of league (without k whole)) games None teams each.0)
    (each_read league limit may_stop whole members cases teams each.1 (All-tail LogReadsBack (Without games) cases logs))
each_read league limit may_stop whole (k ∷ members) (Undecided log ∷ cases) teams each logs =
    All-cons (ReadsBack league.n) (Undecided log) cases (All-head LogReadsBack (Undecided log) cases logs)
    (each_read league limit may_stop whole members cases teams each.1 (All-tail LogReadsBack (Undecided log) cases logs))

-- ---- replies, unless memory ran out

not_spent : (status : Status) → status ≡ Yes → status ≡ Spent → ⊥
not_spent status is ended = let same : Yes ≡ Spent = sym is ∙ ended in cc

not_spent_either : (status : Status) → status ≡ Refuted → status ≡ Spent → ⊥
not_spent_either status is ended = let same : Refuted ≡ Spent = sym is ∙ ended in cc

pub replied-met : {E : Type 0} (league : Instance) (conflicts : Option ℕ) (may_stop : Type 0) (games : List Game) (objective : ℕ)
    (result : Result Reply E) → IsTeamCount league.n
    → IsSeason league games × (objective ≡ costs.objective league (counts_of games))
    → (are_short league ≡ true → ⊥) → (are_crowded league ≡ true → ⊥) → (are_few league ≡ true → ⊥)
    → IfOk result (λ reply. (answer_of reply).status ≡ Yes)
    → IfOk result (λ reply. (answer_of reply).text ≡ solution_text games (Some (0, objective)))
    → IfOk result (λ reply. IsFound league conflicts may_stop (answer_of reply))
replied-met {E} league conflicts may_stop games objective (Ok reply) teams is not_short not_crowded enough status text = record {
  found = inl (record {
    games = games;
    season = is.0;
    status = status;
    text = text ∙ ap (λ (cost : ℕ). solution_text games (Some (0, cost))) is.1;
    reads_back = ap (λ (written : List ℕ). solution_of league.n (pieces written)) text
        ∙ season-reads_back league games (Some (0, objective)) teams is.0;
  });
  ample = λ never ample ended. not_spent (answer_of reply).status status ended;
  circle = λ accepted. status;
  short = λ short. absurd (not_short short);
  crowded = λ crowded. absurd (not_crowded crowded);
  few = λ is. absurd (enough is);
}
replied-met {E} league conflicts may_stop games objective (Err error) teams is not_short not_crowded enough status text = tt

pub replied-conflict : {E : Type 0} (league : Instance) (conflicts : Option ℕ) (may_stop : Type 0) (members : List ℕ) (log : List Step)
    (cases : List Case) (result : Result Reply E) → IsTeamCount league.n
    → IsConflict league conflicts may_stop members log cases → (AreDecided cases → IsIrreducible league members) → ((may_stop → ⊥) → IsAmple (var_count league) conflicts → AreDecided cases)
    → (IsAccepted league (counts_of (double_games league.n)) → ⊥)
    → IfOk result (λ reply. (answer_of reply).status ≡ Refuted)
    → IfOk result (λ reply. (answer_of reply).text ≡ conflict_text members log cases)
    → IfOk result (λ reply. log_of (log_text log) ≡ Ok log) → IfOk result (λ reply. All LogReadsBack cases)
    → IfOk result (λ reply. IsFound league conflicts may_stop (answer_of reply))
replied-conflict {E} league conflicts may_stop members log cases (Ok reply) teams is irreducible decided no_circle status text log_back cases_back =
    record {
      found = inr (inl (record {
        members = members;
        log = log;
        cases = cases;
        conflict = is;
        irreducible = irreducible;
        decided = decided;
        status = status;
        text = text;
        log_reads_back = log_back;
        cases_read_back = each_read league conflicts may_stop members members cases teams is.each cases_back;
      }));
      ample = λ never ample ended. not_spent_either (answer_of reply).status status ended;
      circle = λ accepted. absurd (no_circle accepted);
      short = λ short. status;
      crowded = λ crowded. status;
      few = λ is. status;
    }
replied-conflict {E} league conflicts may_stop members log cases (Err error) teams is irreducible decided no_circle status text log_back cases_back =
    tt

pub replied-spent : {E : Type 0} (league : Instance) (conflicts : Option ℕ) (may_stop : Type 0) (steps : List Step)
    (result : Result Reply E) → IsSpentBy league conflicts may_stop steps → ((may_stop → ⊥) → IsAmple (var_count league) conflicts → ⊥)
    → (IsAccepted league (counts_of (double_games league.n)) → ⊥) → (are_short league ≡ true → ⊥)
    → (are_crowded league ≡ true → ⊥) → (are_few league ≡ true → ⊥) → IfOk result (λ reply. (answer_of reply).status ≡ Spent)
    → IfOk result (λ reply. (answer_of reply).text ≡ log_text steps)
    → IfOk result (λ reply. log_of (answer_of reply).text ≡ Ok steps)
    → IfOk result (λ reply. IsFound league conflicts may_stop (answer_of reply))
replied-spent {E} league conflicts may_stop steps (Ok reply) spent not_ample no_circle not_short not_crowded enough status text back =
    record {
      found = inr (inr (record {
        steps = steps;
        spent = spent;
        status = status;
        text = text;
        reads_back = back;
      }));
      ample = λ never ample ended. not_ample never ample;
      circle = λ accepted. absurd (no_circle accepted);
      short = λ short. absurd (not_short short);
      crowded = λ crowded. absurd (not_crowded crowded);
      few = λ is. absurd (enough is);
    }
replied-spent {E} league conflicts may_stop steps (Err error) spent not_ample no_circle not_short not_crowded enough status text back =
    tt
