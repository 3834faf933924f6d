-- Leagues that are counted out, answered.
use Rattle.std.proofs.Common.{◌≡◌, ℕ, ◌≤◌, Bool, true, false, List, get_or, Option, Some, None, Result, Ok, Err, inl, refl, subst, sym}
use Rattle.std.specs.Prelude.{◌↔◌, IfOk, IfSome, IsSome}
use Rattle.std.specs.List.{All}
use Rattle.league.specs.Counts.{counts_of}
use Rattle.league.specs.Instance.{Instance, IsInstance}
use Rattle.league.specs.declared.game.Game.{Game}
use Rattle.rows.specs.Rows.{SatisfiesAll}
use Rattle.rows.proofs.TestLemmas.{SatisfiesAll-from_true, all_satisfied-true}
use Rattle.encoding.specs.Encoding.{rows_of}
use Rattle.encoding.specs.Variables.{var_count}
use Rattle.decoding.proofs.SeasonRows.{both_satisfied}
use Rattle.answers.specs.Reply.{Answer}
use Rattle.answers.specs.SeenReply.{answer_of}
use Rattle.answers.specs.declared.reply.Reply.{Reply}
use Rattle.answers.specs.declared.status.Status.TheVariants.{Refuted}
use Rattle.refutation.specs.Logs.{log_of}
use Rattle.refutation.specs.Steps.{Step, is_linear}
use Rattle.refutation.specs.Texts.{log_text, version_of}
use Rattle.clause_search.specs.Answers.{Refutes}
use Rattle.clause_search.proofs.LineLemmas.{step_named, step_short}
use Rattle.league_search.proofs.LogLemmas.{refuted-clauses}
use Rattle.break_counts.specs.BreakCounts.{are_few}
use Rattle.break_counts.specs.Sums.{AllowsTooFew}
use Rattle.break_counts.proofs.SearchLemmas.{few-unsatisfied}
use Rattle.break_counts.proofs.SumLaws.{too_few-none}
use Rattle.resume.specs.Kept.{kept_rows, resume_rows}
use Rattle.resume.specs.Resumable.{NoneResumes}
use Rattle.resume.specs.Systems.{PartlyPlayed}
use Rattle.command_resume.specs.Counted.{CountsOut, RefutesSeason}
use Rattle.command_resume.specs.Near.{IsNearBy}
use Rattle.command_resume.specs.Resumed.{IsCountedOut, IsFoundBy}

-- ---- logs

-- a log by which a search refutes the resume rows
pub refuting : (league : Instance) (played : List Game) (k : ℕ) (limit : Option ℕ) (steps : List Step)
    → var_count league ≤ 130960 → Refutes (resume_rows league (counts_of played) k) (var_count league) limit steps
    → RefutesSeason league played k steps
refuting league played k limit steps most is =
    let clauses : All (λ step. is_linear step ≡ false) steps =
    refuted-clauses (resume_rows league (counts_of played) k) (var_count league) limit steps is in
    record {
      accepted = is.accepted;
      named = λ j d within.
          step_named (var_count league) (get_or steps j d) (is.tidy j d within) (clauses j d within);
      short_lines = λ j d within.
          step_short (version_of steps) (var_count league) (get_or steps j d) most (is.tidy j d within)
          (clauses j d within);
    }

-- where a log is found exactly where something is so, it is so
pub some-told : (found : Option (List Step)) (first : List Step) (told : Bool) → found ≡ Some first
    → IsSome found ↔ (told ≡ true) → told ≡ true
some-told found first told is tells = tells.0 (subst (λ (o : Option (List Step)). IsSome o) (sym is) refl)

-- no values satisfy the resume rows
pub few-unresumed : (league : Instance) (played : List Game) (k : ℕ) (values : ℕ → Bool) → IsInstance league
    → are_few league ≡ true → SatisfiesAll values (resume_rows league (counts_of played) k) → ⊥
few-unresumed league played k values instance few meets =
    few-unsatisfied league values instance few
    (SatisfiesAll-from_true values (rows_of league)
    (both_satisfied values (rows_of league) (kept_rows league.n (counts_of played) k)
    (all_satisfied-true values (resume_rows league (counts_of played) k) meets)).0)

-- a log over resume rows, of a league that allows too few breaks
pub counts-season : (league : Instance) (played : List Game) (k : ℕ) (s : PartlyPlayed) (found : Option (List Step))
    → AllowsTooFew league → s ≡ record { league = league; played = played; k = k }
    → IfSome found (RefutesSeason s.league s.played s.k) → IfSome found (CountsOut league played k)
counts-season league played k s None few is refutes = tt
counts-season league played k s (Some log) few is refutes = record {
  few = few;
  refutes = subst (λ (p : PartlyPlayed). RefutesSeason p.league p.played p.k log) is refutes;
}

-- ---- answers

few-excluded : (league : Instance) (played : List Game) (k : ℕ) → IsInstance league → AllowsTooFew league
    → NoneResumes league (counts_of played) k
few-excluded league played k instance few games resumes =
    too_few-none league (counts_of games) instance few resumes.accepted

-- the league is counted out
pub counted-out : (league : Instance) (played : List Game) (k : ℕ) (steps : List Step) (answer : Answer)
    → IsInstance league → CountsOut league played k steps → answer.status ≡ Refuted → answer.text ≡ log_text steps
    → log_of answer.text ≡ Ok steps → IsCountedOut league played k answer
counted-out league played k steps answer instance counts status text reads_back = record {
  few = counts.few;
  steps = steps;
  accepted = counts.refutes.accepted;
  none = few-excluded league played k instance counts.few;
  status = status;
  text = text;
  reads_back = reads_back;
}

-- a reply, unless memory ran out
pub replied-counted : {E : Type 0} (league : Instance) (played : List Game) (k : ℕ) (limits : Option ℕ → Type 0)
    (steps : List Step) (result : Result Reply E) → IsInstance league → CountsOut league played k steps
    → IfOk result (λ reply. (answer_of reply).status ≡ Refuted)
    → IfOk result (λ reply. (answer_of reply).text ≡ log_text steps)
    → IfOk result (λ reply. log_of (answer_of reply).text ≡ Ok steps)
    → IfOk result (λ reply. IsFoundBy league played k limits (answer_of reply))
replied-counted {E} league played k limits steps (Ok reply) instance counts status text reads_back =
    inl (counted-out league played k steps (answer_of reply) instance counts status text reads_back)
replied-counted {E} league played k limits steps (Err error) instance counts status text reads_back = tt

pub near-counted : {E : Type 0} (league : Instance) (played : List Game) (k : ℕ) (limits : Option ℕ → Type 0)
    (may_stop : Type 0) (steps : List Step) (result : Result Reply E) → IsInstance league
    → CountsOut league played k steps → IfOk result (λ reply. (answer_of reply).status ≡ Refuted)
    → IfOk result (λ reply. (answer_of reply).text ≡ log_text steps)
    → IfOk result (λ reply. log_of (answer_of reply).text ≡ Ok steps)
    → IfOk result (λ reply. IsNearBy league played k limits may_stop (answer_of reply))
near-counted {E} league played k limits may_stop steps (Ok reply) instance counts status text reads_back =
    inl (counted-out league played k steps (answer_of reply) instance counts status text reads_back)
near-counted {E} league played k limits may_stop steps (Err error) instance counts status text reads_back = tt
