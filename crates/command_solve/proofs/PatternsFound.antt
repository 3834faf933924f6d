-- What is found of a league's patterns, answered.
use Rattle.std.proofs.Common.{◌≡◌, ℕ, ◌≤◌, Bool, true, false, List, [], Option, Some, Result, Ok, Err}
use Rattle.std.proofs.Common.{inl, inr, refl, subst, sym}
use Rattle.std.specs.Prelude.{◌↔◌, IfOk, IsSome}
use Rattle.std.specs.List.{All}
use Rattle.std.proofs.lemmas.List.Elements.{All-push, All-weaker}
use Rattle.league.specs.Instance.{Instance, IsInstance}
use Rattle.league.specs.declared.class.Side.{Side}
use Rattle.encoding.specs.Encoding.{rows_of}
use Rattle.encoding.specs.Variables.{var_count, x_count}
use Rattle.clause_search.proofs.TidyLemmas.{IsTidy-wider}
use Rattle.answers.specs.SeenReply.{answer_of}
use Rattle.answers.specs.declared.reply.Reply.{Reply}
use Rattle.answers.specs.declared.status.Status.TheVariants.{Yes, Refuted, Spent}
use Rattle.clause_search.specs.News.{IsTidy}
use Rattle.refutation.specs.Logs.{log_of}
use Rattle.refutation.specs.Steps.{Step, is_linear}
use Rattle.refutation.specs.Steps.Step.{Clause}
use Rattle.refutation.specs.Texts.{log_text}
use Rattle.league_search.specs.PatternLogs.{IsPatternSpent, RefutesPatterns}
use Rattle.league_search.specs.PatternRows.{pattern_rows}
use Rattle.league_search.specs.PatternSets.{IsPatternSet}
use Rattle.league_search.proofs.NewsLemmas.{pattern_news-clauses}
use Rattle.venue_counts.specs.CountLogs.{IsRefuting}
use Rattle.break_counts.specs.BreakCounts.{are_few}
use Rattle.break_counts.specs.Sums.{AllowsTooFew}
use Rattle.solve.proofs.CountingLemmas.{refuted_by}
use Rattle.command_solve.specs.Patterns.{AreFound, AreSearched, patterns_text}

-- ---- logs can be written

pub all_tidy : (league : Instance) (vars : ℕ) (steps : List Step) → vars ≡ var_count league → vars ≤ 130960
    → All (IsTidy (var_count league)) steps → All (IsTidy 130960) steps
all_tidy league vars steps is most tidy =
    let few : var_count league ≤ 130960 = subst (λ (v : ℕ). v ≤ 130960) is most in
    All-weaker (IsTidy (var_count league)) (IsTidy 130960)
    (λ step is_tidy. IsTidy-wider (var_count league) 130960 step few is_tidy) steps tidy

pub refuted-clauses : (league : Instance) (limit : Option ℕ) (steps : List Step) → RefutesPatterns league limit steps
    → All (λ step. is_linear step ≡ false) steps
refuted-clauses league limit steps is =
    subst (λ (ss : List Step). All (λ step. is_linear step ≡ false) ss) (sym is.last)
    (All-push (λ step. is_linear step ≡ false) is.before (Clause [] is.hints)
    (pattern_news-clauses (x_count league.n) (var_count league) (rows_of league) (pattern_rows league) is.before
    is.news) refl)

pub spent-clauses : (league : Instance) (limit : Option ℕ) (steps : List Step) → IsPatternSpent league limit steps
    → All (λ step. is_linear step ≡ false) steps
spent-clauses league limit steps is =
    pattern_news-clauses (x_count league.n) (var_count league) (rows_of league) (pattern_rows league) steps is.news

-- ---- replies, unless memory ran out

pub replied-patterns : {E : Type 0} (league : Instance) (conflicts : Option ℕ) (patterns : List (List Side))
    (result : Result Reply E) → IsPatternSet league patterns → IfOk result (λ reply. (answer_of reply).status ≡ Yes)
    → IfOk result (λ reply. (answer_of reply).text ≡ patterns_text patterns)
    → IfOk result (λ reply. AreSearched league conflicts (answer_of reply))
replied-patterns league conflicts patterns (Ok reply) set status text =
    inl (record { patterns = patterns; set = set; status = status; text = text })
replied-patterns league conflicts patterns (Err error) set status text = tt

pub replied-refuted : {E : Type 0} (league : Instance) (conflicts : Option ℕ) (steps : List Step)
    (result : Result Reply E) → RefutesPatterns league conflicts steps
    → IfOk result (λ reply. (answer_of reply).status ≡ Refuted)
    → IfOk result (λ reply. (answer_of reply).text ≡ log_text steps)
    → IfOk result (λ reply. log_of (answer_of reply).text ≡ Ok steps)
    → IfOk result (λ reply. AreSearched league conflicts (answer_of reply))
replied-refuted league conflicts steps (Ok reply) refutes status text reads_back =
    inr (inl (record { steps = steps; refutes = refutes; status = status; text = text; reads_back = reads_back }))
replied-refuted league conflicts steps (Err error) refutes status text reads_back = tt

pub replied-spent : {E : Type 0} (league : Instance) (conflicts : Option ℕ) (steps : List Step)
    (result : Result Reply E) → IsPatternSpent league conflicts steps
    → IfOk result (λ reply. (answer_of reply).status ≡ Spent)
    → IfOk result (λ reply. (answer_of reply).text ≡ log_text steps)
    → IfOk result (λ reply. log_of (answer_of reply).text ≡ Ok steps)
    → IfOk result (λ reply. AreSearched league conflicts (answer_of reply))
replied-spent league conflicts steps (Ok reply) spent status text reads_back =
    inr (inr (record { steps = steps; spent = spent; status = status; text = text; reads_back = reads_back }))
replied-spent league conflicts steps (Err error) spent status text reads_back = tt

-- ---- leagues that allow their teams too few breaks, and others

-- where a log is found exactly where something is so, it is so
pub some-told : (found : Option (List Step)) (first : List Step) (told : Bool) → found ≡ Some first
    → IsSome found ↔ (told ≡ true) → told ≡ true
some-told found first told is tells = tells.0 (subst (λ (o : Option (List Step)). IsSome o) (sym is) refl)

pub replied-counted : {E : Type 0} (league : Instance) (conflicts : Option ℕ) (steps : List Step)
    (result : Result Reply E) → IsInstance league → AllowsTooFew league → IsRefuting league steps
    → IfOk result (λ reply. (answer_of reply).status ≡ Refuted)
    → IfOk result (λ reply. (answer_of reply).text ≡ log_text steps)
    → IfOk result (λ reply. log_of (answer_of reply).text ≡ Ok steps)
    → IfOk result (λ reply. AreFound league conflicts (answer_of reply))
replied-counted {E} league conflicts steps (Ok reply) instance few refuting status text reads_back =
    inl (
      few,
      record {
        steps = steps;
        accepted = refuting.accepted;
        none = (refuted_by league steps instance refuting).none;
        status = status;
        text = text;
        reads_back = reads_back;
      },
    )
replied-counted {E} league conflicts steps (Err error) instance few refuting status text reads_back = tt

found-searched : {E : Type 0} (league : Instance) (conflicts : Option ℕ) (result : Result Reply E)
    → are_few league ≡ false → IfOk result (λ reply. AreSearched league conflicts (answer_of reply))
    → IfOk result (λ reply. AreFound league conflicts (answer_of reply))
found-searched {E} league conflicts (Ok reply) enough searched = inr (enough, searched)
found-searched {E} league conflicts (Err error) enough searched = tt

pub replied-searched : {E : Type 0} (encoded league : Instance) (conflicts : Option ℕ) (result : Result Reply E)
    → encoded ≡ league → are_few league ≡ false
    → IfOk result (λ reply. AreSearched encoded conflicts (answer_of reply))
    → IfOk result (λ reply. AreFound league conflicts (answer_of reply))
replied-searched {E} encoded league conflicts result same enough searched =
    found-searched league conflicts result enough
    (subst (λ (l : Instance). IfOk result (λ reply. AreSearched l conflicts (answer_of reply))) same searched)
