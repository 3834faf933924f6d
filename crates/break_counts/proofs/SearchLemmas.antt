-- What a search without a limit answers of a league that allows its teams too few breaks: a log.
use Rattle.std.proofs.Common.{◌≡◌, ℕ, ◌≤◌, Bool, true, false, List, [], ◌∷◌, get_or, Option}
use Rattle.std.proofs.Common.{refl, sym, subst}
use Rattle.std.specs.List.{All}
use Rattle.std.proofs.lemmas.List.Elements.{All-push}
use Rattle.league.specs.Counts.{counts_of}
use Rattle.league.specs.Instance.{Instance, IsInstance}
use Rattle.rows.specs.Rows.{SatisfiesAll}
use Rattle.encoding.specs.Encoding.{rows_of}
use Rattle.encoding.specs.Shadow.{decoded}
use Rattle.encoding.specs.Variables.{var_count}
use Rattle.decoding.proofs.Faithful.{accepted-from_rows}
use Rattle.refutation.specs.Steps.{Step, is_linear}
use Rattle.refutation.specs.Steps.Step.{Clause}
use Rattle.refutation.specs.Texts.{version_of}
use Rattle.clause_search.specs.Answers.{Refutes}
use Rattle.clause_search.proofs.LineLemmas.{step_named, step_short}
use Rattle.clause_search.proofs.SearchLemmas.{news-clauses}
use Rattle.venue_counts.specs.CountLogs.{IsRefuting}
use Rattle.break_counts.specs.BreakCounts.{are_few}
use Rattle.break_counts.proofs.FewLaws.{few-none}

-- a log by which a search refutes a league's rows
pub refuting : (league : Instance) (limit : Option ℕ) (steps : List Step) → var_count league ≤ 130960
    → Refutes (rows_of league) (var_count league) limit steps → IsRefuting league steps
refuting league limit steps most is =
    let clauses : All (λ step. is_linear step ≡ false) steps =
    subst (λ (ss : List Step). All (λ step. is_linear step ≡ false) ss) (sym is.last)
    (All-push (λ step. is_linear step ≡ false) is.before (Clause [] is.hints)
    (news-clauses (rows_of league) (var_count league) is.before is.news) refl) in
    record {
      accepted = is.accepted;
      named = λ k d within.
          step_named (var_count league) (get_or steps k d) (is.tidy k d within) (clauses k d within);
      short_lines = λ k d within.
          step_short (version_of steps) (var_count league) (get_or steps k d) most (is.tidy k d within)
          (clauses k d within);
    }

-- no values satisfy the rows
pub few-unsatisfied : (league : Instance) (values : ℕ → Bool) → IsInstance league → are_few league ≡ true
    → SatisfiesAll values (rows_of league) → ⊥
few-unsatisfied league values instance few meets =
    few-none league (counts_of (decoded league.n values)) instance few
    (accepted-from_rows league values instance meets)
