-- What the search's answers say of a league.
use Rattle.std.proofs.Common.{◌≡◌, ℕ, ◌+◌, ◌≤◌, Bool, true, false, not, List, [], ◌∷◌, get_or}
use Rattle.std.proofs.Common.{zero, suc, length, Option, None, Some, refl, arith, ap, sym, subst, ◌∙◌}
use Rattle.std.specs.Prelude.{IfSome, IsTrue, slice_get}
use Rattle.std.proofs.lemmas.List.{length-append}
use Rattle.std.specs.List.{All}
use Rattle.std.specs.List.Sorted.{IsPermutation}
use Rattle.std.proofs.lemmas.List.Elements.{All-head, All-push, All-tail}
use Rattle.league.specs.Accepted.{IsAccepted}
use Rattle.league.specs.Counts.{Counts, counts_of}
use Rattle.league.specs.Instance.{Instance, IsInstance}
use Rattle.league.specs.declared.game.Game.{Game}
use Rattle.league.proofs.CountLemmas.{counts_of-permutation}
use Rattle.circle_method.specs.Circle.{double_games}
use Rattle.encoding.specs.Encoding.{rows_of}
use Rattle.encoding.specs.Variables.{var_count, x_count}
use Rattle.rows.specs.Rows.{Row}
use Rattle.refutation.specs.Steps.{Step, is_linear}
use Rattle.refutation.specs.Steps.Step.{Clause}
use Rattle.refutation.specs.Texts.{version_of}
use Rattle.clause_search.specs.Answers.{Refutes}
use Rattle.clause_search.specs.News.{IsTidy}
use Rattle.clause_search.proofs.LineLemmas.{step_named, step_short}
use Rattle.robin_watch.specs.Limits.{IsKeptTo}
use Rattle.league_search.specs.PatternAnswers.{IsPatternAnswer, IsPatternAnswerBy}
use Rattle.league_search.specs.PatternLogs.{IsPatternSpent, RefutesPatterns}
use Rattle.league_search.specs.PatternRows.{pattern_rows}
use Rattle.league_search.specs.declared.found.PatternFound.{PatternFound}
use Rattle.league_search.specs.declared.found.PatternFound.TheVariants.{Spent}
use Rattle.league_search.proofs.NewsLemmas.{pattern_news-clauses}
use Rattle.decoding.proofs.SeasonLemmas.{accepted_logs_exclude}
use Rattle.league_search.specs.Answers.{RefutesBehind}
use Rattle.solve.specs.Solutions.{IsWritable, RefutesLeague}
use Rattle.solve.specs.Tried.{RefutesWithin}

-- ---- steps that are news are no sums

-- ---- logs

writable : (vars : ℕ) (steps : List Step) → vars ≤ 130960 → All (IsTidy vars) steps
    → All (λ step. is_linear step ≡ false) steps → IsWritable steps
writable vars steps most tidy clauses = record {
  named = λ k d within. step_named vars (get_or steps k d) (tidy k d within) (clauses k d within);
  short = λ k d within.
      step_short (version_of steps) vars (get_or steps k d) most (tidy k d within) (clauses k d within);
}

-- a log that refutes rows has at most one step more than the limit
pub refutes-few : (rows : List Row) (vars : ℕ) (limit : Option ℕ) (steps : List Step) → Refutes rows vars limit steps
    → IfSome limit (λ most. length steps ≤ most + 1)
refutes-few rows vars None steps is = tt
refutes-few rows vars (Some most) steps is =
    omega (
      arith,
      is.within,
      ap (λ (ss : List Step). length ss) is.last,
      length-append is.before (Clause [] is.hints ∷ []),
    )

-- a log by which a search refutes a league
pub refuted-tried : (league : Instance) (limit : Option ℕ) (steps : List Step) → IsInstance league
    → RefutesBehind league limit steps → RefutesWithin league limit steps
refuted-tried league limit steps instance is = record {
  refutes = record {
    accepted = is.accepted;
    none = accepted_logs_exclude league steps instance is.accepted;
    writable = is.log.writable;
  };
  search = is;
}

-- a log that refutes the pattern rows
pub patterns_refuted : (league : Instance) (limit : Option ℕ) (steps : List Step) → var_count league ≤ 130960
    → RefutesPatterns league limit steps → RefutesLeague league steps
patterns_refuted league limit steps most is =
    let clauses : All (λ step. is_linear step ≡ false) steps =
    subst (λ (ss : List Step). All (λ step. is_linear step ≡ false) ss) (sym is.last)
    (All-push (λ step. is_linear step ≡ false) is.before (Clause [] is.hints)
    (pattern_news-clauses (x_count league.n) (var_count league) (rows_of league) (pattern_rows league) is.before
    is.news) refl) in
    record {
      accepted = is.accepted;
      none = is.none;
      writable = writable (var_count league) steps most is.tidy clauses;
    }

-- what was found of patterns, where the variant is known
pub found_here : (league : Instance) (limit : Option ℕ) (found variant : PatternFound) → found ≡ variant
    → IsPatternAnswer league limit found → IsPatternAnswer league limit variant
found_here league limit found variant is answer = subst (λ (f : PatternFound). IsPatternAnswer league limit f) is answer

-- a log that is spent is so at the limit to which the search kept, which is its number of steps
pub spent_here : (league : Instance) (limit : Option ℕ) (may_stop : Type 0) (found : PatternFound) (log : List Step)
    → found ≡ Spent log → IsPatternAnswerBy league limit may_stop found
    → IsKeptTo limit may_stop (Some (length log)) × IsPatternSpent league (Some (length log)) log
spent_here league limit may_stop found log is by =
    let spent : IsPatternSpent league by.kept log = found_here league by.kept found (Spent log) is by.answer in (
      subst (λ (l : Option ℕ). IsKeptTo limit may_stop l) spent.limited by.is_kept,
      subst (λ (l : Option ℕ). IsPatternSpent league l log) spent.limited spent,
    )

-- ---- an item of a list

pub All-found : {X : Type 0} (P : X → Type 0) (xs : List X) (k : ℕ) (x : X) → All P xs → slice_get xs k ≡ Some x → P x
All-found {X} P [] k x all is = cc
All-found {X} P (y ∷ xs) zero x all is =
    let same : y ≡ x = cc in subst (λ (z : X). P z) same (All-head P y xs all)
All-found {X} P (y ∷ xs) (suc k) x all is = All-found P xs k x (All-tail P y xs all) is

-- ---- schedules

pub same_acceptance : (league : Instance) (games more : List Game) → IsPermutation games more
    → IsAccepted league (counts_of games) → IsAccepted league (counts_of more)
same_acceptance league games more is accepted =
    subst (λ (m : Counts). IsAccepted league m) (sym (counts_of-permutation games more is)) accepted

-- ---- the schedule of the circle method

pub circle_accepted : (league : Instance) (k : ℕ) (games more : List Game) → games ≡ double_games k → k ≡ league.n
    → IsPermutation games more → IsAccepted league (counts_of (double_games league.n))
    → IsAccepted league (counts_of more)
circle_accepted league k games more are same is accepted =
    same_acceptance league games more is
    (subst (λ (gs : List Game). IsAccepted league (counts_of gs))
    (sym (are ∙ ap (λ (n : ℕ). double_games n) same)) accepted)

-- ---- what a test says

pub not_passed : (b : Bool) → not b ≡ true → IsTrue b → ⊥
not_passed true is passed = cc
not_passed false is passed = cc

pub passed : (b : Bool) → not b ≡ false → IsTrue b
passed true is = refl
passed false is = cc

-- ---- how many variables there are

pub few_variables : (league : Instance) (vars : ℕ) → vars ≡ var_count league → vars ≤ 130960
    → var_count league ≤ 130960
few_variables league vars is most = omega (arith, is, most)
