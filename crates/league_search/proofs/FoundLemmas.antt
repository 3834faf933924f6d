-- What is found, said of the league.
use Rattle.std.proofs.Common.{◌≡◌, ℕ, ◌≤◌, ◌||◌, Bool, true, false, if◌then◌else◌, List, [], ◌∷◌, ◌++◌, length, get_or}
use Rattle.std.proofs.Common.{Option, Result, Ok, Err, refl, ap, subst, sym, ◌∙◌}
use Rattle.std.specs.Prelude.{IfOk}
use Rattle.std.specs.List.{All, list_any}
use Rattle.std.proofs.lemmas.List.Elements.{All-append, All-nil, All-push, All-head, All-tail}
use Rattle.std.proofs.lemmas.List.Folds.{list_any-append}
use Rattle.league.specs.Instance.{Instance}
use Rattle.rows.specs.Rows.{Row, Satisfies}
use Rattle.rows.specs.Values.{assigned}
use Rattle.encoding.specs.Encoding.{rows_of}
use Rattle.encoding.specs.Known.{AreKnown}
use Rattle.encoding.specs.Variables.{has_breaks, var_count}
use Rattle.propagate.specs.Trails.{KnowsVariables}
use Rattle.refutation.specs.Logs.{most_bytes}
use Rattle.refutation.specs.Steps.{NamesRows, Step, is_linear}
use Rattle.refutation.specs.Steps.Step.{Clause}
use Rattle.refutation.specs.Texts.{step_text, version_of}
use Rattle.refutation.specs.Verdict.{verdict_of}
use Rattle.refutation.specs.declared.verdict.Verdict.TheVariants.{Accepted}
use Rattle.refutation.specs.declared.version.Version.{Version}
use Rattle.refutation.specs.declared.version.Version.TheVariants.{One, Two}
use Rattle.clause_search.specs.Answers.{IsAnswer, IsAnswerBy, IsSpentAt, Refutes}
use Rattle.clause_search.specs.News.{IsTidy}
use Rattle.clause_search.specs.declared.found.Found.{Found}
use Rattle.clause_search.specs.declared.found.Found.TheVariants.{Sat, Refuted, Spent}
use Rattle.clause_search.proofs.LineLemmas.{step_named, step_short}
use Rattle.clause_search.proofs.SearchLemmas.{news-clauses}
use Rattle.league_search.specs.Answers.{IsLeagueAnswer, IsLeagueAnswerBy, IsLeagueLog, IsSpentOn, IsWritable, RefutesBehind}
use Rattle.league_search.specs.Sums.{Give, IsBehind, IsLonger}
use Rattle.league_search.proofs.GiveLemmas.{Give-front, accepted-behind}

-- ---- rows

pub knows-from_known : (vars : ℕ) (rows : List Row) → AreKnown vars rows → All (KnowsVariables vars) rows
knows-from_known vars rows known k d within = λ j e there. (known k d within j e there).1

-- the same of a league's rows under other names
pub knows-here : (league : Instance) (rows : List Row) (vars : ℕ) → rows ≡ rows_of league → vars ≡ var_count league
    → AreKnown (var_count league) (rows_of league) → All (KnowsVariables vars) rows
knows-here league rows vars are has known =
    subst (λ (rs : List Row). All (KnowsVariables vars) rs) (sym are)
    (subst (λ (v : ℕ). All (KnowsVariables v) (rows_of league)) (sym has)
    (knows-from_known (var_count league) (rows_of league) known))

pub few_here : (league : Instance) (vars : ℕ) → vars ≡ var_count league → vars ≤ 130960 → var_count league ≤ 130960
few_here league vars has most = subst (λ (v : ℕ). v ≤ 130960) has most

-- ---- steps of a search

pub refuted-clauses : (rows : List Row) (vars : ℕ) (limit : Option ℕ) (steps : List Step) → Refutes rows vars limit steps
    → All (λ step. is_linear step ≡ false) steps
refuted-clauses rows vars limit steps is =
    subst (λ (ss : List Step). All (λ step. is_linear step ≡ false) ss) (sym is.last)
    (All-push (λ step. is_linear step ≡ false) is.before (Clause [] is.hints)
    (news-clauses rows vars is.before is.news) refl)

pub spent-clauses : (rows : List Row) (vars : ℕ) (limit : Option ℕ) (steps : List Step) → IsSpentAt rows vars limit steps
    → All (λ step. is_linear step ≡ false) steps
spent-clauses rows vars limit steps is = news-clauses rows vars steps is.spent.news

-- ---- the text of a log

none_linear : (steps : List Step) → All (λ step. is_linear step ≡ false) steps → list_any is_linear steps ≡ false
none_linear [] clauses = refl
none_linear (step ∷ steps) clauses =
    ap (λ (b : Bool). b || list_any is_linear steps) (All-head (λ s. is_linear s ≡ false) step steps clauses)
    ∙ none_linear steps (All-tail (λ s. is_linear s ≡ false) step steps clauses)

or_false : (b : Bool) → (b || false) ≡ b
or_false true = refl
or_false false = refl

-- clauses change no version
version-same : (sums search : List Step) → All (λ step. is_linear step ≡ false) search
    → version_of (sums ++ search) ≡ version_of sums
version-same sums search clauses =
    ap (λ (b : Bool). if b then Two else One)
    (list_any-append is_linear sums search
    ∙ ap (λ (b : Bool). list_any is_linear sums || b) (none_linear search clauses)
    ∙ or_false (list_any is_linear sums))

pub writable-behind : (vars : ℕ) (sums search : List Step) → vars ≤ 130960 → IsWritable sums
    → All (IsTidy vars) search → All (λ step. is_linear step ≡ false) search → IsWritable (sums ++ search)
writable-behind vars sums search most writable tidy clauses =
    let version : Version = version_of (sums ++ search) in
    record {
      named = All-append NamesRows sums search writable.named
          (λ k d within. step_named vars (get_or search k d) (tidy k d within) (clauses k d within));
      short = All-append (λ step. length (step_text (version_of (sums ++ search)) step) ≤ most_bytes) sums search
          (subst (λ (v : Version). All (λ step. length (step_text v step) ≤ most_bytes) sums)
          (sym (version-same sums search clauses)) writable.short)
          (λ k d within.
          step_short (version_of (sums ++ search)) vars (get_or search k d) most (tidy k d within)
          (clauses k d within));
    }

pub writable-none : IsWritable []
writable-none = record {
  named = All-nil NamesRows;
  short = All-nil (λ (step : Step). length (step_text (version_of []) step) ≤ most_bytes);
}

-- ---- a log of the league

abbrev pub league_log : (league : Instance) (sums search log : List Step) (more : List Row)
    → IsLonger (rows_of league) (var_count league) sums more
    → (has_breaks league.constraints ≡ false → sums ≡ []) → IsWritable log → log ≡ sums ++ search
    → IsLeagueLog league log
league_log league sums search log more longer none writable is = record {
  behind = record {
    sums = sums;
    more = more;
    search = search;
    parts = is;
    linear = longer.linear;
    give = longer.give;
  };
  none = none;
  writable = writable;
}

both : true ≡ false → ⊥
both is = cc

breaks-not : {P : Type 0} (league : Instance) → has_breaks league.constraints ≡ true
    → has_breaks league.constraints ≡ false → P
breaks-not {P} league breaks none = absurd (both (sym breaks ∙ none))

-- what a search over longer rows answers
pub satisfied-behind : (league : Instance) (sums : List Step) (more : List Row) (limit : Option ℕ) (values : List Bool)
    → IsLonger (rows_of league) (var_count league) sums more → IsAnswer more (var_count league) limit (Sat values)
    → IsLeagueAnswer league limit (Sat values)
satisfied-behind league sums more limit values longer is =
    (is.0, Give-front (Satisfies (assigned values)) (rows_of league) (var_count league) sums more longer.give is.1)

pub refuted-behind : (league : Instance) (sums search log : List Step) (more : List Row) (limit : Option ℕ)
    → var_count league ≤ 130960 → has_breaks league.constraints ≡ true
    → IsLonger (rows_of league) (var_count league) sums more → IsWritable sums → log ≡ sums ++ search
    → Refutes more (var_count league) limit search → RefutesBehind league limit log
refuted-behind league sums search log more limit most breaks longer writable is refutes = record {
  accepted = subst (λ (ss : List Step). verdict_of (rows_of league) (var_count league) ss ≡ Accepted) (sym is)
      (accepted-behind (rows_of league) (var_count league) sums more search longer.give refutes.accepted);
  log = league_log league sums search log more longer (breaks-not league breaks)
      (subst (λ (ss : List Step). IsWritable ss) (sym is)
      (writable-behind (var_count league) sums search most writable refutes.tidy
      (refuted-clauses more (var_count league) limit search refutes)))
      is;
  refutes = refutes;
}

pub spent-behind : (league : Instance) (sums search log : List Step) (more : List Row) (limit : Option ℕ)
    → var_count league ≤ 130960 → has_breaks league.constraints ≡ true
    → IsLonger (rows_of league) (var_count league) sums more → IsWritable sums → log ≡ sums ++ search
    → IsSpentAt more (var_count league) limit search → IsSpentOn league limit log
spent-behind league sums search log more limit most breaks longer writable is spent = record {
  log = league_log league sums search log more longer (breaks-not league breaks)
      (subst (λ (ss : List Step). IsWritable ss) (sym is)
      (writable-behind (var_count league) sums search most writable spent.tidy
      (spent-clauses more (var_count league) limit search spent)))
      is;
  spent = spent;
}

-- ---- a search over the league's rows alone

abbrev pub plain_behind : (rows : List Row) (vars : ℕ) (steps : List Step) → IsBehind rows vars steps
plain_behind rows vars steps = record {
  sums = [];
  more = rows;
  search = steps;
  parts = refl;
  linear = All-nil (λ step. is_linear step ≡ true);
  give = refl;
}

abbrev pub plain_log : (league : Instance) (steps : List Step) → IsWritable steps → IsLeagueLog league steps
plain_log league steps writable = record {
  behind = plain_behind (rows_of league) (var_count league) steps;
  none = λ none. refl;
  writable = writable;
}

pub plain_spent : (league : Instance) (limit : Option ℕ) (steps : List Step) → IsWritable steps
    → IsSpentAt (rows_of league) (var_count league) limit steps → IsSpentOn league limit steps
plain_spent league limit steps writable spent = record { log = plain_log league steps writable; spent = spent }

-- what it answers
pub plain : (league : Instance) (limit : Option ℕ) (found : Found) → var_count league ≤ 130960
    → IsAnswer (rows_of league) (var_count league) limit found → IsLeagueAnswer league limit found
plain league limit (Sat values) most is = is
plain league limit (Refuted log) most is = record {
  accepted = is.accepted;
  log = plain_log league log
      (writable-behind (var_count league) [] log most writable-none is.tidy
      (refuted-clauses (rows_of league) (var_count league) limit log is));
  refutes = is;
}
plain league limit (Spent log) most is =
    plain_spent league limit log
    (writable-behind (var_count league) [] log most writable-none is.tidy
    (spent-clauses (rows_of league) (var_count league) limit log is))
    is

plain-same : (league : Instance) (limit : Option ℕ) (may_stop : Type 0) (found : Found) → var_count league ≤ 130960
    → IsAnswerBy (rows_of league) (var_count league) limit may_stop found
    → IsLeagueAnswerBy league limit may_stop found
plain-same league limit may_stop found most is = record {
  kept = is.kept;
  is_kept = is.is_kept;
  answer = plain league is.kept found most is.answer;
}

pub plain-by : (league : Instance) (rows : List Row) (vars : ℕ) (limit : Option ℕ) (may_stop : Type 0) (found : Found)
    → rows ≡ rows_of league → vars ≡ var_count league → vars ≤ 130960
    → IsAnswerBy rows vars limit may_stop found → IsLeagueAnswerBy league limit may_stop found
plain-by league rows vars limit may_stop found are has most is =
    plain-same league limit may_stop found (few_here league vars has most)
    (subst (λ (v : ℕ). IsAnswerBy (rows_of league) v limit may_stop found) has
    (subst (λ (rs : List Row). IsAnswerBy rs vars limit may_stop found) are is))

-- what was found, where the variant is known
pub found_here : (rows : List Row) (vars : ℕ) (limit : Option ℕ) (found variant : Found) → found ≡ variant
    → IsAnswer rows vars limit found → IsAnswer rows vars limit variant
found_here rows vars limit found variant same is = subst (λ (f : Found). IsAnswer rows vars limit f) same is

with-kept : {E : Type 0} (league : Instance) (rows : List Row) (vars : ℕ) (limit : Option ℕ) (may_stop : Type 0)
    (found : Found) (result : Result Found E) → (is : IsAnswerBy rows vars limit may_stop found)
    → IfOk result (IsLeagueAnswer league is.kept) → IfOk result (IsLeagueAnswerBy league limit may_stop)
with-kept {E} league rows vars limit may_stop found (Ok answer) is said =
    record { kept = is.kept; is_kept = is.is_kept; answer = said }
with-kept {E} league rows vars limit may_stop found (Err error) is said = tt

-- what holds within the limit to which the search over longer rows kept
pub behind-by : {E : Type 0} (league : Instance) (rows : List Row) (vars : ℕ) (limit : Option ℕ) (may_stop : Type 0)
    (found : Found) (result : Result Found E) → vars ≡ var_count league → IsAnswerBy rows vars limit may_stop found
    → ((kept : Option ℕ) → IsAnswer rows (var_count league) kept found → IfOk result (IsLeagueAnswer league kept))
    → IfOk result (IsLeagueAnswerBy league limit may_stop)
behind-by {E} league rows vars limit may_stop found result has is each =
    with-kept league rows vars limit may_stop found result is
    (each is.kept (subst (λ (v : ℕ). IsAnswer rows v is.kept found) has is.answer))

-- ---- a log of a league whose breaks aren't bounded

pub more-plain : (league : Instance) (steps : List Step) (log : IsLeagueLog league steps)
    → has_breaks league.constraints ≡ false → log.behind.more ≡ rows_of league
more-plain league steps log none =
    subst (λ (sums : List Step). Give (rows_of league) (var_count league) sums log.behind.more) (log.none none)
    log.behind.give

pub search-plain : (league : Instance) (steps : List Step) (log : IsLeagueLog league steps)
    → has_breaks league.constraints ≡ false → log.behind.search ≡ steps
search-plain league steps log none =
    sym (log.behind.parts ∙ ap (λ (sums : List Step). sums ++ log.behind.search) (log.none none))
