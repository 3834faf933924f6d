-- What the search's logs over lowered pattern rows say of a league.
use Rattle.std.proofs.Common.{◌≡◌, ℕ, ◌+◌, ◌-◌, ◌*◌, ◌^◌, ◌<◌, ◌≤◌, Bool, true, false, cond, if◌then◌else◌}
use Rattle.std.proofs.Common.{List, [], ◌∷◌, ◌++◌, length, map, take, get_or, Option, Some, None, Result, Ok}
use Rattle.std.proofs.Common.{refl, arith, ap, sym, subst, ◌∙◌, suc, zero, zero-add}
use Rattle.std.specs.Prelude.{IfSome, nat_le, slice_index}
use Rattle.std.specs.List.{All, filter_map}
use Rattle.std.proofs.lemmas.Bool.{le-leb}
use Rattle.std.proofs.lemmas.List.{append-nil, append_assoc, get_or_append_left, get_or_push, length-append}
use Rattle.std.proofs.lemmas.List.{length_push}
use Rattle.std.proofs.lemmas.List.{map-append}
use Rattle.std.proofs.lemmas.List.Elements.{All-push}
use Rattle.std.proofs.lemmas.Option.{slice_get_within}
use Rattle.league.specs.Instance.{Instance, IsInstance}
use Rattle.rows.specs.Partials.{IsQuiet}
use Rattle.rows.specs.Rows.{Row}
use Rattle.encoding.specs.Encoding.{rows_of}
use Rattle.encoding.specs.Variables.{h_count, has_breaks, hb_count, var_count, x_count}
use Rattle.refutation.specs.Following.{clause_row, fault_of, judged, row_numbered, row_unless}
use Rattle.refutation.specs.Steps.{Step, clause_of, is_linear}
use Rattle.refutation.specs.Steps.Step.{Clause}
use Rattle.refutation.specs.Verdict.{ends_empty, fault_or, first_fault, verdict_by, verdict_of}
use Rattle.refutation.specs.declared.verdict.Cause.{Cause}
use Rattle.refutation.specs.declared.verdict.Verdict.TheVariants.{Accepted}
use Rattle.clause_search.specs.Answers.{IsSpentAt, Refutes}
use Rattle.clause_search.specs.Kept.{step_at, steps_at}
use Rattle.clause_search.specs.News.{AreNews, IsTidy, row_of}
use Rattle.clause_search.proofs.SearchLemmas.{DoFollow, ends_empty-push, first_fault-none, follow-first, follow-rest}
use Rattle.clause_search.proofs.SearchLemmas.{keeps-within, news-clauses}
use Rattle.decoding.proofs.SeasonLemmas.{accepted_logs_exclude}
use Rattle.league_search.specs.PatternLogs.{ArePatternNews, IsPatternNews, IsPatternSpent, RefutesPatterns}
use Rattle.league_search.specs.PatternLogs.{TellOfPatterns}
use Rattle.league_search.specs.PatternRows.{pattern_rows, pattern_var_count}
use Rattle.league_search.specs.Raised.{IsPicked, number_of, raised_row, raised_step, raised_steps}
use Rattle.league_search.specs.Raised.{renumbered}
use Rattle.league_search.proofs.NewsLemmas.{HasSmallHints, hints-named, length-raised, news-raised, numbering-steps}
use Rattle.league_search.proofs.NewsLemmas.{patterns-kept, raised_steps-push, step-follows, steps-tidy}
use Rattle.league_search.proofs.NumberLemmas.{IsNumbering}
use Rattle.league_search.proofs.PickLemmas.{picked_raised}
use Rattle.league_search.proofs.RaiseLemmas.{quiet-raised, raised_values, raises_values}

-- ---- what holds of all

All-front : (P : Step → Type 0) (steps more : List Step) → All P (steps ++ more) → All P steps
All-front P steps more all = λ k d within.
    subst P (get_or_append_left steps more d k within)
    (all k d (omega (arith, within, length-append steps more)))

All-last : (P : Step → Type 0) (steps : List Step) (step : Step) → All P (steps ++ step ∷ []) → P step
All-last P steps step all =
    subst P (get_or_push steps step step (length steps) refl)
    (all (length steps) step (omega (arith, length_push steps step)))

-- ---- the last step of a log that is accepted

went_on : (fault : Option Cause) (row : Row) (n : ℕ) (later : Row → Option (ℕ × Cause))
    → fault_or n (row_unless fault row) later ≡ None → row_unless fault row ≡ Ok row
went_on None row n later is = refl
went_on (Some cause) row n later is = absurd (cc)

last-follows : (rows : List Row) (vars n : ℕ) (steps : List Step) (hints : List ℕ) → DoFollow rows vars steps
    → first_fault rows vars n (steps ++ Clause [] hints ∷ []) ≡ None
    → judged (rows ++ map row_of steps) vars (Clause [] hints) ≡ Ok (clause_row [])
last-follows rows vars n [] hints follow none =
    subst (λ (rs : List Row). judged rs vars (Clause [] hints) ≡ Ok (clause_row [])) (sym (append-nil rows))
    (went_on (fault_of rows vars [] hints) (clause_row []) (n + 1) (λ row. None) none)
last-follows rows vars n (step ∷ steps) hints follow none =
    subst (λ (rs : List Row). judged rs vars (Clause [] hints) ≡ Ok (clause_row []))
    (append_assoc rows (row_of step ∷ []) (map row_of steps))
    (last-follows (rows ++ row_of step ∷ []) vars (n + 1) steps hints (follow-rest rows vars step steps follow)
    (subst (λ (r : Result Row Cause). fault_or (n + 1) r
    (λ row. first_fault (rows ++ row ∷ []) vars (n + 1) (steps ++ Clause [] hints ∷ [])) ≡ None)
    (follow-first rows vars step steps follow) none))

no_fault : (fault : Option (ℕ × Cause)) (ends : Bool) (n : ℕ) → verdict_by fault ends n ≡ Accepted → fault ≡ None
no_fault None ends n is = refl
no_fault (Some (step, cause)) ends n is = absurd (cc)

-- ---- and of one that will be

accepted_by : (games vars : ℕ) (rows patterns : List Row) (steps : List Step) (hints : List ℕ)
    → ArePatternNews games vars rows patterns steps
    → judged (rows ++ map row_of steps) vars (Clause [] hints) ≡ Ok (clause_row [])
    → verdict_of rows vars (steps ++ Clause [] hints ∷ []) ≡ Accepted
accepted_by games vars rows patterns steps hints news last =
    ap (λ (fault : Option (ℕ × Cause)). verdict_by fault (ends_empty (steps ++ Clause [] hints ∷ []))
    (length (steps ++ Clause [] hints ∷ [])))
    (first_fault-none rows vars 0 steps hints (λ k within. (news.news k within).follows) last)
    ∙ ap (λ (ends : Bool). verdict_by None ends (length (steps ++ Clause [] hints ∷ []))) (ends_empty-push steps hints)

-- ---- the numbering of a league's pattern rows

numbering : (x : ℕ) (rows low : List Row) (numbers : List ℕ) → IsPicked x rows (length rows) low numbers
    → IsNumbering x numbers (length rows) 0 low rows
numbering x rows low numbers picked = record {
  low_count = omega (arith, picked.lengths);
  whole_count = omega arith;
  gives = λ h row there. given h row there;
  from_one = picked.from_one;
} where
  taken : (b : Bool) (n m : ℕ) → b ≡ true → cond b n m ≡ n
  taken true n m is = refl
  taken false n m is = absurd (cc)

  given : (h : ℕ) (row : Row) → row_numbered low h ≡ Some row
      → row_numbered rows (renumbered numbers (length rows) h) ≡ Some (raised_row x row)
  given zero row there = absurd (cc)
  given (suc k) row there =
      let within : suc k ≤ length numbers = omega (arith, picked.lengths, slice_get_within low k row there) in
      ap (λ (n : ℕ). row_numbered rows n)
      (taken (nat_le (suc k) (length numbers)) (slice_index numbers (suc k - 1)) (suc k - length numbers + length rows)
      (le-leb (suc k) (length numbers) within)
      ∙ ap (λ (j : ℕ). slice_index numbers j) (let same : suc k - 1 ≡ k = omega arith in same))
      ∙ picked.named k row there

-- the variables that aren't those of games
vars-more : (league : Instance) → var_count league - x_count league.n + x_count league.n ≡ var_count league
vars-more league =
    lowered_more (x_count league.n) (h_count league.n)
    (if has_breaks league.constraints then 2 * hb_count league.n else 0) where
      lowered_more : (x h b : ℕ) → x + h + b - x + x ≡ x + h + b
      lowered_more x h b = omega arith

vars-are : (league : Instance) → var_count league - x_count league.n ≡ pattern_var_count league
vars-are league =
    lowered_is (x_count league.n) (h_count league.n)
    (if has_breaks league.constraints then 2 * hb_count league.n else 0) where
      lowered_is : (x h b : ℕ) → x + h + b - x ≡ h + b
      lowered_is x h b = omega arith

count_fits : (league : Instance) (games : ℕ) → games ≡ x_count league.n → games ≤ var_count league
count_fits league games same =
    subst (λ (g : ℕ). g ≤ var_count league) (sym same)
    (more (x_count league.n) (h_count league.n)
    (if has_breaks league.constraints then 2 * hb_count league.n else 0)) where
      more : (x h b : ℕ) → x ≤ x + h + b
      more x h b = omega arith

-- ---- logs of a league

module _ (league : Instance) (low : List Row) (numbers : List ℕ)
    (picked : IsPicked (x_count league.n) (rows_of league) (length (rows_of league)) low numbers) where
  abbrev lifted : List Step → List Step
  lifted steps = raised_steps (x_count league.n) numbers (length (rows_of league)) 0 steps

  numbered : IsNumbering (x_count league.n) numbers (length (rows_of league)) 0 low (rows_of league)
  numbered = numbering (x_count league.n) (rows_of league) low numbers picked

  inside : (steps : List Step) (k : ℕ) → k < length (lifted steps) → k < length steps
  inside steps k within =
      omega (arith, within, length-raised (x_count league.n) numbers (length (rows_of league)) steps 0)

  news_lifted : (steps : List Step) (news : AreNews low (var_count league - x_count league.n) steps)
      → All (IsTidy (var_count league - x_count league.n)) steps → (k : ℕ) → k < length (lifted steps)
      → IsPatternNews (x_count league.n) (var_count league) (rows_of league ++ map row_of (take k (lifted steps)))
      (pattern_rows league ++ map row_of (steps_at (lifted steps) (news.keeps k))) (step_at (lifted steps) k)
  news_lifted steps news tidy k within =
      subst (λ (v : ℕ). IsPatternNews (x_count league.n) v (rows_of league ++ map row_of (take k (lifted steps)))
      (pattern_rows league ++ map row_of (steps_at (lifted steps) (news.keeps k))) (step_at (lifted steps) k))
      (vars-more league)
      (subst (λ (rs : List Row). IsPatternNews (x_count league.n)
      (var_count league - x_count league.n + x_count league.n)
      (rows_of league ++ map row_of (take k (lifted steps)))
      (rs ++ map row_of (steps_at (lifted steps) (news.keeps k))) (step_at (lifted steps) k))
      (picked_raised (x_count league.n) (rows_of league) low numbers picked)
      (news-raised (x_count league.n) numbers (length (rows_of league)) (var_count league - x_count league.n) steps
      low (rows_of league) numbered news tidy k (inside steps k within)))

  abbrev tells : (steps : List Step) → AreNews low (var_count league - x_count league.n) steps
      → All (IsTidy (var_count league - x_count league.n)) steps → TellOfPatterns league (lifted steps)
  tells steps news tidy = record {
    keeps = news.keeps;
    start = news.start;
    next = λ k within. news.next k (inside steps k within);
    news = news_lifted steps news tidy;
  }

  lifted-tidy : (steps : List Step) → All (IsTidy (var_count league - x_count league.n)) steps
      → All HasSmallHints (lifted steps) → All (IsTidy (var_count league)) (lifted steps)
  lifted-tidy steps tidy small =
      subst (λ (v : ℕ). All (IsTidy v) (lifted steps)) (vars-more league)
      (steps-tidy (x_count league.n) numbers (length (rows_of league)) (var_count league - x_count league.n) steps 0 low
      (rows_of league) numbered tidy small)

  pub spent : (limit : Option ℕ) (steps : List Step) → IsSpentAt low (var_count league - x_count league.n) limit steps
      → All HasSmallHints (lifted steps) → IsPatternSpent league limit (lifted steps)
  spent limit steps is small = record {
    limited = is.limited
        ∙ ap (λ (n : ℕ). Some n)
        (sym (length-raised (x_count league.n) numbers (length (rows_of league)) steps 0));
    news = tells steps is.spent.news is.tidy;
    quiet = (
      raised_values (x_count league.n) is.spent.quiet.0,
      subst (λ (rs : List Row). IsQuiet (raised_values (x_count league.n) is.spent.quiet.0) rs) rows_are
          (quiet-raised (x_count league.n) (raised_values (x_count league.n) is.spent.quiet.0) is.spent.quiet.0
          (raises_values (x_count league.n) is.spent.quiet.0)
          (low ++ map row_of (steps_at steps (is.spent.news.keeps (length steps)))) is.spent.quiet.1),
    );
    few = subst (λ (v : ℕ). length (lifted steps) < 3 ^ v) (vars-are league)
        (subst (λ (n : ℕ). n < 3 ^ (var_count league - x_count league.n))
        (sym (length-raised (x_count league.n) numbers (length (rows_of league)) steps 0)) is.few);
    tidy = lifted-tidy steps is.tidy small;
  } where
    rows_are : map (raised_row (x_count league.n))
        (low ++ map row_of (steps_at steps (is.spent.news.keeps (length steps))))
        ≡ pattern_rows league
        ++ map row_of (steps_at (lifted steps) (is.spent.news.keeps (length (lifted steps))))
    rows_are =
        patterns-kept (x_count league.n) numbers (length (rows_of league)) (var_count league - x_count league.n) low steps
        (is.spent.news.keeps (length steps))
        (keeps-within low (var_count league - x_count league.n) steps is.spent.news (length steps) (omega arith)) is.tidy
        ∙ ap (λ (rs : List Row). rs ++ map row_of (steps_at (lifted steps) (is.spent.news.keeps (length steps))))
        (picked_raised (x_count league.n) (rows_of league) low numbers picked)
        ∙ ap (λ (n : ℕ). pattern_rows league ++ map row_of (steps_at (lifted steps) (is.spent.news.keeps n)))
        (sym (length-raised (x_count league.n) numbers (length (rows_of league)) steps 0))

  pub refuted : (limit : Option ℕ) (steps : List Step) → IsInstance league
      → Refutes low (var_count league - x_count league.n) limit steps → All HasSmallHints (lifted steps)
      → RefutesPatterns league limit (lifted steps)
  refuted limit steps instance is small =
      subst (λ (ss : List Step). RefutesPatterns league limit ss) (sym log) (record {
        accepted = accepted;
        none = accepted_logs_exclude league (lifted is.before ++ Clause [] raised_hints ∷ []) instance accepted;
        before = lifted is.before;
        hints = raised_hints;
        last = refl;
        news = tells is.before is.news before_tidy;
        named = hints-named (x_count league.n) numbers (length (rows_of league)) (length is.before)
            (low ++ map row_of is.before) (rows_of league ++ map row_of (lifted is.before)) behind is.hints;
        within = subst (λ (n : ℕ). IfSome limit (λ most. n ≤ most))
            (sym (length-raised (x_count league.n) numbers (length (rows_of league)) is.before 0)) is.within;
        tidy = subst (λ (ss : List Step). All (IsTidy (var_count league)) ss) log (lifted-tidy steps is.tidy small);
      }) where
        before_tidy : All (IsTidy (var_count league - x_count league.n)) is.before
        before_tidy =
            All-front (IsTidy (var_count league - x_count league.n)) is.before (Clause [] is.hints ∷ [])
            (subst (λ (ss : List Step). All (IsTidy (var_count league - x_count league.n)) ss) is.last is.tidy)

        last_tidy : IsTidy (var_count league - x_count league.n) (Clause [] is.hints)
        last_tidy =
            All-last (IsTidy (var_count league - x_count league.n)) is.before (Clause [] is.hints)
            (subst (λ (ss : List Step). All (IsTidy (var_count league - x_count league.n)) ss) is.last is.tidy)

        raised_hints : List ℕ
        raised_hints = filter_map (number_of numbers (length (rows_of league)) (length is.before)) is.hints

        log : lifted steps ≡ lifted is.before ++ Clause [] raised_hints ∷ []
        log =
            ap (λ (ss : List Step). lifted ss) is.last
            ∙ raised_steps-push (x_count league.n) numbers (length (rows_of league)) is.before (Clause [] is.hints) 0
            ∙ ap (λ (n : ℕ). lifted is.before
            ++ raised_step (x_count league.n) numbers (length (rows_of league)) n (Clause [] is.hints) ∷ [])
            (zero-add (length is.before))

        behind : IsNumbering (x_count league.n) numbers (length (rows_of league)) (length is.before)
            (low ++ map row_of is.before) (rows_of league ++ map row_of (lifted is.before))
        behind =
            subst (λ (n : ℕ). IsNumbering (x_count league.n) numbers (length (rows_of league)) n
            (low ++ map row_of is.before) (rows_of league ++ map row_of (lifted is.before)))
            (zero-add (length is.before))
            (numbering-steps (x_count league.n) numbers (length (rows_of league)) (var_count league - x_count league.n)
            is.before 0 low (rows_of league) numbered before_tidy)

        follows : judged (rows_of league ++ map row_of (lifted is.before)) (var_count league) (Clause [] raised_hints)
            ≡ Ok (clause_row [])
        follows =
            subst (λ (v : ℕ). judged (rows_of league ++ map row_of (lifted is.before)) v (Clause [] raised_hints)
            ≡ Ok (clause_row [])) (vars-more league)
            (step-follows (x_count league.n) numbers (length (rows_of league)) (length is.before)
            (var_count league - x_count league.n) (low ++ map row_of is.before)
            (rows_of league ++ map row_of (lifted is.before)) (Clause [] is.hints) behind last_tidy refl
            (last-follows low (var_count league - x_count league.n) 0 is.before is.hints
            (λ k within. (is.news.news k within).follows)
            (no_fault (first_fault low (var_count league - x_count league.n) 0 (is.before ++ Clause [] is.hints ∷ []))
            (ends_empty (is.before ++ Clause [] is.hints ∷ [])) (length (is.before ++ Clause [] is.hints ∷ []))
            (subst (λ (ss : List Step). verdict_of low (var_count league - x_count league.n) ss ≡ Accepted) is.last
            is.accepted))))

        accepted : verdict_of (rows_of league) (var_count league) (lifted is.before ++ Clause [] raised_hints ∷ [])
            ≡ Accepted
        accepted =
            accepted_by (x_count league.n) (var_count league) (rows_of league) (pattern_rows league) (lifted is.before)
            raised_hints (tells is.before is.news before_tidy) follows

-- ---- the same with numbers that were read

module _ (league : Instance) (games all : ℕ) (low : List Row) (numbers : List ℕ)
    (picked : IsPicked games (rows_of league) (length (rows_of league)) low numbers)
    (same : games ≡ x_count league.n) (whole : all ≡ length (rows_of league)) where
  abbrev picked_here : IsPicked (x_count league.n) (rows_of league) (length (rows_of league)) low numbers
  picked_here =
      subst (λ (g : ℕ). IsPicked g (rows_of league) (length (rows_of league)) low numbers) same picked

  raised_here : (steps raised : List Step) → raised ≡ raised_steps games numbers all 0 steps
      → raised ≡ raised_steps (x_count league.n) numbers (length (rows_of league)) 0 steps
  raised_here steps raised are =
      are ∙ ap (λ (g : ℕ). raised_steps g numbers all 0 steps) same
      ∙ ap (λ (n : ℕ). raised_steps (x_count league.n) numbers n 0 steps) whole

  pub refuted_by : (limit : Option ℕ) (steps raised : List Step) → IsInstance league
      → Refutes low (var_count league - games) limit steps → raised ≡ raised_steps games numbers all 0 steps
      → All HasSmallHints raised → RefutesPatterns league limit raised
  refuted_by limit steps raised instance is are small =
      subst (λ (ss : List Step). RefutesPatterns league limit ss) (sym (raised_here steps raised are))
      (refuted league low numbers picked_here limit steps instance
      (subst (λ (g : ℕ). Refutes low (var_count league - g) limit steps) same is)
      (subst (λ (ss : List Step). All HasSmallHints ss) (raised_here steps raised are) small))

  pub spent_by : (limit : Option ℕ) (steps raised : List Step)
      → IsSpentAt low (var_count league - games) limit steps → raised ≡ raised_steps games numbers all 0 steps
      → All HasSmallHints raised → IsPatternSpent league limit raised
  spent_by limit steps raised is are small =
      subst (λ (ss : List Step). IsPatternSpent league limit ss) (sym (raised_here steps raised are))
      (spent league low numbers picked_here limit steps
      (subst (λ (g : ℕ). IsSpentAt low (var_count league - g) limit steps) same is)
      (subst (λ (ss : List Step). All HasSmallHints ss) (raised_here steps raised are) small))

-- ---- what raising a log needs

pub refuted-clauses : (rows : List Row) (vars : ℕ) (limit : Option ℕ) (steps : List Step)
    → Refutes rows vars limit steps → All (λ step. is_linear step ≡ false) steps
refuted-clauses rows vars limit steps is =
    subst (λ (ss : List Step). All (λ step. is_linear step ≡ false) ss) (sym is.last)
    (All-push (λ step. is_linear step ≡ false) is.before (Clause [] is.hints) (news-clauses rows vars is.before is.news)
    refl)

pub tidy-known : (league : Instance) (games vars : ℕ) (steps : List Step) → games ≡ x_count league.n
    → vars ≡ var_count league → vars ≤ 130960 → All (IsTidy (var_count league - games)) steps
    → All (λ step. All (λ l. l.var + games ≤ 2147483647) (clause_of step)) steps
tidy-known league games vars steps same are few tidy = λ k d within j e inside.
    fits (get_or (clause_of (get_or steps k d)) j e).var games (var_count league)
    (omega (arith, ap (λ (n : ℕ). n) are, few)) (count_fits league games same)
    ((tidy k d within).known j e inside) where
      fits : (v x most : ℕ) → most ≤ 130960 → x ≤ most → v ≤ most - x → v + x ≤ 2147483647
      fits v x most few less known = omega (arith, few, less, known)

-- how many variables have values
pub count_is : (league : Instance) (games count : ℕ) → games ≡ x_count league.n → count ≡ var_count league - games
    → count + games ≡ var_count league
count_is league games count same is =
    omega (arith, is, count_fits league games same)
