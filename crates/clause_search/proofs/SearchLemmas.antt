-- A log that grows step by step, and what it comes to.
use Rattle.std.proofs.Common.{◌≡◌, ℕ, zero, suc, ◌+◌, ◌<◌, ◌≤◌, Bool, true, false, cond}
use Rattle.std.proofs.Common.{List, [], ◌∷◌, ◌++◌, length, get_or, map, take, Ok, Option, None, Result}
use Rattle.std.proofs.Common.{refl, inl, inr, arith, ap, sym, subst, ◌∙◌, append_assoc}
use Rattle.std.specs.Prelude.{nat_lt}
use Rattle.std.specs.List.{All}
use Rattle.std.proofs.lemmas.Bool.{cases_lt, cond-false, cond-true, false≢true, le-ltb, lt-ltb}
use Rattle.std.proofs.lemmas.List.{append-nil, get_or_append_left, get_or_push, length_push, map-append, take-append-le}
use Rattle.std.proofs.lemmas.List.{take_at}
use Rattle.std.proofs.lemmas.List.Elements.{All-from_get_or, All-nil, All-push, All-same, All-weaker}
use Rattle.std.proofs.lemmas.List.Sums.{get_or-le-sum_by}
use Rattle.rows.specs.Cardinality.{at_least}
use Rattle.rows.specs.Literals.{Literal}
use Rattle.rows.specs.Rows.{Row}
use Rattle.propagate.specs.Trails.{IsQuietBelow, is_decision, level_of}
use Rattle.propagate.specs.declared.entry.Entry.{Entry}
use Rattle.rows.specs.Partials.{IsEmpowering}
use Rattle.refutation.specs.Steps.{Step, clause_of, is_linear}
use Rattle.refutation.specs.Steps.Step.{Clause, Linear}
use Rattle.refutation.specs.Following.{clause_row, judged}
use Rattle.refutation.specs.Verdict.{ends_empty, fault_or, first_fault, verdict_by, verdict_of}
use Rattle.refutation.specs.declared.verdict.Cause.{Cause}
use Rattle.refutation.specs.declared.verdict.Verdict.TheVariants.{Accepted}
use Rattle.clause_search.specs.Kept.{IsPart, MayKeep, few_variables, least_room, step_at, steps_at}
use Rattle.clause_search.specs.News.{AreNews, IsNews, kept_rows, row_of}
use Rattle.clause_search.proofs.KeptLemmas.{All-part, part_part, steps_at-more}
use Rattle.clause_search.proofs.CountLemmas.{clause_row-differ}
use Rattle.clause_search.proofs.ReplayLemmas.{Differ}

-- ---- what is kept

-- the places that are kept are those of earlier steps
pub keeps-within : (rows : List Row) (vars : ℕ) (steps : List Step) (news : AreNews rows vars steps) (k : ℕ)
    → k ≤ length steps → All (λ place. place < k) (news.keeps k)
keeps-within rows vars steps news zero within =
    All-same (λ place. place < 0) (news.keeps 0) [] news.start (All-nil (λ place. place < 0))
keeps-within rows vars steps news (suc k) within =
    let before : All (λ place. place < suc k) (news.keeps k ++ k ∷ []) =
    All-push (λ place. place < suc k) (news.keeps k) k
    (All-weaker (λ place. place < k) (λ place. place < suc k) (λ place below. omega (arith, below)) (news.keeps k)
    (keeps-within rows vars steps news k (omega (arith, within)))) (omega arith) in
    elim (news.next k (omega (arith, within))) [
      | inl all ↦ All-same (λ place. place < suc k) (news.keeps (suc k)) (news.keeps k ++ k ∷ []) all before
      | inr some ↦
          All-part (λ place. place < suc k) (news.keeps (suc k)) (news.keeps k ++ k ∷ []) before some.2
    ]

news-same : (rows rows' kept kept' : List Row) (vars : ℕ) (s s' : Step) → rows' ≡ rows → kept' ≡ kept → s' ≡ s
    → IsNews rows kept vars s → IsNews rows' kept' vars s'
news-same rows rows' kept kept' vars s s' same_rows same_kept same is =
    subst (λ (rs : List Row). IsNews rs kept' vars s') (sym same_rows)
    (subst (λ (rs : List Row). IsNews rows rs vars s') (sym same_kept)
    (subst (λ (x : Step). IsNews rows kept vars x) (sym same) is))

-- ---- one step more

-- what is kept before place n, and this from there on
abbrev with_last : (ℕ → List ℕ) → ℕ → List ℕ → ℕ → List ℕ
with_last keeps n less k = cond (nat_lt k n) (keeps k) less

pub with_last-early : (keeps : ℕ → List ℕ) (n : ℕ) (less : List ℕ) (k : ℕ) → k < n → with_last keeps n less k ≡ keeps k
with_last-early keeps n less k early = cond-true (nat_lt k n) (keeps k) less (lt-ltb k n early)

with_last-late : (keeps : ℕ → List ℕ) (n : ℕ) (less : List ℕ) (k : ℕ) → n ≤ k → with_last keeps n less k ≡ less
with_last-late keeps n less k late = cond-false (nat_lt k n) (keeps k) less (le-ltb k n late)

module _ (rows : List Row) (vars : ℕ) (steps : List Step) (s : Step) (less : List ℕ) (news : AreNews rows vars steps)
    (is : IsNews (rows ++ map row_of steps) (kept_rows rows vars steps news) vars s)
    (may : MayKeep vars (news.keeps (length steps) ++ length steps ∷ []) less) where
  abbrev keeps_now : ℕ → List ℕ
  keeps_now = with_last news.keeps (length steps + 1) less

  pub next_now : (k : ℕ) → k < length steps + 1 → MayKeep vars (keeps_now k ++ k ∷ []) (keeps_now (suc k))
  next_now k within =
      subst (λ (old : List ℕ). MayKeep vars (old ++ k ∷ []) (keeps_now (suc k)))
      (sym (with_last-early news.keeps (length steps + 1) less k (omega (arith, within))))
      (elim (cases_lt k (length steps)) [
        | inl early ↦
            subst (λ (new : List ℕ). MayKeep vars (news.keeps k ++ k ∷ []) new)
            (sym (with_last-early news.keeps (length steps + 1) less (suc k) (omega (arith, early)))) (news.next k early)
        | inr late ↦
            let last : length steps ≡ k = omega (arith, late, within) in
            subst (λ (new : List ℕ). MayKeep vars (news.keeps k ++ k ∷ []) new)
            (sym (with_last-late news.keeps (length steps + 1) less (suc k) (omega (arith, late))))
            (subst (λ (n : ℕ). MayKeep vars (news.keeps n ++ n ∷ []) less) last may)
      ])

  pub news_now : (k : ℕ) → k < length steps + 1
      → IsNews (rows ++ map row_of (take k (steps ++ s ∷ [])))
      (rows ++ map row_of (steps_at (steps ++ s ∷ []) (keeps_now k))) vars (step_at (steps ++ s ∷ []) k)
  news_now k within =
      subst (λ (ks : List ℕ). IsNews (rows ++ map row_of (take k (steps ++ s ∷ [])))
      (rows ++ map row_of (steps_at (steps ++ s ∷ []) ks)) vars (step_at (steps ++ s ∷ []) k))
      (sym (with_last-early news.keeps (length steps + 1) less k (omega (arith, within))))
      (elim (cases_lt k (length steps)) [
        | inl early ↦
            news-same (rows ++ map row_of (take k steps)) (rows ++ map row_of (take k (steps ++ s ∷ [])))
            (rows ++ map row_of (steps_at steps (news.keeps k)))
            (rows ++ map row_of (steps_at (steps ++ s ∷ []) (news.keeps k))) vars (step_at steps k)
            (step_at (steps ++ s ∷ []) k)
            (ap (λ (ss : List Step). rows ++ map row_of ss) (take-append-le k steps (s ∷ []) (omega (arith, early))))
            (ap (λ (ss : List Step). rows ++ map row_of ss)
            (steps_at-more steps s (news.keeps k)
            (All-weaker (λ place. place < k) (λ place. place < length steps)
            (λ place below. omega (arith, below, early)) (news.keeps k)
            (keeps-within rows vars steps news k (omega (arith, early))))))
            (get_or_append_left steps (s ∷ []) (Clause [] []) k early) (news.news k early)
        | inr late ↦
            let last : length steps ≡ k = omega (arith, late, within) in
            subst (λ (n : ℕ). IsNews (rows ++ map row_of (take n (steps ++ s ∷ [])))
            (rows ++ map row_of (steps_at (steps ++ s ∷ []) (news.keeps n))) vars (step_at (steps ++ s ∷ []) n)) last
            (news-same (rows ++ map row_of steps) (rows ++ map row_of (take (length steps) (steps ++ s ∷ [])))
            (kept_rows rows vars steps news)
            (rows ++ map row_of (steps_at (steps ++ s ∷ []) (news.keeps (length steps)))) vars s
            (step_at (steps ++ s ∷ []) (length steps))
            (ap (λ (ss : List Step). rows ++ map row_of ss) (take_at steps (s ∷ []) (length steps) refl))
            (ap (λ (ss : List Step). rows ++ map row_of ss)
            (steps_at-more steps s (news.keeps (length steps))
            (keeps-within rows vars steps news (length steps) (omega arith))))
            (get_or_push steps s (Clause [] []) (length steps) refl) is)
      ])

  abbrev pub AreNews-push : AreNews rows vars (steps ++ s ∷ [])
  AreNews-push = record {
    keeps = keeps_now;
    start = with_last-early news.keeps (length steps + 1) less 0 (omega arith) ∙ news.start;
    next = λ k within. next_now k (omega (arith, within, length_push steps s));
    news = λ k within. news_now k (omega (arith, within, length_push steps s));
  }

  -- behind it
  pub kept_now : keeps_now (length (steps ++ s ∷ [])) ≡ less
  kept_now =
      with_last-late news.keeps (length steps + 1) less (length (steps ++ s ∷ [])) (omega (arith, length_push steps s))

-- ---- some steps forgotten

may_forget : (vars : ℕ) (old mid less : List ℕ) → MayKeep vars old mid → few_variables < vars
    → least_room < length mid → IsPart less mid → MayKeep vars old less
may_forget vars old mid less (inl same) many long part =
    inr (many, subst (λ (ks : List ℕ). least_room < length ks) same long, subst (λ (ks : List ℕ). IsPart less ks) same part)
may_forget vars old mid less (inr (more, longer, kept)) many long part = inr (more, longer, part_part less mid old part kept)

module _ (rows : List Row) (vars : ℕ) (steps : List Step) (less : List ℕ) (news : AreNews rows vars steps)
    (many : few_variables < vars) (long : least_room < length (news.keeps (length steps)))
    (part : IsPart less (news.keeps (length steps))) where
  abbrev keeps_left : ℕ → List ℕ
  keeps_left = with_last news.keeps (length steps) less

  -- there are steps
  pub some_steps : 0 < length steps
  some_steps = elim (cases_lt 0 (length steps)) [
    | inl some ↦ some
    | inr none ↦
        let nothing : length steps ≡ 0 = omega (arith, none) in
        absurd (omega (
          arith,
          long,
          ap (λ (n : ℕ). length (news.keeps n)) nothing,
          ap (λ (ks : List ℕ). length ks) news.start,
        ))
  ]

  pub next_left : (k : ℕ) → k < length steps → MayKeep vars (keeps_left k ++ k ∷ []) (keeps_left (suc k))
  next_left k within =
      subst (λ (old : List ℕ). MayKeep vars (old ++ k ∷ []) (keeps_left (suc k)))
      (sym (with_last-early news.keeps (length steps) less k within))
      (elim (cases_lt (suc k) (length steps)) [
        | inl early ↦
            subst (λ (new : List ℕ). MayKeep vars (news.keeps k ++ k ∷ []) new)
            (sym (with_last-early news.keeps (length steps) less (suc k) early)) (news.next k within)
        | inr late ↦
            let last : length steps ≡ suc k = omega (arith, late, within) in
            subst (λ (new : List ℕ). MayKeep vars (news.keeps k ++ k ∷ []) new)
            (sym (with_last-late news.keeps (length steps) less (suc k) late))
            (may_forget vars (news.keeps k ++ k ∷ []) (news.keeps (suc k)) less (news.next k within) many
            (subst (λ (n : ℕ). least_room < length (news.keeps n)) last long)
            (subst (λ (n : ℕ). IsPart less (news.keeps n)) last part))
      ])

  abbrev pub AreNews-forget : AreNews rows vars steps
  AreNews-forget = record {
    keeps = keeps_left;
    start = with_last-early news.keeps (length steps) less 0 some_steps ∙ news.start;
    next = next_left;
    news = λ k within.
        subst (λ (ks : List ℕ). IsNews (rows ++ map row_of (take k steps)) (rows ++ map row_of (steps_at steps ks)) vars
        (step_at steps k)) (sym (with_last-early news.keeps (length steps) less k within)) (news.news k within);
  }

  -- behind them
  pub kept_left : keeps_left (length steps) ≡ less
  kept_left = with_last-late news.keeps (length steps) less (length steps) (omega arith)

-- where nothing came yet
abbrev pub AreNews-none : (rows : List Row) (vars : ℕ) → AreNews rows vars []
AreNews-none rows vars = record {
  keeps = λ k. [];
  start = refl;
  next = λ k within. absurd (omega (arith, within));
  news = λ k within. absurd (omega (arith, within));
}

-- where there is one step
pub one_kept : (vars k : ℕ) → k < 1
    → MayKeep vars (cond (nat_lt k 1) [] (0 ∷ []) ++ k ∷ []) (cond (nat_lt (suc k) 1) [] (0 ∷ []))
one_kept vars zero within = inl refl
one_kept vars (suc k) within = absurd (omega (arith, within))

pub one_news : (rows : List Row) (vars : ℕ) (s : Step) → IsNews rows rows vars s → (k : ℕ) → k < 1
    → IsNews (rows ++ map row_of (take k (s ∷ [])))
    (rows ++ map row_of (steps_at (s ∷ []) (cond (nat_lt k 1) [] (0 ∷ [])))) vars (step_at (s ∷ []) k)
one_news rows vars s is zero within =
    news-same rows (rows ++ []) rows (rows ++ []) vars s s (append-nil rows) (append-nil rows) refl is
one_news rows vars s is (suc k) within = absurd (omega (arith, within))

abbrev pub AreNews-one : (rows : List Row) (vars : ℕ) (s : Step) → IsNews rows rows vars s → AreNews rows vars (s ∷ [])
AreNews-one rows vars s is = record {
  keeps = λ k. cond (nat_lt k 1) [] (0 ∷ []);
  start = refl;
  next = one_kept vars;
  news = one_news rows vars s is;
}

-- with few variables nothing is forgotten
pub keeps-few : (rows : List Row) (vars : ℕ) (steps : List Step) (news : AreNews rows vars steps)
    → vars ≤ few_variables → (k : ℕ) → k < length steps → news.keeps (suc k) ≡ news.keeps k ++ k ∷ []
keeps-few rows vars steps news few k within = elim (news.next k within) [
  | inl same ↦ same
  | inr some ↦ absurd (omega (arith, few, some.0))
]

-- ---- steps that are news are clauses

none_of_nothing : (rows : List Row) → IsEmpowering rows [] → ⊥
none_of_nothing rows (values, l, quiet, among, free, others) = omega (arith, among.1)

pub not_linear : (rows : List Row) (step : Step) → IsEmpowering rows (clause_of step) → is_linear step ≡ false
not_linear rows (Clause clause hints) empowering = refl
not_linear rows (Linear parts divisor) empowering = absurd (none_of_nothing rows empowering)

pub news-clauses : (rows : List Row) (vars : ℕ) (steps : List Step) → AreNews rows vars steps
    → All (λ step. is_linear step ≡ false) steps
news-clauses rows vars steps news =
    All-from_get_or (λ step. is_linear step ≡ false) steps (Clause [] [])
    (λ k within. not_linear (rows ++ map row_of (steps_at steps (news.keeps k))) (step_at steps k)
    (news.news k within).empowering)

-- the rows that stand then
pub rows-push : (rows new : List Row) (steps : List Step) (clause : List Literal) (hints : List ℕ) → Differ clause
    → new ≡ (rows ++ map row_of steps) ++ at_least 1 clause ∷ []
    → new ≡ rows ++ map row_of (steps ++ Clause clause hints ∷ [])
rows-push rows new steps clause hints differ is =
    is
    ∙ ap (λ (row : Row). (rows ++ map row_of steps) ++ row ∷ []) (sym (clause_row-differ clause differ))
    ∙ append_assoc rows (map row_of steps) (clause_row clause ∷ [])
    ∙ ap (λ (rs : List Row). rows ++ rs) (sym (map-append row_of steps (Clause clause hints ∷ [])))

-- ---- at level 0 nothing was decided

one_for : (b : Bool) → cond b 1 0 ≤ 0 → b ≡ false
one_for true none = absurd (omega (arith, none))
one_for false none = refl

pub none_decided : (es : List Entry) → level_of es ≡ 0 → (k : ℕ) (d : Entry) → k < length es
    → is_decision (get_or es k d) ≡ false
none_decided es level k d within =
    one_for (is_decision (get_or es k d))
    (omega (arith, level, get_or-le-sum_by (λ (e : Entry). cond (is_decision e) 1 0) es k d within))

pub quiet_below-root : (rows : List Row) (es : List Entry) → level_of es ≡ 0 → IsQuietBelow rows es
quiet_below-root rows es level =
    λ k d within decided. absurd (false≢true (sym (none_decided es level k d within) ∙ decided))

-- ---- a log that ends with the empty clause

-- each step follows from the rows and the steps before it
abbrev pub DoFollow : List Row → ℕ → List Step → Type 0
DoFollow rows vars steps = (k : ℕ) → k < length steps
    → judged (rows ++ map row_of (take k steps)) vars (step_at steps k) ≡ Ok (row_of (step_at steps k))

pub follow-first : (rows : List Row) (vars : ℕ) (x : Step) (steps : List Step) → DoFollow rows vars (x ∷ steps)
    → judged rows vars x ≡ Ok (row_of x)
follow-first rows vars x steps follow =
    ap (λ (rs : List Row). judged rs vars x) (sym (append-nil rows)) ∙ follow 0 (omega arith)

pub follow-rest : (rows : List Row) (vars : ℕ) (x : Step) (steps : List Step) → DoFollow rows vars (x ∷ steps)
    → DoFollow (rows ++ row_of x ∷ []) vars steps
follow-rest rows vars x steps follow = λ k within.
    ap (λ (rs : List Row). judged rs vars (step_at steps k))
    (append_assoc rows (row_of x ∷ []) (map row_of (take k steps)))
    ∙ follow (suc k) (omega (arith, within))

pub first_fault-none : (rows : List Row) (vars n : ℕ) (steps : List Step) (hints : List ℕ) → DoFollow rows vars steps
    → judged (rows ++ map row_of steps) vars (Clause [] hints) ≡ Ok (clause_row [])
    → first_fault rows vars n (steps ++ Clause [] hints ∷ []) ≡ None
first_fault-none rows vars n [] hints follow last =
    ap (λ (r : Result Row Cause). fault_or (n + 1) r (λ row. None))
    (ap (λ (rs : List Row). judged rs vars (Clause [] hints)) (sym (append-nil rows)) ∙ last)
first_fault-none rows vars n (x ∷ steps) hints follow last =
    ap (λ (r : Result Row Cause).
    fault_or (n + 1) r (λ row. first_fault (rows ++ row ∷ []) vars (n + 1) (steps ++ Clause [] hints ∷ [])))
    (follow-first rows vars x steps follow)
    ∙ first_fault-none (rows ++ row_of x ∷ []) vars (n + 1) steps hints (follow-rest rows vars x steps follow)
    (ap (λ (rs : List Row). judged rs vars (Clause [] hints)) (append_assoc rows (row_of x ∷ []) (map row_of steps))
    ∙ last)

pub ends_empty-push : (steps : List Step) (hints : List ℕ) → ends_empty (steps ++ Clause [] hints ∷ []) ≡ true
ends_empty-push [] hints = refl
ends_empty-push (x ∷ []) hints = refl
ends_empty-push (x ∷ y ∷ steps) hints = ends_empty-push (y ∷ steps) hints

-- is accepted, where its steps are news and the empty clause follows
pub verdict_of-refuted : (rows : List Row) (vars : ℕ) (steps : List Step) (hints : List ℕ) → AreNews rows vars steps
    → judged (rows ++ map row_of steps) vars (Clause [] hints) ≡ Ok (clause_row [])
    → verdict_of rows vars (steps ++ Clause [] hints ∷ []) ≡ Accepted
verdict_of-refuted rows vars steps hints news last =
    ap (λ (fault : Option (ℕ × Cause)). verdict_by fault (ends_empty (steps ++ Clause [] hints ∷ []))
    (length (steps ++ Clause [] hints ∷ [])))
    (first_fault-none rows vars 0 steps hints (λ k within. (news.news k within).follows) last)
    ∙ ap (λ (ends : Bool). verdict_by None ends (length (steps ++ Clause [] hints ∷ []))) (ends_empty-push steps hints)
