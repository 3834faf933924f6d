-- What is learnt where a walk ends: a clause that follows, and is empowering.
use Rattle.std.proofs.Common.{◌≡◌, ◌≢◌, ℕ, zero, suc, ◌+◌, ◌^◌, ◌<◌, ◌≤◌, ◌⊎◌, List, [], ◌∷◌, ◌++◌, length, map}
use Rattle.std.proofs.Common.{Ok}
use Rattle.std.proofs.Common.{refl, inl, inr, arith, ap, sym, subst, ◌∙◌}
use Rattle.std.specs.List.{All}
use Rattle.std.proofs.lemmas.List.{append-nil}
use Rattle.std.proofs.lemmas.List.Elements.{All-push}
use Rattle.std.proofs.lemmas.Bool.{cases_eq, cases_lt}
use Rattle.rows.specs.Cardinality.{at_least}
use Rattle.rows.specs.Literals.{Literal}
use Rattle.rows.specs.Partials.{IsEmpowering}
use Rattle.propagate.specs.Trails.{AreLawful, EachEntry, IsNew, SeenTrail}
use Rattle.propagate.specs.declared.entry.Entry.{Entry}
use Rattle.refutation.specs.Steps.{Step}
use Rattle.refutation.specs.Steps.Step.{Clause}
use Rattle.refutation.specs.Following.{clause_row, judged}
use Rattle.propagate.proofs.LookLemmas.{news}
use Rattle.clause_search.specs.Analysis.{IsAnalysis, clause_below, hint_of, hints_below, literal_of}
use Rattle.clause_search.specs.Marks.{AreResolved, IsAnalyzed, IsBackLevel, IsLastDecision, IsTraced, IsWalked, role_at}
use Rattle.clause_search.specs.Kept.{named}
use Rattle.clause_search.specs.News.{IsNews, IsTidy}
use Rattle.clause_search.specs.Trails.{before, lit_at, no_entry, reason_at}
use Rattle.clause_search.specs.Turns.{Closes, IsLearnable, IsQuietRowUpTo}
use Rattle.clause_search.specs.declared.role.Role.{Role}
use Rattle.clause_search.specs.declared.role.Role.TheVariants.{Apart, Kept, Used}
use Rattle.clause_search.proofs.AnalysisLemmas.{analysis_follows}
use Rattle.clause_search.proofs.BackLemmas.{back_within, kept_calm}
use Rattle.clause_search.proofs.EmpoweringLemmas.{analysis_empowers}
use Rattle.clause_search.proofs.MarkLemmas.{kept_not_apart}
use Rattle.clause_search.proofs.TidyLemmas.{tidy_of}
use Rattle.clause_search.proofs.TrailLaws.{trail_free, trail_fresh, trail_true}

-- what is resolved down to the trail's front is an analysis
resolved_analysis : (t : SeenTrail) (conflict : ℕ) (roles : List Role) → AreResolved t conflict roles 0
    → IsAnalysis t.rows (length t.entries) (lit_at t.entries) (reason_at t.entries) (role_at roles) (before t.entries)
    conflict
resolved_analysis t conflict roles is = record {
  used = λ k inside used. is.used k (omega arith) inside used;
  row = is.row;
  resolves = is.resolves;
  conflict = is.conflict_is;
}

-- what is kept, and what was resolved with the row in conflict, is a step that follows
resolved_follows : (t : SeenTrail) (conflict : ℕ) (roles : List Role) → AreLawful t.rows t.vars t.entries
    → AreResolved t conflict roles 0
    → judged t.rows t.vars
    (Clause (clause_below (lit_at t.entries) (role_at roles) (length t.entries))
    (hints_below (reason_at t.entries) (role_at roles) (length t.entries) ++ conflict ∷ []))
    ≡ Ok (clause_row (clause_below (lit_at t.entries) (role_at roles) (length t.entries)))
resolved_follows t conflict roles lawful is =
    analysis_follows t.rows t.vars (length t.entries) (lit_at t.entries) (reason_at t.entries) (role_at roles)
    (before t.entries) conflict
    (resolved_analysis t conflict roles is) (trail_fresh t.vars t.entries (news t.rows t.vars t.entries lawful))
    (λ j inside. (lawful j no_entry inside).new.known)

-- what is kept, and what was resolved with the row in conflict, is a tidy step
resolved_tidy : (t : SeenTrail) (conflict : ℕ) (roles : List Role) → AreLawful t.rows t.vars t.entries
    → length t.entries ≤ t.vars → AreResolved t conflict roles 0
    → All (λ hint. hint < 2 ^ 64)
    (hints_below (reason_at t.entries) (role_at roles) (length t.entries) ++ conflict ∷ [])
    → IsTidy t.vars (Clause (clause_below (lit_at t.entries) (role_at roles) (length t.entries))
    (hints_below (reason_at t.entries) (role_at roles) (length t.entries) ++ conflict ∷ []))
resolved_tidy t conflict roles lawful few is small =
    tidy_of t.rows t.vars (length t.entries) (lit_at t.entries) (reason_at t.entries) (role_at roles)
    (before t.entries) conflict
    (resolved_analysis t conflict roles is) (trail_fresh t.vars t.entries (news t.rows t.vars t.entries lawful))
    (λ j inside. (lawful j no_entry inside).new.from_one) (λ j inside. (lawful j no_entry inside).new.known) few small

-- the lowest place is the only one that is kept from the last decision on
alone_from : (t : SeenTrail) (conflict start : ℕ) (roles : List Role) (lowest : ℕ)
    → IsWalked t conflict start roles lowest 0
    → (j : ℕ) → start ≤ j → j < length t.entries → role_at roles j ≡ Kept → j ≡ lowest
alone_from t conflict start roles lowest walked j from inside kept =
    elim (cases_lt j lowest) [
      | inl below ↦ absurd (kept_not_apart (sym kept ∙ walked.apart j from below))
      | inr past ↦ elim (cases_eq j lowest) [
        | inl same ↦ same
        | inr other ↦ absurd (walked.alone j (omega arith) (omega (arith, past, other)) inside kept)
      ]
    ]

-- the clause of a walk that came to the trail's front is empowering
pub walked_empowers : (t : SeenTrail) (conflict start : ℕ) (roles : List Role) (lowest : ℕ)
    → AreLawful t.rows t.vars t.entries → IsLastDecision t start → IsWalked t conflict start roles lowest 0
    → IsEmpowering t.rows (clause_below (lit_at t.entries) (role_at roles) (length t.entries))
walked_empowers t conflict start roles lowest lawful is walked =
    analysis_empowers t.rows (length t.entries) (lit_at t.entries) (role_at roles) (before t.entries start) start
    lowest is.quiet
    (λ j early inside. trail_true t.vars t.entries j start (news t.rows t.vars t.entries lawful) early
    (omega (arith, is.inside)))
    (trail_free t.vars t.entries lowest start (news t.rows t.vars t.entries lawful) walked.above_start
    walked.inside)
    walked.above_start walked.inside walked.kept (alone_from t conflict start roles lowest walked)

-- ---- at level 0

nothing_of : (l : Literal) (r : Role) → r ≢ Kept → literal_of l r ≡ []
nothing_of l Apart other = refl
nothing_of l Used other = refl
nothing_of l Kept other = absurd (other refl)

-- no literal is kept
none_kept : (lit : ℕ → Literal) (role : ℕ → Role) (n : ℕ) → ((j : ℕ) → j < n → role j ≢ Kept)
    → clause_below lit role n ≡ []
none_kept lit role zero none = refl
none_kept lit role (suc k) none =
    ap (λ (ls : List Literal). clause_below lit role k ++ ls) (nothing_of (lit k) (role k) (none k (omega arith)))
    ∙ append-nil (clause_below lit role k) ∙ none_kept lit role k (λ j below. none j (omega (arith, below)))

-- the empty clause follows at level 0
pub closes : (given : ℕ) (kept : List ℕ) (t : SeenTrail) (conflict : ℕ) (roles : List Role) (hints names : List ℕ)
    (steps more : List Step) → AreLawful t.rows t.vars t.entries → length t.entries ≤ t.vars → IsTraced t conflict roles 0
    → hints ≡ hints_below (reason_at t.entries) (role_at roles) (length t.entries) ++ conflict ∷ []
    → All (λ hint. hint < 2 ^ 64) hints → names ≡ map (named given kept) hints → All (λ name. name < 2 ^ 64) names
    → more ≡ steps ++ Clause [] names ∷ [] → Closes given kept t steps more
closes given kept t conflict roles hints names steps more lawful few traced hints_are small names_are small_names
    more_is = record {
      hints = hints;
      log = more_is ∙ ap (λ (ns : List ℕ). steps ++ Clause [] ns ∷ []) names_are;
      follows =
          subst (λ (c : List Literal). judged t.rows t.vars (Clause c hints) ≡ Ok (clause_row c)) none
          (subst (λ (hs : List ℕ).
          judged t.rows t.vars (Clause (clause_below (lit_at t.entries) (role_at roles) (length t.entries)) hs)
          ≡ Ok (clause_row (clause_below (lit_at t.entries) (role_at roles) (length t.entries)))) (sym hints_are)
          (resolved_follows t conflict roles lawful traced.resolved));
      tidy =
          subst (λ (c : List Literal). IsTidy t.vars (Clause c hints)) none
          (subst (λ (hs : List ℕ).
          IsTidy t.vars (Clause (clause_below (lit_at t.entries) (role_at roles) (length t.entries)) hs))
          (sym hints_are)
          (resolved_tidy t conflict roles lawful few traced.resolved
          (subst (λ (hs : List ℕ). All (λ hint. hint < 2 ^ 64) hs) hints_are small)));
      small = subst (λ (ns : List ℕ). All (λ name. name < 2 ^ 64) ns) names_are small_names;
    } where
      none : clause_below (lit_at t.entries) (role_at roles) (length t.entries) ≡ []
      none =
          none_kept (lit_at t.entries) (role_at roles) (length t.entries) (λ j inside. traced.none j (omega arith) inside)

-- ---- above level 0

pub walked_news : (t : SeenTrail) (conflict start : ℕ) (roles : List Role) (clause : List Literal) (hints : List ℕ)
    → AreLawful t.rows t.vars t.entries → IsLastDecision t start → IsAnalyzed t conflict start roles
    → clause ≡ clause_below (lit_at t.entries) (role_at roles) (length t.entries)
    → hints ≡ hints_below (reason_at t.entries) (role_at roles) (length t.entries) ++ conflict ∷ []
    → IsNews t.rows t.rows t.vars (Clause clause hints)
walked_news t conflict start roles clause hints lawful is analyzed clause_is hints_are = record {
  follows =
      subst (λ (c : List Literal). judged t.rows t.vars (Clause c hints) ≡ Ok (clause_row c)) (sym clause_is)
      (subst (λ (hs : List ℕ).
      judged t.rows t.vars (Clause (clause_below (lit_at t.entries) (role_at roles) (length t.entries)) hs)
      ≡ Ok (clause_row (clause_below (lit_at t.entries) (role_at roles) (length t.entries)))) (sym hints_are)
      (resolved_follows t conflict roles lawful analyzed.walked.resolved));
  empowering =
      subst (λ (c : List Literal). IsEmpowering t.rows c) (sym clause_is)
      (walked_empowers t conflict start roles analyzed.lowest lawful is analyzed.walked);
}

pub walked_tidy : (t : SeenTrail) (conflict start : ℕ) (roles : List Role) (clause : List Literal) (hints : List ℕ)
    → AreLawful t.rows t.vars t.entries → length t.entries ≤ t.vars → IsAnalyzed t conflict start roles
    → clause ≡ clause_below (lit_at t.entries) (role_at roles) (length t.entries)
    → hints ≡ hints_below (reason_at t.entries) (role_at roles) (length t.entries) ++ conflict ∷ []
    → All (λ hint. hint < 2 ^ 64) hints → IsTidy t.vars (Clause clause hints)
walked_tidy t conflict start roles clause hints lawful few analyzed clause_is hints_are small =
    subst (λ (c : List Literal). IsTidy t.vars (Clause c hints)) (sym clause_is)
    (subst (λ (hs : List ℕ).
    IsTidy t.vars (Clause (clause_below (lit_at t.entries) (role_at roles) (length t.entries)) hs)) (sym hints_are)
    (resolved_tidy t conflict roles lawful few analyzed.walked.resolved
    (subst (λ (hs : List ℕ). All (λ hint. hint < 2 ^ 64) hs) hints_are small)))

-- the clause of a walk leaves the levels quiet to which the search goes back
pub walked_learnable : (t : SeenTrail) (conflict start level : ℕ) (roles : List Role) (clause : List Literal)
    (hints : List ℕ) → AreLawful t.rows t.vars t.entries → length t.entries ≤ t.vars
    → IsLastDecision t start → IsAnalyzed t conflict start roles → IsBackLevel t.entries roles start level
    → clause ≡ clause_below (lit_at t.entries) (role_at roles) (length t.entries)
    → hints ≡ hints_below (reason_at t.entries) (role_at roles) (length t.entries) ++ conflict ∷ []
    → All (λ hint. hint < 2 ^ 64) hints → IsLearnable t clause hints level
walked_learnable t conflict start level roles clause hints lawful few is analyzed back clause_is hints_are small =
    let each : EachEntry (IsNew t.vars) t.entries = news t.rows t.vars t.entries lawful in
    record {
      is_news = walked_news t conflict start roles clause hints lawful is analyzed clause_is hints_are;
      tidy = walked_tidy t conflict start roles clause hints lawful few analyzed clause_is hints_are small;
      within = back_within t.vars t.entries roles start level each (omega (arith, is.inside)) back;
      calm =
          subst (λ (c : List Literal). IsQuietRowUpTo level (at_least 1 c) t.entries) (sym clause_is)
          (kept_calm t.vars t.entries roles start analyzed.lowest level each analyzed.walked.above_start
          analyzed.walked.inside analyzed.walked.kept back);
    }

-- ---- what is collected, place by place

clause_more : (lit : ℕ → Literal) (role : ℕ → Role) (k : ℕ) → clause_below lit role (k + 1) ≡ clause_below lit role k
    ++ literal_of (lit k) (role k)
clause_more lit role k =
    let next : k + 1 ≡ suc k = omega arith in
    ap (λ (i : ℕ). clause_below lit role i) next

hints_more : (reason : ℕ → ℕ) (role : ℕ → Role) (k : ℕ) → hints_below reason role (k + 1) ≡ hints_below reason role k
    ++ hint_of (reason k) (role k)
hints_more reason role k =
    let next : k + 1 ≡ suc k = omega arith in
    ap (λ (i : ℕ). hints_below reason role i) next

pub collected_clause : (es : List Entry) (roles : List Role) (k : ℕ) (old new : List Literal)
    → old ≡ clause_below (lit_at es) (role_at roles) k → new ≡ old ++ literal_of (lit_at es k) (role_at roles k)
    → new ≡ clause_below (lit_at es) (role_at roles) (k + 1)
collected_clause es roles k old new old_is new_is =
    new_is ∙ ap (λ (ls : List Literal). ls ++ literal_of (lit_at es k) (role_at roles k)) old_is
    ∙ sym (clause_more (lit_at es) (role_at roles) k)

pub collected_hints : (es : List Entry) (roles : List Role) (k : ℕ) (old new : List ℕ)
    → old ≡ hints_below (reason_at es) (role_at roles) k → new ≡ old ++ hint_of (reason_at es k) (role_at roles k)
    → new ≡ hints_below (reason_at es) (role_at roles) (k + 1)
collected_hints es roles k old new old_is new_is =
    new_is ∙ ap (λ (hs : List ℕ). hs ++ hint_of (reason_at es k) (role_at roles k)) old_is
    ∙ sym (hints_more (reason_at es) (role_at roles) k)

-- the places with a part, one more or not
pub collected_parts : (n k : ℕ) (old new : List ℕ) → k < n → All (λ j. j < n) old → (new ≡ old) ⊎ (new ≡ old ++ k ∷ []) → All (λ j. j < n) new
collected_parts n k old new within parts (inl same) = subst (λ (ks : List ℕ). All (λ j. j < n) ks) (sym same) parts
collected_parts n k old new within parts (inr pushed) = subst (λ (ks : List ℕ). All (λ j. j < n) ks) (sym pushed) (All-push (λ j. j < n) old k parts within)
