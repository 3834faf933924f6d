-- A log over lowered rows, raised, is one over all rows.
use Rattle.std.proofs.Common.{◌≡◌, ℕ, zero, suc, ◌+◌, ◌-◌, ◌^◌, ◌<◌, ◌≤◌, nat_lt, ◌&&◌, Bool, true, false, cond, zero-add}
use Rattle.std.proofs.Common.{List, [], ◌∷◌, ◌++◌, length, map, get_or, take, Option, Some, None, Ok}
use Rattle.std.proofs.Common.{refl, inl, arith, ap, sym, subst, ◌∙◌}
use Rattle.std.specs.Prelude.{nat_le, IsSomeAnd}
use Rattle.std.specs.Option.{option_map_or}
use Rattle.std.specs.List.{All, cons_option, filter_map}
use Rattle.std.proofs.lemmas.Bool.{and_parts, leb-true, ltb-true}
use Rattle.std.proofs.lemmas.List.{append-nil, append_assoc, length-take-le, map-append, take_more}
use Rattle.std.proofs.lemmas.List.Elements.{All-cons, All-from_get_or, All-head, All-map, All-nil, All-push, All-tail}
use Rattle.std.proofs.lemmas.List.Elements.{All-take, All-weaker, filter_map-append}
use Rattle.std.proofs.lemmas.Option.{slice_get-get_or}
use Rattle.rows.specs.Literals.{Literal}
use Rattle.rows.specs.Rows.{Row}
use Rattle.refutation.specs.Following.{judged, no_demand, row_numbered}
use Rattle.refutation.specs.Steps.{Step, clause_at, clause_of, hints_at, hints_of, is_linear}
use Rattle.refutation.specs.Steps.Step.{Clause, Linear}
use Rattle.clause_search.specs.Kept.{MayKeep, step_at, steps_at}
use Rattle.clause_search.specs.News.{AreNews, IsNews, IsTidy, row_of}
use Rattle.clause_search.proofs.SearchLemmas.{keeps-within, not_linear}
use Rattle.league_search.specs.PatternLogs.{ArePatternNews, IsPatternNews}
use Rattle.league_search.specs.PatternRows.{is_pattern_row}
use Rattle.league_search.specs.Raised.{IsFromOne, number_of, raised_literal, raised_row, raised_step, raised_steps}
use Rattle.league_search.specs.Raised.{renumbered}
use Rattle.league_search.proofs.NumberLemmas.{IsNumbering, judged-raised, numbering-push, numbering-same}
use Rattle.league_search.proofs.RaiseLemmas.{clause_row-from_one, clause_row-raised, differ-raised, empowering-raised}
use Rattle.league_search.proofs.RaiseLemmas.{pattern_row-raised}

-- ---- steps that are news are clauses

pub pattern_news-clauses : (games vars : ℕ) (rows patterns : List Row) (steps : List Step)
    → ArePatternNews games vars rows patterns steps → All (λ step. is_linear step ≡ false) steps
pattern_news-clauses games vars rows patterns steps news =
    All-from_get_or (λ step. is_linear step ≡ false) steps (Clause [] [])
    (λ k within. not_linear (patterns ++ map row_of (steps_at steps (news.keeps k))) (step_at steps k)
    (news.news k within).empowering)

-- ---- logs of no step and of one

abbrev pub ArePatternNews-none : (games vars : ℕ) (rows patterns : List Row) → ArePatternNews games vars rows patterns []
ArePatternNews-none games vars rows patterns = record {
  keeps = λ k. [];
  start = refl;
  next = λ k within. absurd (omega (arith, within));
  news = λ k within. absurd (omega (arith, within));
}

pub one_kept : (vars k : ℕ) → k < 1
    → MayKeep vars (cond (nat_lt k 1) [] (0 ∷ []) ++ k ∷ []) (cond (nat_lt (suc k) 1) [] (0 ∷ []))
one_kept vars zero within = inl refl
one_kept vars (suc k) within = absurd (omega (arith, within))

pub one_news : (games vars : ℕ) (rows patterns : List Row) (s : Step) → IsPatternNews games vars rows patterns s
    → (k : ℕ) → k < 1
    → IsPatternNews games vars (rows ++ map row_of (take k (s ∷ [])))
    (patterns ++ map row_of (steps_at (s ∷ []) (cond (nat_lt k 1) [] (0 ∷ [])))) (step_at (s ∷ []) k)
one_news games vars rows patterns s is zero within =
    subst (λ (rs : List Row). IsPatternNews games vars rs (patterns ++ []) s) (sym (append-nil rows))
    (subst (λ (rs : List Row). IsPatternNews games vars rows rs s) (sym (append-nil patterns)) is)
one_news games vars rows patterns s is (suc k) within = absurd (omega (arith, within))

abbrev pub ArePatternNews-one : (games vars : ℕ) (rows patterns : List Row) (s : Step)
    → IsPatternNews games vars rows patterns s → ArePatternNews games vars rows patterns (s ∷ [])
ArePatternNews-one games vars rows patterns s is = record {
  keeps = λ k. cond (nat_lt k 1) [] (0 ∷ []);
  start = refl;
  next = one_kept (vars - games);
  news = one_news games vars rows patterns s is;
}

-- ---- hints

module _ (x : ℕ) (numbers : List ℕ) (all before : ℕ) (low whole : List Row)
    (is : IsNumbering x numbers all before low whole) where
  -- a row of this number among the lowered rows
  row_at : (h : ℕ) → 1 ≤ h → h ≤ length low → (row : Row) × (row_numbered low h ≡ Some row) × IsFromOne row
  row_at zero some within = absurd (omega (arith, some))
  row_at (suc k) some within =
      let there : k < length low = omega (arith, within) in
      (get_or low k no_demand, slice_get-get_or low k no_demand there, is.from_one k no_demand there)

  named_one : (h : ℕ) → 1 ≤ h → h ≤ length low
      → IsSomeAnd (row_numbered whole (renumbered numbers all h)) (λ row. is_pattern_row x row ≡ true)
  named_one h some within =
      let at = row_at h some within in
      subst (λ (o : Option Row). IsSomeAnd o (λ row. is_pattern_row x row ≡ true)) (sym (is.gives h at.0 at.1))
      (pattern_row-raised x at.0.terms at.2)

  pub hints-named : (hints : List ℕ)
      → All (λ hint. IsSomeAnd (row_numbered whole hint) (λ row. is_pattern_row x row ≡ true))
      (filter_map (number_of numbers all before) hints)
  hints-named [] = All-nil (λ hint. IsSomeAnd (row_numbered whole hint) (λ row. is_pattern_row x row ≡ true))
  hints-named (h ∷ hints) =
      by (hints-named hints) (nat_lt 0 h && nat_le h (length numbers + before)) refl where
        by : All (λ hint. IsSomeAnd (row_numbered whole hint) (λ row. is_pattern_row x row ≡ true))
            (filter_map (number_of numbers all before) hints)
            → (b : Bool) → nat_lt 0 h && nat_le h (length numbers + before) ≡ b
            → All (λ hint. IsSomeAnd (row_numbered whole hint) (λ row. is_pattern_row x row ≡ true))
            (cons_option (cond b (Some (renumbered numbers all h)) None)
            (filter_map (number_of numbers all before) hints))
        by rest true there =
            let both = and_parts (nat_lt 0 h) (nat_le h (length numbers + before)) there in
            All-cons (λ hint. IsSomeAnd (row_numbered whole hint) (λ row. is_pattern_row x row ≡ true))
            (renumbered numbers all h) (filter_map (number_of numbers all before) hints)
            (named_one h (ltb-true 0 h both.0)
            (omega (arith, leb-true h (length numbers + before) both.1, is.low_count))) rest
        by rest false there = rest

-- there are no more than there were
hints-few : (test : ℕ → Option ℕ) (hints : List ℕ) → length (filter_map test hints) ≤ length hints
hints-few test [] = omega arith
hints-few test (h ∷ hints) = by (hints-few test hints) (test h) where
  by : length (filter_map test hints) ≤ length hints → (o : Option ℕ)
      → length (cons_option o (filter_map test hints)) ≤ length (h ∷ hints)
  by rest None = omega (arith, rest)
  by rest (Some n) = omega (arith, rest)

some_named : (games : ℕ) (rows : List Row) (hint : ℕ)
    → IsSomeAnd (row_numbered rows hint) (λ row. is_pattern_row games row ≡ true) → 1 ≤ hint
some_named games rows zero named = absurd named
some_named games rows (suc k) named = omega arith

-- the hints have 64 bits
abbrev pub HasSmallHints : Step → Type 0
HasSmallHints step = All (λ hint. hint < 2 ^ 64) (hints_of step)

-- ---- a step

pub step-tidy : (x : ℕ) (numbers : List ℕ) (all before vars : ℕ) (low whole : List Row) (step : Step)
    → IsNumbering x numbers all before low whole → IsTidy vars step
    → HasSmallHints (raised_step x numbers all before step)
    → IsTidy (vars + x) (raised_step x numbers all before step)
step-tidy x numbers all before vars low whole step is tidy small = record {
  variables = differ-raised x (clause_of step) tidy.variables;
  from_one = All-map (λ (l : Literal). 1 ≤ l.var) (raised_literal x) (clause_of step)
      (λ k d within. omega (arith, tidy.from_one k d within));
  known = All-map (λ (l : Literal). l.var ≤ vars + x) (raised_literal x) (clause_of step)
      (λ k d within. omega (arith, tidy.known k d within));
  few = omega (arith, hints-few (number_of numbers all before) (hints_of step), tidy.few);
  named = λ k d within.
      some_named x whole (get_or (filter_map (number_of numbers all before) (hints_of step)) k d)
      (hints-named x numbers all before low whole is (hints_of step) k d within);
  small = small;
}

-- the row of a raised step
row_of-raised : (x : ℕ) (numbers : List ℕ) (all before vars : ℕ) (step : Step) → IsTidy vars step
    → row_of (raised_step x numbers all before step) ≡ raised_row x (row_of step)
row_of-raised x numbers all before vars step tidy = clause_row-raised x (clause_of step) tidy.variables

-- a step more
numbering-step : (x : ℕ) (numbers : List ℕ) (all before vars : ℕ) (low whole : List Row) (step : Step)
    → IsNumbering x numbers all before low whole → IsTidy vars step
    → IsNumbering x numbers all (before + 1) (low ++ row_of step ∷ [])
    (whole ++ row_of (raised_step x numbers all before step) ∷ [])
numbering-step x numbers all before vars low whole step is tidy =
    numbering-same x numbers all (before + 1) (before + 1) (low ++ row_of step ∷ []) (low ++ row_of step ∷ [])
    (whole ++ raised_row x (row_of step) ∷ []) (whole ++ row_of (raised_step x numbers all before step) ∷ []) refl refl
    (ap (λ (row : Row). whole ++ row ∷ []) (sym (row_of-raised x numbers all before vars step tidy)))
    (numbering-push x numbers all before low whole (row_of step) is
    (clause_row-from_one (clause_of step) tidy.variables tidy.from_one))

pub step-follows : (x : ℕ) (numbers : List ℕ) (all before vars : ℕ) (low whole : List Row) (step : Step)
    → IsNumbering x numbers all before low whole → IsTidy vars step → is_linear step ≡ false
    → judged low vars step ≡ Ok (row_of step)
    → judged whole (vars + x) (raised_step x numbers all before step)
    ≡ Ok (row_of (raised_step x numbers all before step))
step-follows x numbers all before vars low whole (Clause clause hints) is tidy kind follows =
    judged-raised x numbers all before vars low whole clause hints is tidy.variables tidy.known follows
step-follows x numbers all before vars low whole (Linear parts divisor) is tidy kind follows = absurd (cc)

-- ---- steps of a log

raised-at : (x : ℕ) (numbers : List ℕ) (all : ℕ) (steps : List Step) (before k : ℕ) → k < length steps
    → step_at (raised_steps x numbers all before steps) k
    ≡ raised_step x numbers all (before + k) (step_at steps k)
raised-at x numbers all [] before k within = absurd (omega (arith, within))
raised-at x numbers all (step ∷ steps) before zero within =
    let same : before ≡ before + 0 = omega arith in
    ap (λ (n : ℕ). raised_step x numbers all n step) same
raised-at x numbers all (step ∷ steps) before (suc k) within =
    let same : before + 1 + k ≡ before + suc k = omega arith in
    raised-at x numbers all steps (before + 1) k (omega (arith, within))
    ∙ ap (λ (n : ℕ). raised_step x numbers all n (step_at steps k)) same

raised-take : (x : ℕ) (numbers : List ℕ) (all : ℕ) (steps : List Step) (before k : ℕ)
    → take k (raised_steps x numbers all before steps) ≡ raised_steps x numbers all before (take k steps)
raised-take x numbers all [] before zero = refl
raised-take x numbers all [] before (suc k) = refl
raised-take x numbers all (step ∷ steps) before zero = refl
raised-take x numbers all (step ∷ steps) before (suc k) =
    ap (λ (ss : List Step). raised_step x numbers all before step ∷ ss) (raised-take x numbers all steps (before + 1) k)

-- the rows of those that are kept
rows-kept : (x : ℕ) (numbers : List ℕ) (all vars : ℕ) (steps : List Step) (places : List ℕ)
    → All (λ place. place < length steps) places → All (IsTidy vars) steps
    → map (raised_row x) (map row_of (steps_at steps places))
    ≡ map row_of (steps_at (raised_steps x numbers all 0 steps) places)
rows-kept x numbers all vars steps [] within tidy = refl
rows-kept x numbers all vars steps (place ∷ places) within tidy =
    let there : place < length steps = All-head (λ p. p < length steps) place places within in
    ap (λ (row : Row). row ∷ map (raised_row x) (map row_of (steps_at steps places)))
    (sym (ap row_of (raised-at x numbers all steps 0 place there)
    ∙ row_of-raised x numbers all (0 + place) vars (step_at steps place) (tidy place (Clause [] []) there)))
    ∙ ap (λ (rows : List Row). row_of (step_at (raised_steps x numbers all 0 steps) place) ∷ rows)
    (rows-kept x numbers all vars steps places (All-tail (λ p. p < length steps) place places within) tidy)

pub patterns-kept : (x : ℕ) (numbers : List ℕ) (all vars : ℕ) (low : List Row) (steps : List Step) (places : List ℕ)
    → All (λ place. place < length steps) places → All (IsTidy vars) steps
    → map (raised_row x) (low ++ map row_of (steps_at steps places))
    ≡ map (raised_row x) low ++ map row_of (steps_at (raised_steps x numbers all 0 steps) places)
patterns-kept x numbers all vars low steps places within tidy =
    map-append (raised_row x) low (map row_of (steps_at steps places))
    ∙ ap (λ (rows : List Row). map (raised_row x) low ++ rows) (rows-kept x numbers all vars steps places within tidy)

-- behind the steps
pub numbering-steps : (x : ℕ) (numbers : List ℕ) (all vars : ℕ) (steps : List Step) (before : ℕ) (low whole : List Row)
    → IsNumbering x numbers all before low whole → All (IsTidy vars) steps
    → IsNumbering x numbers all (before + length steps) (low ++ map row_of steps)
    (whole ++ map row_of (raised_steps x numbers all before steps))
numbering-steps x numbers all vars [] before low whole is tidy =
    numbering-same x numbers all before (before + 0) low (low ++ []) whole (whole ++ []) (omega arith)
    (sym (append-nil low)) (sym (append-nil whole)) is
numbering-steps x numbers all vars (step ∷ steps) before low whole is tidy =
    numbering-same x numbers all (before + 1 + length steps) (before + length (step ∷ steps))
    ((low ++ row_of step ∷ []) ++ map row_of steps) (low ++ map row_of (step ∷ steps))
    ((whole ++ row_of (raised_step x numbers all before step) ∷ [])
    ++ map row_of (raised_steps x numbers all (before + 1) steps))
    (whole ++ map row_of (raised_steps x numbers all before (step ∷ steps))) (omega arith)
    (append_assoc low (row_of step ∷ []) (map row_of steps))
    (append_assoc whole (row_of (raised_step x numbers all before step) ∷ [])
    (map row_of (raised_steps x numbers all (before + 1) steps)))
    (numbering-steps x numbers all vars steps (before + 1) (low ++ row_of step ∷ [])
    (whole ++ row_of (raised_step x numbers all before step) ∷ [])
    (numbering-step x numbers all before vars low whole step is (All-head (IsTidy vars) step steps tidy))
    (All-tail (IsTidy vars) step steps tidy))

pub steps-tidy : (x : ℕ) (numbers : List ℕ) (all vars : ℕ) (steps : List Step) (before : ℕ) (low whole : List Row)
    → IsNumbering x numbers all before low whole → All (IsTidy vars) steps
    → All HasSmallHints (raised_steps x numbers all before steps)
    → All (IsTidy (vars + x)) (raised_steps x numbers all before steps)
steps-tidy x numbers all vars [] before low whole is tidy small = All-nil (IsTidy (vars + x))
steps-tidy x numbers all vars (step ∷ steps) before low whole is tidy small =
    All-cons (IsTidy (vars + x)) (raised_step x numbers all before step)
    (raised_steps x numbers all (before + 1) steps)
    (step-tidy x numbers all before vars low whole step is (All-head (IsTidy vars) step steps tidy)
    (All-head HasSmallHints (raised_step x numbers all before step) (raised_steps x numbers all (before + 1) steps)
    small))
    (steps-tidy x numbers all vars steps (before + 1) (low ++ row_of step ∷ [])
    (whole ++ row_of (raised_step x numbers all before step) ∷ [])
    (numbering-step x numbers all before vars low whole step is (All-head (IsTidy vars) step steps tidy))
    (All-tail (IsTidy vars) step steps tidy)
    (All-tail HasSmallHints (raised_step x numbers all before step) (raised_steps x numbers all (before + 1) steps)
    small))

pub length-raised : (x : ℕ) (numbers : List ℕ) (all : ℕ) (steps : List Step) (before : ℕ)
    → length (raised_steps x numbers all before steps) ≡ length steps
length-raised x numbers all [] before = refl
length-raised x numbers all (step ∷ steps) before = ap suc (length-raised x numbers all steps (before + 1))

-- ---- a log that is news

pattern_news-same : (x vars : ℕ) (rows rows' patterns patterns' : List Row) (step step' : Step) → rows' ≡ rows
    → patterns' ≡ patterns → step' ≡ step → IsPatternNews x vars rows patterns step
    → IsPatternNews x vars rows' patterns' step'
pattern_news-same x vars rows rows' patterns patterns' step step' same_rows same_patterns same is =
    subst (λ (rs : List Row). IsPatternNews x vars rs patterns' step') (sym same_rows)
    (subst (λ (rs : List Row). IsPatternNews x vars rows rs step') (sym same_patterns)
    (subst (λ (s : Step). IsPatternNews x vars rows patterns s) (sym same) is))

-- a step over lowered rows, raised
step-raised : (x : ℕ) (numbers : List ℕ) (all before vars : ℕ) (low kept whole : List Row) (step : Step)
    → IsNumbering x numbers all before low whole → IsTidy vars step → IsNews low kept vars step
    → IsPatternNews x (vars + x) whole (map (raised_row x) kept) (raised_step x numbers all before step)
step-raised x numbers all before vars low kept whole step is tidy news = record {
  follows = step-follows x numbers all before vars low whole step is tidy (not_linear kept step news.empowering)
      news.follows;
  named = hints-named x numbers all before low whole is (hints_of step);
  empowering = empowering-raised x kept (clause_of step) news.empowering;
}

-- each step of it, where the same are kept
pub news-raised : (x : ℕ) (numbers : List ℕ) (all vars : ℕ) (steps : List Step) (low whole : List Row)
    → IsNumbering x numbers all 0 low whole → (news : AreNews low vars steps) → All (IsTidy vars) steps
    → (k : ℕ) → k < length steps
    → IsPatternNews x (vars + x) (whole ++ map row_of (take k (raised_steps x numbers all 0 steps)))
    (map (raised_row x) low ++ map row_of (steps_at (raised_steps x numbers all 0 steps) (news.keeps k)))
    (step_at (raised_steps x numbers all 0 steps) k)
news-raised x numbers all vars steps low whole is news tidy k within =
    pattern_news-same x (vars + x) (whole ++ map row_of (raised_steps x numbers all 0 (take k steps)))
    (whole ++ map row_of (take k (raised_steps x numbers all 0 steps)))
    (map (raised_row x) (low ++ map row_of (steps_at steps (news.keeps k))))
    (map (raised_row x) low ++ map row_of (steps_at (raised_steps x numbers all 0 steps) (news.keeps k)))
    (raised_step x numbers all k (step_at steps k)) (step_at (raised_steps x numbers all 0 steps) k)
    (ap (λ (ss : List Step). whole ++ map row_of ss) (raised-take x numbers all steps 0 k))
    (sym (patterns-kept x numbers all vars low steps (news.keeps k)
    (All-weaker (λ place. place < k) (λ place. place < length steps) (λ place below. omega (arith, below, within))
    (news.keeps k) (keeps-within low vars steps news k (omega (arith, within)))) tidy))
    (raised-at x numbers all steps 0 k within
    ∙ ap (λ (n : ℕ). raised_step x numbers all n (step_at steps k)) (zero-add k))
    (step-raised x numbers all k vars (low ++ map row_of (take k steps))
    (low ++ map row_of (steps_at steps (news.keeps k)))
    (whole ++ map row_of (raised_steps x numbers all 0 (take k steps))) (step_at steps k)
    (subst (λ (n : ℕ). IsNumbering x numbers all n (low ++ map row_of (take k steps))
    (whole ++ map row_of (raised_steps x numbers all 0 (take k steps))))
    (zero-add (length (take k steps)) ∙ length-take-le k steps (omega (arith, within)))
    (numbering-steps x numbers all vars (take k steps) 0 low whole is (All-take (IsTidy vars) k steps tidy)))
    (tidy k (Clause [] []) within) (news.news k within))

-- ---- steps, one after another

pub raised_steps-push : (x : ℕ) (numbers : List ℕ) (all : ℕ) (steps : List Step) (step : Step) (before : ℕ)
    → raised_steps x numbers all before (steps ++ step ∷ [])
    ≡ raised_steps x numbers all before steps ++ raised_step x numbers all (before + length steps) step ∷ []
raised_steps-push x numbers all [] step before =
    let same : before ≡ before + 0 = omega arith in
    ap (λ (n : ℕ). raised_step x numbers all n step ∷ []) same
raised_steps-push x numbers all (s ∷ steps) step before =
    let same : before + 1 + length steps ≡ before + length (s ∷ steps) = omega arith in
    ap (λ (ss : List Step). raised_step x numbers all before s ∷ ss)
    (raised_steps-push x numbers all steps step (before + 1)
    ∙ ap (λ (n : ℕ). raised_steps x numbers all (before + 1) steps ++ raised_step x numbers all n step ∷ []) same)

pub raised_steps-more : (x : ℕ) (numbers : List ℕ) (all : ℕ) (steps : List Step) (k : ℕ) (d : Step) → k < length steps
    → raised_steps x numbers all 0 (take (k + 1) steps)
    ≡ raised_steps x numbers all 0 (take k steps) ++ raised_step x numbers all k (get_or steps k d) ∷ []
raised_steps-more x numbers all steps k d within =
    ap (λ (ss : List Step). raised_steps x numbers all 0 ss) (take_more steps k d within)
    ∙ raised_steps-push x numbers all (take k steps) (get_or steps k d) 0
    ∙ ap (λ (n : ℕ). raised_steps x numbers all 0 (take k steps)
    ++ raised_step x numbers all n (get_or steps k d) ∷ [])
    (zero-add (length (take k steps)) ∙ length-take-le k steps (omega (arith, within)))

-- what a step at a place has
clause_at-is : (steps : List Step) (k : ℕ) (d : Step) → k < length steps
    → clause_at steps k ≡ clause_of (get_or steps k d)
clause_at-is steps k d within =
    ap (λ (o : Option Step). option_map_or clause_of o []) (slice_get-get_or steps k d within)

hints_at-is : (steps : List Step) (k : ℕ) (d : Step) → k < length steps → hints_at steps k ≡ hints_of (get_or steps k d)
hints_at-is steps k d within =
    ap (λ (o : Option Step). option_map_or hints_of o []) (slice_get-get_or steps k d within)

-- a step more, as it was read
pub raised-more : (x : ℕ) (numbers : List ℕ) (all : ℕ) (steps : List Step) (k : ℕ) (clause : List Literal)
    (hints : List ℕ) (old new : List Step) → k < length steps → clause ≡ map (raised_literal x) (clause_at steps k)
    → hints ≡ filter_map (number_of numbers all k) (hints_at steps k)
    → old ≡ raised_steps x numbers all 0 (take k steps) → new ≡ old ++ Clause clause hints ∷ []
    → new ≡ raised_steps x numbers all 0 (take (k + 1) steps)
raised-more x numbers all steps k clause hints old new within clause_is hints_are was more =
    more
    ∙ ap (λ (ss : List Step). ss ++ Clause clause hints ∷ []) was
    ∙ ap (λ (c : List Literal). raised_steps x numbers all 0 (take k steps) ++ Clause c hints ∷ [])
    (clause_is ∙ ap (λ (c : List Literal). map (raised_literal x) c) (clause_at-is steps k (Clause [] []) within))
    ∙ ap (λ (hs : List ℕ). raised_steps x numbers all 0 (take k steps)
    ++ Clause (map (raised_literal x) (clause_of (get_or steps k (Clause [] [])))) hs ∷ [])
    (hints_are
    ∙ ap (λ (hs : List ℕ). filter_map (number_of numbers all k) hs) (hints_at-is steps k (Clause [] []) within))
    ∙ sym (raised_steps-more x numbers all steps k (Clause [] []) within)

-- and its hints have 64 bits, if those before it have
pub small-more : (clause : List Literal) (hints : List ℕ) (old new : List Step) → All (λ hint. hint < 2 ^ 64) hints
    → All HasSmallHints old → new ≡ old ++ Clause clause hints ∷ [] → All HasSmallHints new
small-more clause hints old new small was more =
    subst (λ (steps : List Step). All HasSmallHints steps) (sym more)
    (All-push HasSmallHints old (Clause clause hints) was small)

-- a hint more, as it was read
pub hints-more : (test : ℕ → Option ℕ) (hints : List ℕ) (k hint : ℕ) (found : Option ℕ) (old new : List ℕ)
    → k < length hints → hint ≡ get_or hints k 0 → found ≡ test hint → old ≡ filter_map test (take k hints)
    → new ≡ old ++ cons_option found [] → new ≡ filter_map test (take (k + 1) hints)
hints-more test hints k hint found old new within is tested was more =
    more
    ∙ ap (λ (hs : List ℕ). hs ++ cons_option found []) was
    ∙ ap (λ (o : Option ℕ). filter_map test (take k hints) ++ cons_option o [])
    (tested ∙ ap (λ (h : ℕ). test h) is)
    ∙ sym (ap (λ (hs : List ℕ). filter_map test hs) (take_more hints k 0 within)
    ∙ filter_map-append test (take k hints) (get_or hints k 0 ∷ []))
