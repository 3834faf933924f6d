-- Rules that are made ready one after another.
use Rattle.std.proofs.Common.{◌≡◌, ℕ, ◌+◌, ◌^◌, ◌<◌, ◌≤◌, Bool, true, false, inl, inr, List, [], ◌∷◌, ◌++◌, length, map, get_or, take, refl, ap, subst, sym, ◌∙◌, arith}
use Rattle.std.proofs.lemmas.List.{append_assoc, take_more}
use Rattle.std.proofs.lemmas.Bool.{cases_eq, false≢true}
use Rattle.std.proofs.lemmas.List.Elements.{All-cons, All-head, All-push, All-tail, Contains-append_left, Contains-push}
use Rattle.std.proofs.lemmas.List.Sums.{sum_by-cons, sum_by_push}
use Rattle.std.specs.List.{All, Contains, sum_by}
use Rattle.league.specs.declared.game.TeamId.{TeamId}
use Rattle.rule_core.specs.declared.rule.Entries.{Ghosts}
use Rattle.descent.specs.Ready.{IsReady}
use Rattle.descent.specs.Tallies.{all_terms}
use Rattle.descent.specs.declared.kept.Kept.{Kept}
use Rattle.descent.specs.declared.weighted.Weighted.{Weighted}

-- a bound of what came so far, and of the next
pub greatest_more : {X : Type 0} (f : X → ℕ) (xs : List X) (i before after : ℕ) (d : X) → i < length xs → All (λ x. f x ≤ before) (take i xs) → before ≤ after → f (get_or xs i d) ≤ after → All (λ x. f x ≤ after) (take (i + 1) xs)
greatest_more {X} f xs i before after d within all le here =
    subst (λ (l : List X). All (λ x. f x ≤ after) l) (sym (take_more xs i d within)) (All-push (λ x. f x ≤ after) (take i xs) (get_or xs i d) (λ k e h. omega (arith, all k e h, le)) here)

-- what holds of all holds of one between others
pub at_middle : {X : Type 0} (P : X → Type 0) (xs : List X) (x : X) (ys : List X) → All P (xs ++ x ∷ ys) → P x
at_middle P [] x ys all = All-head P x ys all
at_middle P (z ∷ xs) x ys all = at_middle P xs x ys (All-tail P z (xs ++ x ∷ ys) all)

pub sum_middle : {X : Type 0} (f : X → ℕ) (xs : List X) (x : X) (ys : List X) → sum_by f (xs ++ x ∷ ys) ≡ sum_by f xs + f x + sum_by f ys
sum_middle f [] x ys = omega (arith, sum_by-cons f x ys)
sum_middle f (z ∷ xs) x ys = omega (arith, sum_by-cons f z (xs ++ x ∷ ys), sum_by-cons f z xs, sum_middle f xs x ys)

-- the weighted rules of kept ones with one more
pub weights_push : {R : Type 0} (kept : List (Kept R)) (k : Kept R) → map (λ k. k.weighted) (kept ++ k ∷ []) ≡ map (λ k. k.weighted) kept ++ k.weighted ∷ []
weights_push [] k = refl
weights_push {R} (x ∷ kept) k = ap (λ (l : List (Weighted R)). x.weighted ∷ l) (weights_push kept k)

-- one rule more was kept
pub weights_next : {R : Type 0} (kept after : List (Kept R)) (k : Kept R) (x : Weighted R) (rest rest_after rules : List (Weighted R)) → map (λ k. k.weighted) kept ++ rest ≡ rules → rest ≡ x ∷ rest_after → k.weighted ≡ x → after ≡ kept ++ k ∷ [] → map (λ k. k.weighted) after ++ rest_after ≡ rules
weights_next {R} kept after k x rest rest_after rules so_far split is more =
    ap (λ (l : List (Kept R)). map (λ (k : Kept R). k.weighted) l ++ rest_after) more
    ∙ ap (λ (l : List (Weighted R)). l ++ rest_after) (weights_push kept k)
    ∙ append_assoc (map (λ (k : Kept R). k.weighted) kept) (k.weighted ∷ []) rest_after
    ∙ ap (λ (w : Weighted R). map (λ (k : Kept R). k.weighted) kept ++ w ∷ rest_after) is
    ∙ ap (λ (l : List (Weighted R)). map (λ (k : Kept R). k.weighted) kept ++ l) (sym split)
    ∙ so_far

-- the weighted rules, those that are kept first, and the next one
pub rules_split : {R : Type 0} (kept : List (Kept R)) (x : Weighted R) (rest rest_after rules : List (Weighted R)) → map (λ k. k.weighted) kept ++ rest ≡ rules → rest ≡ x ∷ rest_after → rules ≡ map (λ k. k.weighted) kept ++ x ∷ rest_after
rules_split {R} kept x rest rest_after rules so_far split = sym so_far ∙ ap (λ (l : List (Weighted R)). map (λ (k : Kept R). k.weighted) kept ++ l) split

-- a bound of weighted rules is one of the kept rules
pub kept_bound : {R : Type 0} (f : Weighted R → ℕ) (most : ℕ) (kept : List (Kept R)) → All (λ w. f w ≤ most) (map (λ k. k.weighted) kept) → All (λ k. f k.weighted ≤ most) kept
kept_bound f most [] all = λ k d h. absurd (omega (arith, h))
kept_bound {R} f most (x ∷ kept) all = All-cons (λ k. f k.weighted ≤ most) x kept (All-head (λ w. f w ≤ most) x.weighted (map (λ (k : Kept R). k.weighted) kept) all) (kept_bound f most kept (All-tail (λ w. f w ≤ most) x.weighted (map (λ (k : Kept R). k.weighted) kept) all))

-- as many entries are kept as the rules have
pub kept_terms : {R : Type 0} (E : Ghosts R) (n room : ℕ) (kept : List (Kept R)) → All (IsReady E n room) kept → sum_by (λ k. length k.vector.items) kept ≡ all_terms E (map (λ k. k.weighted) kept)
kept_terms E n room [] ready = refl
kept_terms {R} E n room (x ∷ kept) ready =
    omega (
      arith,
      sum_by-cons (λ (k : Kept R). length k.vector.items) x kept,
      sum_by-cons
          (λ (w : Weighted R). E.term_count w.rule) x.weighted (map (λ (k : Kept R). k.weighted) kept),
      (All-head (IsReady E n room) x kept ready).terms,
      kept_terms E n room kept
          (All-tail (IsReady E n room) x kept ready),
    )

-- the steps of one rule more
pub terms_next : {R : Type 0} (E : Ghosts R) (kept after : List (Kept R)) (k : Kept R) (x : Weighted R) (start before
    now : ℕ) → before ≤ start + all_terms E (map (λ k. k.weighted) kept) → k.weighted ≡ x → after ≡ kept ++ k ∷ []
    → now ≤ before + E.term_count x.rule → now ≤ start + all_terms E (map (λ k. k.weighted) after)
terms_next {R} E kept after k x start before now so_far is more steps =
    let f : Weighted R → ℕ = λ w. E.term_count w.rule in
    omega (arith, so_far, steps, ap f is, ap (λ (l : List (Kept R)). sum_by f (map (λ (k : Kept R). k.weighted) l)) more, ap (λ (l : List (Weighted R)). sum_by f l) (weights_push kept k), sum_by_push f (map (λ (k : Kept R). k.weighted) kept) k.weighted)

-- few entries are kept
pub few_kept : {R : Type 0} (E : Ghosts R) (n room : ℕ) (kept : List (Kept R)) (rules : List (Weighted R)) → All (IsReady E n room) kept → map (λ k. k.weighted) kept ≡ rules → all_terms E rules < 2 ^ 31 → sum_by (λ k. length k.vector.items) kept < 2 ^ 31
few_kept {R} E n room kept rules ready weights few = subst (λ (t : ℕ). t < 2 ^ 31) (sym (kept_terms E n room kept ready ∙ ap (λ (l : List (Weighted R)). all_terms E l) weights)) few

-- ---- the teams that a rule watches, found one after another

-- a team that isn't watched is left out
pub watched_skip : (watched : ℕ → Bool) (teams : List TeamId) (i : ℕ)
    → ((t : ℕ) → t < i → watched t ≡ true → Contains teams (record { 0 = t })) → watched i ≡ false
    → (t : ℕ) → t < i + 1 → watched t ≡ true → Contains teams (record { 0 = t })
watched_skip watched teams i so_far unseen t below seen =
    elim (cases_eq t i) as (λ _. Contains teams (record { 0 = t })) [
      | inl same ↦ absurd (false≢true (sym unseen ∙ ap watched (sym same) ∙ seen))
      | inr other ↦ so_far t (omega (arith, below, other)) seen
    ]

-- a team that is watched comes last
pub watched_push : (watched : ℕ → Bool) (teams : List TeamId) (i : ℕ)
    → ((t : ℕ) → t < i → watched t ≡ true → Contains teams (record { 0 = t }))
    → (t : ℕ) → t < i + 1 → watched t ≡ true → Contains (teams ++ (record { 0 = i }) ∷ []) (record { 0 = t })
watched_push watched teams i so_far t below seen =
    let team : TeamId = record { 0 = i } in
    elim (cases_eq t i) as (λ _. Contains (teams ++ team ∷ []) (record { 0 = t })) [
      | inl same ↦
          subst (λ (k : ℕ). Contains (teams ++ team ∷ []) (record { 0 = k })) (sym same) (Contains-push teams team)
      | inr other ↦
          Contains-append_left teams (team ∷ []) (record { 0 = t }) (so_far t (omega (arith, below, other)) seen)
    ]
