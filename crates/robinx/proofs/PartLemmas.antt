-- The text of an instance, part by part.
use Rattle.std.proofs.Common.{◌≡◌, ℕ, suc, ◌+◌, ◌<◌, ◌≤◌, List, [], ◌∷◌, ◌++◌, length, get_or, take, drop, Option, Some, sym, ap, ◌∙◌, append_assoc, add-one, arith, subst}
use Rattle.std.specs.List.{All, flat_map, range_with_len}
use Rattle.std.proofs.Math.Seq.{drop-cons}
use Rattle.std.proofs.lemmas.List.{append-nil, take_all}
use Rattle.std.proofs.lemmas.List.Elements.{All-more}
use Rattle.std.proofs.lemmas.List.Concat.{flat_map-append}
use Rattle.league.proofs.RangeLemmas.{range_with_len-more}
use Rattle.league.specs.Names.{name_of}
use Rattle.league.specs.declared.class.Constraint.{Constraint}
use Rattle.robinx.specs.Elements as elements
use Rattle.robinx.specs.Texts.{group_of, between, constraint_line, constraints_after}

-- the lines of a number more
lines-push : (line : ℕ → List ℕ) (i : ℕ) → flat_map line (range_with_len 0 (i + 1)) ≡ flat_map line (range_with_len 0 i) ++ line i
lines-push line i =
    let here : 0 + i ≡ i = omega arith in
    ap (λ (l : List ℕ). flat_map line l) (range_with_len-more 0 i ∙ ap (λ (x : ℕ). range_with_len 0 i ++ x ∷ []) here)
    ∙ flat_map-append line (range_with_len 0 i) (i ∷ [])
    ∙ ap (λ (l : List ℕ). flat_map line (range_with_len 0 i) ++ l) (append-nil (line i))

-- a line more
pub line_added : (line : ℕ → List ℕ) (i : ℕ) (old text new : List ℕ) → text ≡ old ++ flat_map line (range_with_len 0 i) → new ≡ text ++ line i → new ≡ old ++ flat_map line (range_with_len 0 (i + 1))
line_added line i old text new so_far added =
    added ∙ ap (λ (l : List ℕ). l ++ line i) so_far ∙ append_assoc old (flat_map line (range_with_len 0 i)) (line i) ∙ ap (λ (l : List ℕ). old ++ l) (sym (lines-push line i))

-- a constraint more, behind what stands before it
pub constraint_added : (constraints : List Constraint) (k : ℕ) (c : Constraint) (group : Option (List ℕ)) (next old middle new whole : List ℕ) → k < length constraints → get_or constraints k c ≡ c → next ≡ elements.group_name (group_of (name_of c.class))
    → middle ≡ old ++ between group (Some next) → new ≡ middle ++ constraint_line c → old ++ constraints_after group (drop k constraints) ≡ whole → new ++ constraints_after (Some next) (drop (k + 1) constraints) ≡ whole
constraint_added constraints k c group next old middle new whole within is named opened added so_far =
    let rest : List ℕ = constraints_after (Some next) (drop (suc k) constraints) in
    let first : drop k constraints ≡ c ∷ drop (suc k) constraints = drop-cons constraints k c within ∙ ap (λ (x : Constraint). x ∷ drop (suc k) constraints) is in
    let text : constraints_after group (c ∷ drop (suc k) constraints) ≡ between group (Some next) ++ (constraint_line c ++ rest) =
    ap (λ (own : List ℕ). between group (Some own) ++ (constraint_line c ++ constraints_after (Some own) (drop (suc k) constraints))) (sym named) in
    ap (λ (j : ℕ). new ++ constraints_after (Some next) (drop j constraints)) (add-one k)
    ∙ ap (λ (l : List ℕ). l ++ rest) (added ∙ ap (λ (l : List ℕ). l ++ constraint_line c) opened)
    ∙ append_assoc (old ++ between group (Some next)) (constraint_line c) rest
    ∙ append_assoc old (between group (Some next)) (constraint_line c ++ rest)
    ∙ ap (λ (l : List ℕ). old ++ l) (sym (ap (constraints_after group) first ∙ text))
    ∙ so_far

-- what holds of those so far and of the next, and in the end of all
pub All-take_more : {X : Type 0} (P : X → Type 0) (xs : List X) (k : ℕ) (x : X) → k < length xs → get_or xs k x ≡ x → All P (take k xs) → P x → All P (take (k + 1) xs)
All-take_more P xs k x within is so_far here = All-more P xs k x within so_far (subst P (sym is) here)

pub All-whole : {X : Type 0} (P : X → Type 0) (xs : List X) (k : ℕ) → length xs ≤ k → All P (take k xs) → All P xs
All-whole P xs k past so_far = let all : take k xs ≡ xs = take_all k xs past in rw all at so_far
