-- The lines of constraints, one after another.
use Rattle.std.proofs.Common.{◌≡◌, ℕ, suc, ◌+◌, ◌<◌, List, ◌∷◌, ◌++◌, length, drop, get_or, ap, ◌∙◌, sym, append_assoc, add-one}
use Rattle.std.proofs.Math.Seq.{drop-cons}
use Rattle.league.specs.declared.class.Constraint.{Constraint}
use Rattle.command_check.specs.Report.{constraint_text, constraints_text}

-- the line of the next constraint, and then those of the others
next_line : (k number : ℕ) (constraints : List Constraint) (vectors : List (List ℕ)) (c : Constraint) (entries : List ℕ) → k < length constraints → k < length vectors → get_or constraints k c ≡ c → get_or vectors k entries ≡ entries
    → constraints_text number (drop k constraints) (drop k vectors) ≡ constraint_text number c entries ++ constraints_text (number + 1) (drop (suc k) constraints) (drop (suc k) vectors)
next_line k number constraints vectors c entries within within_vectors is_c is_entries =
    ap (λ (l : List Constraint). constraints_text number l (drop k vectors)) (drop-cons constraints k c within ∙ ap (λ (x : Constraint). x ∷ drop (suc k) constraints) is_c)
    ∙ ap (λ (l : List (List ℕ)). constraints_text number (c ∷ drop (suc k) constraints) l) (drop-cons vectors k entries within_vectors ∙ ap (λ (x : List ℕ). x ∷ drop (suc k) vectors) is_entries)

-- the text so far and what is left stay the whole, when the next line is added
pub line_added : (k : ℕ) (constraints : List Constraint) (vectors : List (List ℕ)) (c : Constraint) (entries old new whole : List ℕ) → k < length constraints → k < length vectors → get_or constraints k c ≡ c → get_or vectors k entries ≡ entries
    → old ++ constraints_text (k + 1) (drop k constraints) (drop k vectors) ≡ whole → new ≡ old ++ constraint_text (k + 1) c entries
    → new ++ constraints_text (k + 1 + 1) (drop (k + 1) constraints) (drop (k + 1) vectors) ≡ whole
line_added k constraints vectors c entries old new whole within within_vectors is_c is_entries so_far added =
    let rest : ℕ → List ℕ = λ j. constraints_text (k + 1 + 1) (drop j constraints) (drop j vectors) in
    ap (λ (l : List ℕ). l ++ rest (k + 1)) added
    ∙ ap (λ (j : ℕ). (old ++ constraint_text (k + 1) c entries) ++ rest j) (add-one k)
    ∙ append_assoc old (constraint_text (k + 1) c entries) (rest (suc k))
    ∙ ap (λ (l : List ℕ). old ++ l) (sym (next_line k (k + 1) constraints vectors c entries within within_vectors is_c is_entries))
    ∙ so_far
