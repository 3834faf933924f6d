-- What it means that no place of a row is forced.
use Rattle.std.proofs.Common.{◌≡◌, ℕ, ◌+◌, ◌≤◌, Bool, false, ◌&&◌, cond, nat_lt, List, [], ◌∷◌, get_or}
use Rattle.std.proofs.Common.{Some, None, inl, inr, arith, ap, sym, ◌∙◌}
use Rattle.std.specs.List.{All, position_from}
use Rattle.std.proofs.lemmas.Bool.{cases_Bool}
use Rattle.std.proofs.lemmas.Bool.Decides.{nat_tests}
use Rattle.std.proofs.lemmas.List.Elements.{All-cons}
use Rattle.rows.specs.Partials.{IsQuietRow, is_forced, is_free, reach, value_of}
use Rattle.rows.specs.declared.lit.Term.{Term}
use Rattle.rows.specs.declared.partial.Value.{Value}
use Rattle.rows.specs.declared.partial.Value.TheVariants.{Free}

-- where no place is found, none passes
position_from-none : {X : Type 0} (test : X → Bool) (from : ℕ) (xs : List X) → position_from test from xs ≡ None → All (λ x. test x ≡ false) xs
position_from-none test from [] none = λ k d there. absurd (omega arith)
position_from-none test from (x ∷ xs) none =
    elim (cases_Bool (test x)) [
      | inl passes ↦ absurd (let found : position_from test from (x ∷ xs) ≡ Some from = ap (λ (b : Bool). cond b (Some from) (position_from test (from + 1) xs)) passes in cc)
      | inr fails ↦
          All-cons (λ y. test y ≡ false) x xs fails
          (position_from-none test (from + 1) xs (sym (ap (λ (b : Bool). cond b (Some from) (position_from test (from + 1) xs)) fails) ∙ none))
    ]

-- a free literal that isn't forced has a coefficient within the slack
within_slack : (v : Value) (reached degree coef : ℕ) → (is_free v && nat_lt reached (degree + coef)) ≡ false → v ≡ Free → degree + coef ≤ reached
within_slack v reached degree coef fails free =
    let test : nat_lt reached (degree + coef) ≡ false = sym (ap (λ (w : Value). is_free w && nat_lt reached (degree + coef)) free) ∙ fails in
    grind (arith, nat_tests)

-- a row without conflict and without a forced place is quiet
pub IsQuietRow-none : (values : ℕ → Value) (terms : List Term) (degree : ℕ) → degree ≤ reach values terms → position_from (is_forced values terms degree) 0 terms ≡ None → IsQuietRow values (record { terms = terms; degree = degree })
IsQuietRow-none values terms degree no_conflict none = record {
  no_conflict = no_conflict;
  none_forced = λ k d there. within_slack (value_of values (get_or terms k d).lit) (reach values terms) degree (get_or terms k d).coef
      (position_from-none (is_forced values terms degree) 0 terms none k d there);
}
