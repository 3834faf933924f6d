-- The parts of a conflict's text, one after another.
use Rattle.std.proofs.Common.{◌≡◌, ◌↔◌, ℕ, ◌+◌, ◌<◌, Bool, true, false, if◌then◌else◌, List, [], ◌∷◌, ◌++◌}
use Rattle.std.proofs.Common.{length, take, get_or, Some, codes, subst, inl, inr}
use Rattle.std.proofs.Common.{refl, arith, ap, sym, ◌∙◌, append_assoc}
use Rattle.std.specs.Prelude.{IsTrue, OnOk, Result, Ok, Err, is_ok, slice_get}
use Rattle.std.specs.List.{list_all}
use Rattle.std.proofs.lemmas.Bool.{cases_lt, false_from_ne_true}
use Rattle.std.proofs.lemmas.List.Sums.{AllPass-from_list_all, list_all-from_AllPass}
use Rattle.std.proofs.lemmas.List.{append-nil, length-take-le, take_more}
use Rattle.std.proofs.lemmas.Option.{get_or_from_slice_get, slice_get_within}
use Rattle.explain.specs.Cases.{is_decided}
use Rattle.explain.specs.Conflicts.{AreDecided}
use Rattle.explain.specs.declared.cases.Case.{Case}
use Rattle.command_explain.specs.Texts.{LogReadsBack, case_text, cases_text, minimal_line}

cases-push : (members : List ℕ) (cases : List Case) (k : ℕ) (case : Case) → length members ≡ length cases
    → cases_text (members ++ k ∷ []) (cases ++ case ∷ []) ≡ cases_text members cases ++ case_text k case
cases-push [] [] k case same = append-nil (case_text k case)
cases-push [] (c ∷ cases) k case same = absurd (omega (arith, same))
cases-push (j ∷ members) [] k case same = absurd (omega (arith, same))
cases-push (j ∷ members) (c ∷ cases) k case same =
    ap (λ (text : List ℕ). case_text j c ++ text) (cases-push members cases k case (omega (arith, same)))
    ∙ sym (append_assoc (case_text j c) (cases_text members cases) (case_text k case))

-- the text of one case more, as it is written
pub cases-more : (members : List ℕ) (cases : List Case) (i k : ℕ) (case : Case) (whole old new : List ℕ)
    → slice_get members i ≡ Some k → slice_get cases i ≡ Some case → new ≡ old ++ case_text k case
    → old ≡ whole ++ cases_text (take i members) (take i cases)
    → new ≡ whole ++ cases_text (take (i + 1) members) (take (i + 1) cases)
cases-more members cases i k case whole old new there there_too more was =
    let within : i < length members = slice_get_within members i k there in
    let within_too : i < length cases = slice_get_within cases i case there_too in
    let same : length (take i members) ≡ length (take i cases) =
    length-take-le i members (omega (arith, within)) ∙ sym (length-take-le i cases (omega (arith, within_too))) in
    let front : take (i + 1) members ≡ take i members ++ k ∷ [] =
    take_more members i 0 within
    ∙ ap (λ (j : ℕ). take i members ++ j ∷ []) (get_or_from_slice_get members i k 0 there) in
    let front_too : take (i + 1) cases ≡ take i cases ++ case ∷ [] =
    take_more cases i case within_too
    ∙ ap (λ (c : Case). take i cases ++ c ∷ []) (get_or_from_slice_get cases i case case there_too) in
    more
    ∙ ap (λ (text : List ℕ). text ++ case_text k case) was
    ∙ append_assoc whole (cases_text (take i members) (take i cases)) (case_text k case)
    ∙ ap (λ (text : List ℕ). whole ++ text)
    (sym (ap (λ (ks : List ℕ). cases_text ks (take (i + 1) cases)) front
    ∙ ap (λ (cs : List Case). cases_text (take i members ++ k ∷ []) cs) front_too
    ∙ cases-push (take i members) (take i cases) k case same))

-- one case more whose log reads back
pub logs-more : (cases : List Case) (i : ℕ) (case : Case) (j : ℕ) (d : Case) → slice_get cases i ≡ Some case
    → LogReadsBack case → ((k : ℕ) (e : Case) → k < i → LogReadsBack (get_or cases k e)) → j < i + 1
    → LogReadsBack (get_or cases j d)
logs-more cases i case j d there reads so_far below =
    elim (cases_lt j i) as (λ _. LogReadsBack (get_or cases j d)) [
      | inl before ↦ so_far j d before
      | inr behind ↦
          let same : j ≡ i = omega (arith, below, behind) in
          subst (λ (c : Case). LogReadsBack c)
          (sym (ap (λ (k : ℕ). get_or cases k d) same ∙ get_or_from_slice_get cases i case d there)) reads
    ]

-- ---- whether each case is a schedule

pub minimal-yes : (cases : List Case) (said : Bool) → IsTrue said ↔ AreDecided cases → said ≡ true
    → minimal_line cases ≡ codes "minimal yes\n"
minimal-yes cases said tells is =
    ap (λ (b : Bool). if b then codes "minimal yes\n" else codes "minimal no\n")
    (list_all-from_AllPass is_decided cases (tells.0 (subst (λ (b : Bool). IsTrue b) (sym is) refl)))

not_said : (said : Bool) → said ≡ false → IsTrue said → ⊥
not_said true is holds = cc
not_said false is holds = cc

pub minimal-no : (cases : List Case) (said : Bool) → IsTrue said ↔ AreDecided cases → said ≡ false
    → minimal_line cases ≡ codes "minimal no\n"
minimal-no cases said tells is =
    ap (λ (b : Bool). if b then codes "minimal yes\n" else codes "minimal no\n")
    (false_from_ne_true (list_all is_decided cases)
    (λ all. not_said said is (tells.1 (AllPass-from_list_all is_decided cases all))))

-- what is added, unless memory ran out
pub put_so : {T E : Type 0} (result : Result T E) (old new line whole : List ℕ)
    → new ≡ (if is_ok result then old ++ line else old) → whole ≡ line → OnOk result (new ≡ old ++ whole)
put_so {T} {E} (Ok x) old new line whole is same = is ∙ ap (λ (text : List ℕ). old ++ text) (sym same)
put_so {T} {E} (Err error) old new line whole is same = tt
