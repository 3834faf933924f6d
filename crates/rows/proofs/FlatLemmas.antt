-- Rows that lie end to end in one list of terms.
use Rattle.std.proofs.Common.{◌≡◌, ◌≢◌, ℕ, zero, suc, ◌+◌, ◌-◌, ◌^◌, ◌<◌, ◌≤◌, List, [], ◌∷◌, ◌++◌, length, get_or, take, drop}
use Rattle.std.proofs.Common.{Option, Some, refl, arith, ap, sym, subst, ◌∙◌, length-append}
use Rattle.std.specs.List.{All}
use Rattle.std.specs.Prelude.{IfSome, slice_get}
use Rattle.std.proofs.Math.Seq.{drop-append_seam}
use Rattle.std.proofs.lemmas.List.{drop-append-le, length-drop, take-append-le, take_all}
use Rattle.std.proofs.lemmas.List.Elements.{All-push}
use Rattle.rows.specs.Flat.{AreEnds, AreKept, cut, start_of}
use Rattle.rows.specs.Rows.{IsRow, Row}
use Rattle.rows.specs.declared.lit.Term.{Term}
use Rattle.rows.specs.declared.row_store.End.{End}

-- the first place is one of the terms
AreEnds-le : (start : ℕ) (ends : List End) (count : ℕ) → AreEnds start ends count → start ≤ count
AreEnds-le start [] count is = omega arith
AreEnds-le start (e ∷ ends) count is = omega (arith, AreEnds-le e.end ends count is.1)

-- a part within the terms stays where more come behind
within : (start end : ℕ) (terms more : List Term) → start ≤ end → end ≤ length terms → take (end - start) (drop start (terms ++ more)) ≡ take (end - start) (drop start terms)
within start end terms more order inside =
    ap (λ (xs : List Term). take (end - start) xs) (drop-append-le start terms more (omega arith))
    ∙ take-append-le (end - start) (drop start terms) more (omega (arith, length-drop start terms))

-- what comes behind is the part from the seam to the new end
behind : (start count : ℕ) (terms more : List Term) → start ≡ length terms → count ≡ length terms + length more → take (count - start) (drop start (terms ++ more)) ≡ more
behind start count terms more at whole =
    ap (λ (xs : List Term). take (count - start) xs) (ap (λ (k : ℕ). drop k (terms ++ more)) at ∙ drop-append_seam terms more)
    ∙ take_all (count - start) more (omega arith)

-- a row more
pub cut-push : (start : ℕ) (terms more : List Term) (ends : List End) (e : End) → AreEnds start ends (length terms) → e.end ≡ length terms + length more → cut start (terms ++ more) (ends ++ e ∷ []) ≡ cut start terms ends ++ record { terms = more; degree = e.degree } ∷ []
cut-push start terms more [] e is whole =
    ap (λ (part : List Term). let row : Row = record { terms = part; degree = e.degree } in row ∷ []) (behind start e.end terms more is whole)
cut-push start terms more (x ∷ ends) e is whole =
    ap (λ (part : List Term). let row : Row = record { terms = part; degree = x.degree } in row ∷ cut x.end (terms ++ more) (ends ++ e ∷ [])) (within start x.end terms more is.0 (AreEnds-le x.end ends (length terms) is.1))
    ∙ ap (λ (rows : List Row). let row : Row = record { terms = take (x.end - start) (drop start terms); degree = x.degree } in row ∷ rows) (cut-push x.end terms more ends e is.1 whole)

pub AreEnds-push : (start : ℕ) (ends : List End) (count more : ℕ) (e : End) → AreEnds start ends count → e.end ≡ count + more → AreEnds start (ends ++ e ∷ []) (count + more)
AreEnds-push start [] count more e is whole = (omega arith, whole)
AreEnds-push start (x ∷ ends) count more e is whole = (is.0, AreEnds-push x.end ends count more e is.1 whole)

-- there are as many rows as ends
pub length-cut : (start : ℕ) (terms : List Term) (ends : List End) → length (cut start terms ends) ≡ length ends
length-cut start terms [] = refl
length-cut start terms (e ∷ ends) = ap suc (length-cut e.end terms ends)

pub length-kept : (terms : List Term) (ends : List End) (rows : List Row) → cut 0 terms ends ≡ rows → length rows ≡ length ends
length-kept terms ends rows same = omega (arith, ap length same, length-cut 0 terms ends)

-- what is kept of the row at place k
pub record IsRowAt (start : ℕ) (terms : List Term) (ends : List End) (k : ℕ) (d : End) : Type 0 where
  pub order : start_of start ends k ≤ (get_or ends k d).end
  pub inside : (get_or ends k d).end ≤ length terms
  pub is : slice_get (cut start terms ends) k ≡ Some (record { terms = take ((get_or ends k d).end - start_of start ends k) (drop (start_of start ends k) terms); degree = (get_or ends k d).degree })

pub row_at : (start : ℕ) (terms : List Term) (ends : List End) (k : ℕ) (d : End) → AreEnds start ends (length terms) → k < length ends → IsRowAt start terms ends k d
row_at start terms [] k d is there = absurd (omega arith)
row_at start terms (e ∷ ends) zero d is there = record { order = is.0; inside = AreEnds-le e.end ends (length terms) is.1; is = refl }
row_at start terms (e ∷ ends) (suc k) d is there =
    let at : IsRowAt e.end terms ends k d = row_at e.end terms ends k d is.1 (omega arith) in
    record { order = at.order; inside = at.inside; is = at.is }

-- where a row begins: where the one before it ends
pub start_of-suc : (start : ℕ) (ends : List End) (k : ℕ) (d : End) → suc k < length ends → start_of start ends (suc k) ≡ (get_or ends k d).end
start_of-suc start [] k d there = absurd (omega arith)
start_of-suc start (e ∷ ends) zero d there = refl
start_of-suc start (e ∷ ends) (suc k) d there = start_of-suc e.end ends k d (omega arith)

-- where a row begins, by the end before it
pub start_of-before : (ends : List End) (k : ℕ) (d : End) → k ≢ 0 → k < length ends → (get_or ends (k - 1) d).end ≡ start_of 0 ends k
start_of-before ends zero d some there = absurd (some refl)
start_of-before ends (suc k) d some there =
    let one_less : suc k - 1 ≡ k = omega arith in
    ap (λ (j : ℕ). (get_or ends j d).end) one_less ∙ sym (start_of-suc 0 ends k d there)

-- the terms of the row at place k, and its degree
pub terms-read : (terms part : List Term) (ends : List End) (k from : ℕ) (d : End) → AreEnds 0 ends (length terms) → k < length ends → from ≡ start_of 0 ends k → part ≡ take ((get_or ends k d).end - from) (drop from terms) → IfSome (slice_get (cut 0 terms ends) k) (λ row. part ≡ row.terms)
terms-read terms part ends k from d is there begins read =
    subst (λ (o : Option Row). IfSome o (λ row. part ≡ row.terms)) (sym (row_at 0 terms ends k d is there).is)
    (read ∙ ap (λ (j : ℕ). take ((get_or ends k d).end - j) (drop j terms)) begins)

pub degree-read : (terms : List Term) (rows : List Row) (ends : List End) (k : ℕ) (d : End) → cut 0 terms ends ≡ rows → AreEnds 0 ends (length terms) → k < length ends → IfSome (slice_get rows k) (λ row. (get_or ends k d).degree ≡ row.degree)
degree-read terms rows ends k d same is there =
    subst (λ (xs : List Row). IfSome (slice_get xs k) (λ row. (get_or ends k d).degree ≡ row.degree)) same
    (subst (λ (o : Option Row). IfSome o (λ row. (get_or ends k d).degree ≡ row.degree)) (sym (row_at 0 terms ends k d is there).is) refl)

-- a row more is kept, where it is one and fewer than 2^32 - 1 are there
pub AreKept-push : (terms more : List Term) (ends : List End) (e : End) → AreKept terms ends → e.end ≡ length terms + length more → length ends < 2 ^ 32 - 1 → IsRow (record { terms = more; degree = e.degree }) → AreKept (terms ++ more) (ends ++ e ∷ [])
AreKept-push terms more ends e kept whole room is = record {
  ended = subst (λ (count : ℕ). AreEnds 0 (ends ++ e ∷ []) count) (sym (length-append terms more)) (AreEnds-push 0 ends (length terms) (length more) e kept.ended whole);
  few = omega (arith, length-append ends (e ∷ []));
  rows = subst (λ (rows : List Row). All IsRow rows) (sym (cut-push 0 terms more ends e kept.ended whole)) (All-push IsRow (cut 0 terms ends) (record { terms = more; degree = e.degree }) kept.rows is);
}

-- a row more is kept, by the lists as they are after a push
pub AreKept-grown : (terms more all : List Term) (ends grown : List End) (e : End) → AreKept terms ends → all ≡ terms ++ more → grown ≡ ends ++ e ∷ [] → e.end ≡ length all → length ends < 2 ^ 32 - 1 → IsRow (record { terms = more; degree = e.degree }) → AreKept all grown
AreKept-grown terms more all ends grown e kept same same_ends whole room is =
    subst (λ (xs : List Term). AreKept xs grown) (sym same)
    (subst (λ (es : List End). AreKept (terms ++ more) es) (sym same_ends)
    (AreKept-push terms more ends e kept (whole ∙ ap length same ∙ length-append terms more) room is))

pub cut-grown : (terms more all : List Term) (ends grown : List End) (rows : List Row) (e : End) → AreKept terms ends → all ≡ terms ++ more → grown ≡ ends ++ e ∷ [] → e.end ≡ length all → cut 0 terms ends ≡ rows → cut 0 all grown ≡ rows ++ record { terms = more; degree = e.degree } ∷ []
cut-grown terms more all ends grown rows e kept same same_ends whole were =
    ap (λ (xs : List Term). cut 0 xs grown) same
    ∙ ap (λ (es : List End). cut 0 (terms ++ more) es) same_ends
    ∙ cut-push 0 terms more ends e kept.ended (whole ∙ ap length same ∙ length-append terms more)
    ∙ ap (λ (xs : List Row). xs ++ record { terms = more; degree = e.degree } ∷ []) were
