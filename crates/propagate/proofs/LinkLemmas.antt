-- Links to the rows in which a literal stands.
use Rattle.std.proofs.Common.{◌≡◌, ◌≢◌, ℕ, zero, suc, ◌+◌, ◌<◌, ◌≤◌, ◌⊎◌, false, List, [], ◌∷◌, ◌++◌, length, get_or, take, replicate}
use Rattle.std.proofs.Common.{inl, inr, arith, ap, sym, subst, ◌∙◌}
use Rattle.std.specs.Prelude.{slice_set, Contains}
use Rattle.std.proofs.lemmas.Bool.{cases_eq, cases_lt}
use Rattle.std.proofs.lemmas.List.{get_or_append_left, get_or_default, get_or_push, get_or-replicate, get_or-set_other, get_or-set_same, get_or-take, length-replicate, length-set, length_push, length-take-le, take_all}
use Rattle.rows.specs.Codes.{code_of}
use Rattle.rows.specs.Literals.{Literal}
use Rattle.rows.specs.Rows.{Row}
use Rattle.rows.specs.declared.lit.Term.{Term}
use Rattle.propagate.specs.Numbered.{row_at}
use Rattle.propagate.specs.Links.{AreLinked, IsLastBelow, IsListed, Lacks, LeadsBelow, links_of, term_of}
use Rattle.propagate.specs.declared.link.Link.{Link}
use Rattle.propagate.proofs.ReachLemmas.{same_code}
use Rattle.propagate.proofs.ValueLemmas.{AreApart}

-- ---- rows by their places

no_row : Row
no_row = record { terms = []; degree = 0 }

pub row_at-front : (rows more : List Row) (k : ℕ) → k < length rows → row_at (rows ++ more) k ≡ row_at rows k
row_at-front rows more k within = get_or_append_left rows more (record { terms = []; degree = 0 }) k within

pub row_at-end : (rows : List Row) (row : Row) (k : ℕ) → length rows ≡ k → row_at (rows ++ row ∷ []) k ≡ row
row_at-end rows row k is = get_or_push rows row (record { terms = []; degree = 0 }) k is

-- ---- whether a literal stands among terms

abbrev Stands : Literal → List Term → Type 0
Stands l terms = (k : ℕ) × (k < length terms) × ((d : Term) → (get_or terms k d).lit ≡ l)

later : (l : Literal) (t : Term) (ts : List Term) → t.lit ≢ l → Stands l ts ⊎ Lacks l ts → Stands l (t ∷ ts) ⊎ Lacks l (t ∷ ts)
later l t ts other (inl stands) = inl (suc stands.0, omega (arith, stands.1), stands.2)
later l t ts other (inr lacks) = inr (lacks_cons l t ts other lacks) where
  lacks_cons : (l : Literal) (t : Term) (ts : List Term) → t.lit ≢ l → Lacks l ts → Lacks l (t ∷ ts)
  lacks_cons l t ts other lacks zero d within = other
  lacks_cons l t ts other lacks (suc k) d within = lacks k d (omega arith)

stands_or_lacks : (l : Literal) (terms : List Term) → Stands l terms ⊎ Lacks l terms
stands_or_lacks l [] = inr (λ k d within. absurd (omega arith))
stands_or_lacks l (t ∷ ts) =
    elim (cases_eq (code_of t.lit) (code_of l)) [
      | inl same ↦ inl (0, omega arith, λ d. same_code t.lit l same)
      | inr differ ↦ later l t ts (λ same. differ (ap code_of same)) (stands_or_lacks l ts)
    ]

-- ---- what leads to a row

-- a link more behind the others
leads-push : (rows : List Row) (links : List Link) (x : Link) (l : Literal) (bound at : ℕ) → LeadsBelow rows links l bound at → LeadsBelow rows (links ++ x ∷ []) l bound at
leads-push rows links x l bound at leads = record {
  none = leads.none;
  within = omega (arith, leads.within, length_push links x);
  some = λ i d is.
      subst (λ (y : Link). IsLastBelow rows l bound y) (sym (get_or_append_left links (x ∷ []) d i (omega (arith, leads.within)))) (leads.some i d is);
}

last-rows : (rows more : List Row) (l : Literal) (bound : ℕ) (link : Link) → bound ≤ length rows → IsLastBelow rows l bound link → IsLastBelow (rows ++ more) l bound link
last-rows rows more l bound link within last = record {
  below = last.below;
  there =
      let front : link.row < length rows = omega (arith, last.below) in
      subst (λ (r : Row). Contains r.terms (term_of l link)) (sym (row_at-front rows more link.row front)) last.there;
  between = λ k above below. subst (λ (r : Row). Lacks l r.terms) (sym (row_at-front rows more k (omega arith))) (last.between k above below);
}

leads-rows : (rows more : List Row) (links : List Link) (l : Literal) (bound at : ℕ) → bound ≤ length rows → LeadsBelow rows links l bound at → LeadsBelow (rows ++ more) links l bound at
leads-rows rows more links l bound at within leads = record {
  none = λ is k below. subst (λ (r : Row). Lacks l r.terms) (sym (row_at-front rows more k (omega arith))) (leads.none is k below);
  within = leads.within;
  some = λ i d is. last-rows rows more l bound (get_or links i d) within (leads.some i d is);
}

-- one row more in which the literal doesn't stand
leads-skip : (rows : List Row) (links : List Link) (l : Literal) (k at : ℕ) → Lacks l (row_at rows k).terms → LeadsBelow rows links l k at → LeadsBelow rows links l (k + 1) at
leads-skip rows links l k at lacks leads = record {
  none = λ is j below. elim (cases_lt j k) [
    | inl before ↦ leads.none is j before
    | inr past ↦
        let here : k ≡ j = omega arith in
        subst (λ (i : ℕ). Lacks l (row_at rows i).terms) here lacks
  ];
  within = leads.within;
  some = λ i d is.
      let last : IsLastBelow rows l k (get_or links i d) = leads.some i d is in
      record {
        below = omega (arith, last.below);
        there = last.there;
        between = λ j above below. elim (cases_lt j k) [
          | inl before ↦ last.between j above before
          | inr past ↦
              let here : k ≡ j = omega arith in
              subst (λ (i : ℕ). Lacks l (row_at rows i).terms) here lacks
        ];
      };
}

-- ---- the links of one literal

IsListed-none : (rows : List Row) (l : Literal) → IsListed rows 0 l []
IsListed-none rows l = record {
  all = record {
    none = λ is k below. absurd (omega arith);
    within = omega arith;
    some = λ i d is. absurd (omega (arith, is));
  };
  each = λ i d within. absurd (omega arith);
  inside = λ i d within. absurd (omega arith);
}

pub IsListed-rows : (rows more : List Row) (n : ℕ) (l : Literal) (links : List Link) → n ≤ length rows → IsListed rows n l links → IsListed (rows ++ more) n l links
IsListed-rows rows more n l links within listed = record {
  all = leads-rows rows more links l n (length links) within listed.all;
  each = λ i d there. leads-rows rows more links l (get_or links i d).row i (omega (arith, listed.inside i d there)) (listed.each i d there);
  inside = listed.inside;
}

IsListed-skip : (rows : List Row) (k : ℕ) (l : Literal) (links : List Link) → Lacks l (row_at rows k).terms → IsListed rows k l links → IsListed rows (k + 1) l links
IsListed-skip rows k l links lacks listed = record {
  all = leads-skip rows links l k (length links) lacks listed.all;
  each = listed.each;
  inside = λ i d within. omega (arith, listed.inside i d within);
}

-- a link to the next row
IsListed-push : (rows : List Row) (k : ℕ) (l : Literal) (links : List Link) (x : Link) → x.row ≡ k → Contains (row_at rows k).terms (term_of l x) → IsListed rows k l links
    → IsListed rows (k + 1) l (links ++ x ∷ [])
IsListed-push rows k l links x row_is there listed = record {
  all = record {
    none = λ is. absurd (omega (arith, is, length_push links x));
    within = omega arith;
    some = λ i d is.
        subst (λ (y : Link). IsLastBelow rows l (k + 1) y) (sym (get_or_push links x d i (omega (arith, is, length_push links x)))) last;
  };
  each = λ i d within. elim (cases_lt i (length links)) [
    | inl before ↦
        subst (λ (y : Link). LeadsBelow rows (links ++ x ∷ []) l y.row i) (sym (get_or_append_left links (x ∷ []) d i before))
        (leads-push rows links x l (get_or links i d).row i (listed.each i d before))
    | inr past ↦
        let here : length links ≡ i = omega (arith, within, length_push links x) in
        let front : LeadsBelow rows (links ++ x ∷ []) l x.row (length links) =
        leads-push rows links x l x.row (length links) (subst (λ (n : ℕ). LeadsBelow rows links l n (length links)) (sym row_is) listed.all) in
        subst (λ (y : Link). LeadsBelow rows (links ++ x ∷ []) l y.row i) (sym (get_or_push links x d i here))
        (subst (λ (n : ℕ). LeadsBelow rows (links ++ x ∷ []) l x.row n) here front)
  ];
  inside = λ i d within. elim (cases_lt i (length links)) [
    | inl before ↦
        let below : (get_or links i d).row < k + 1 = omega (arith, listed.inside i d before) in
        subst (λ (y : Link). y.row < k + 1) (sym (get_or_append_left links (x ∷ []) d i before)) below
    | inr past ↦
        let here : length links ≡ i = omega (arith, within, length_push links x) in
        let below : x.row < k + 1 = omega (arith, row_is) in
        subst (λ (y : Link). y.row < k + 1) (sym (get_or_push links x d i here)) below
  ];
} where
  last : IsLastBelow rows l (k + 1) x
  last = record {
    below = omega (arith, row_is);
    there = subst (λ (n : ℕ). Contains (row_at rows n).terms (term_of l x)) (sym row_is) there;
    between = λ j above below. absurd (omega (arith, row_is));
  }

-- ---- the links of all literals

pub AreLinked-none : (rows : List Row) (slots : ℕ) → AreLinked rows 0 (replicate slots [])
AreLinked-none rows slots = λ l within.
    let empty : links_of (replicate slots []) l ≡ [] =
    get_or-replicate {A = List Link} slots (code_of l) [] [] (omega (arith, within, length-replicate {A = List Link} slots [])) in
    subst (λ (ls : List Link). IsListed rows 0 l ls) (sym empty) (IsListed-none rows l)

pub AreLinked-rows : (rows more : List Row) (n : ℕ) (lists : List (List Link)) → n ≤ length rows → AreLinked rows n lists → AreLinked (rows ++ more) n lists
AreLinked-rows rows more n lists within linked = λ l slot. IsListed-rows rows more n l (links_of lists l) within (linked l slot)

-- ---- one row linked, term by term

-- of the row at k the first j terms are linked
pub record IsLinking (rows : List Row) (terms : List Term) (k j : ℕ) (lists : List (List Link)) : Type 0 where
  pub done : (i : ℕ) (d : Term) → i < j → IsListed rows (k + 1) (get_or terms i d).lit (links_of lists (get_or terms i d).lit)
  pub rest : (l : Literal) → code_of l < length lists → Lacks l (take j terms) → IsListed rows k l (links_of lists l)

pub IsLinking-none : (rows : List Row) (terms : List Term) (k : ℕ) (lists : List (List Link)) → AreLinked rows k lists → IsLinking rows terms k 0 lists
IsLinking-none rows terms k lists linked = record {
  done = λ i d below. absurd (omega arith);
  rest = λ l slot lacks. linked l slot;
}

-- all terms
pub AreLinked-end : (rows : List Row) (terms : List Term) (k : ℕ) (lists : List (List Link)) → terms ≡ (row_at rows k).terms
    → IsLinking rows terms k (length terms) lists → AreLinked rows (k + 1) lists
AreLinked-end rows terms k lists same linking = λ l slot. elim (stands_or_lacks l terms) [
  | inl stands ↦
      let at : (get_or terms stands.0 no_term).lit ≡ l = stands.2 no_term in
      subst (λ (m : Literal). IsListed rows (k + 1) m (links_of lists m)) at (linking.done stands.0 no_term stands.1)
  | inr lacks ↦
      IsListed-skip rows k l (links_of lists l) (subst (λ (ts : List Term). Lacks l ts) same lacks)
      (linking.rest l slot (subst (λ (ts : List Term). Lacks l ts) (sym (take_all (length terms) terms (omega arith))) lacks))
] where
  no_term : Term
  no_term = record { coef = 0; lit = record { var = 0; positive = false } }

-- a literal that the first terms lack is none of them
lacks_front : (terms : List Term) (j : ℕ) (t : Term) → AreApart terms → j < length terms → t ≡ get_or terms j t → Lacks t.lit (take j terms)
lacks_front terms j t apart there at = λ i d within same.
    let before : i < j = omega (arith, within, length-take-le j terms (omega arith)) in
    let is : (get_or terms i d).lit ≡ t.lit = ap (λ (u : Term). u.lit) (sym (get_or-take j terms i d before)) ∙ same in
    apart i j d before there
    (ap (λ (m : Literal). m.var) is ∙ ap (λ (u : Term). u.lit.var) (at ∙ get_or_default terms j t d there))

-- one more term, whose link comes behind the others of its literal
pub IsLinking-more : (rows : List Row) (terms : List Term) (k j : ℕ) (lists : List (List Link)) (t : Term) (x : Link) → terms ≡ (row_at rows k).terms
    → AreApart terms → j < length terms → t ≡ get_or terms j t → code_of t.lit < length lists → x ≡ record { row = k; coef = t.coef }
    → IsLinking rows terms k j lists → IsLinking rows terms k (j + 1) (slice_set lists (code_of t.lit) (links_of lists t.lit ++ x ∷ []))
IsLinking-more rows terms k j lists t x same apart there at slot is linking = record {
  done = λ i d below. elim (cases_lt i j) [
    | inl before ↦
        let code_differs : code_of (get_or terms i d).lit ≢ code_of t.lit = λ codes.
        apart i j d before there
        (ap (λ (m : Literal). m.var) (same_code (get_or terms i d).lit t.lit codes) ∙ ap (λ (u : Term). u.lit.var) (at ∙ get_or_default terms j t d there)) in
        subst (λ (ls : List Link). IsListed rows (k + 1) (get_or terms i d).lit ls)
        (sym (get_or-set_other lists (code_of t.lit) (code_of (get_or terms i d).lit) more [] code_differs)) (linking.done i d before)
    | inr past ↦
        let here : t ≡ get_or terms i d = at ∙ get_or_default terms j t d there ∙ ap (λ (n : ℕ). get_or terms n d) (omega arith) in
        subst (λ (u : Term). IsListed rows (k + 1) u.lit (links_of (slice_set lists (code_of t.lit) more) u.lit)) here
        (subst (λ (ls : List Link). IsListed rows (k + 1) t.lit ls) (sym (get_or-set_same lists (code_of t.lit) more [] slot)) fresh)
  ];
  rest = λ l within lacks.
      let lacks_before : Lacks l (take j terms) = λ i d inside same_lit.
      let before : i < j = omega (arith, inside, length-take-le j terms (omega arith)) in
      lacks i d (omega (arith, before, length-take-le (j + 1) terms (omega arith)))
      (ap (λ (u : Term). u.lit) (get_or-take (j + 1) terms i d (omega arith) ∙ sym (get_or-take j terms i d before)) ∙ same_lit) in
      let other : code_of l ≢ code_of t.lit = λ codes.
      lacks j t (omega (arith, length-take-le (j + 1) terms (omega arith)))
      (ap (λ (u : Term). u.lit) (get_or-take (j + 1) terms j t (omega arith) ∙ sym at) ∙ sym (same_code l t.lit codes)) in
      subst (λ (ls : List Link). IsListed rows k l ls) (sym (get_or-set_other lists (code_of t.lit) (code_of l) more [] other))
      (linking.rest l (omega (arith, within, length-set lists (code_of t.lit) more)) lacks_before);
} where
  more : List Link
  more = links_of lists t.lit ++ x ∷ []

  in_row : Contains (row_at rows k).terms (term_of t.lit x)
  in_row =
      let term : t ≡ term_of t.lit x = ap (λ (c : ℕ). let u : Term = record { coef = c; lit = t.lit } in u) (sym (ap (λ (y : Link). y.coef) is)) in
      subst (λ (ts : List Term). Contains ts (term_of t.lit x)) same (subst (λ (u : Term). Contains terms u) term (j, there, sym at))

  fresh : IsListed rows (k + 1) t.lit more
  fresh =
      IsListed-push rows k t.lit (links_of lists t.lit) x (ap (λ (y : Link). y.row) is) in_row
      (linking.rest t.lit slot (lacks_front terms j t apart there at))
