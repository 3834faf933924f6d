-- The kept reaches of rows.
use Rattle.std.proofs.Common.{◌≡◌, ℕ, ◌+◌, ◌-◌, ◌^◌, ◌<◌, ◌≤◌, ◌⊎◌, Bool, true, false, cond, List, [], ◌∷◌, ◌++◌, length, get_or, replicate}
use Rattle.std.proofs.Common.{refl, inl, inr, arith, ap, sym, subst, ◌∙◌}
use Rattle.std.specs.Prelude.{nat_le, slice_set}
use Rattle.std.specs.List.{All}
use Rattle.std.proofs.lemmas.Bool.{cases_eq, cases_lt}
use Rattle.std.proofs.lemmas.Bool.Decides.{nat_tests}
use Rattle.std.proofs.lemmas.List.{get_or_append_left, get_or_read, get_or_push, get_or-set_other, get_or-set_same, length-set, length_push}
use mathlib.Core.Path.{fun_ext}
use Rattle.rows.specs.Cardinality.{at_least}
use Rattle.rows.specs.Forcing.{set_true}
use Rattle.rows.specs.Literals.{Literal, negate}
use Rattle.rows.specs.Rows.{IsRow, Row}
use Rattle.rows.specs.Partials.{IsQuietRow, as_value, is_free, opposite_of, reach, value_of}
use Rattle.rows.specs.Values.{valued}
use Rattle.rows.specs.declared.lit.Term.{Term}
use Rattle.rows.specs.declared.partial.Value.{Value}
use Rattle.rows.specs.declared.partial.Value.TheVariants.{True, False, Free}
use Rattle.rows.proofs.TrailLemmas.{set_true-other, set_true-same, valued-set, valued-set_other, valued-set_same}
use Rattle.propagate.specs.Numbered.{row_at}
use Rattle.propagate.specs.Links.{AreLinked, IsLastBelow, IsListed, Lacks, LeadsBelow, links_of, term_of}
use Rattle.propagate.specs.Counters.{SeenCounters}
use Rattle.propagate.specs.Tables.{AreCounted, IsCounted, IsEnough}
use Rattle.propagate.specs.Trails.{KnowsVariables}
use Rattle.propagate.specs.declared.link.Link.{Link}
use Rattle.propagate.specs.declared.table.Table.{Table}
use Rattle.propagate.proofs.LinkLemmas.{AreLinked-none, AreLinked-rows, row_at-front}
use Rattle.propagate.proofs.ReachLemmas.{code_of-below, reach-has, reach-lacks, reach-le_free}
use Rattle.propagate.proofs.ValueLemmas.{AreApart}

-- ---- building

-- no row yet
pub AreCounted-none : (rows : List Row) (values : ℕ → Value) (slots : ℕ) (table : Table) → table.lists ≡ replicate slots [] → table.reach.items ≡ []
    → table.enough.items ≡ [] → AreCounted rows 0 values table
AreCounted-none rows values slots table lists reaches enoughs = record {
  linked = subst (λ (ls : List (List Link)). AreLinked rows 0 ls) (sym lists) (AreLinked-none rows slots);
  reach_length = ap (λ (ns : List ℕ). length ns) reaches;
  enough_length = ap (λ (ns : List ℕ). length ns) enoughs;
  reached = λ k below. absurd (omega arith);
  enough = λ k below. absurd (omega arith);
  fits = λ k below. absurd (omega arith);
}

-- more rows stand behind
pub AreCounted-rows : (rows more : List Row) (n : ℕ) (values : ℕ → Value) (table : Table) → n ≤ length rows → AreCounted rows n values table → AreCounted (rows ++ more) n values table
AreCounted-rows rows more n values table within counted = record {
  linked = AreLinked-rows rows more n table.lists within counted.linked;
  reach_length = counted.reach_length;
  enough_length = counted.enough_length;
  reached = λ k below. counted.reached k below ∙ ap (λ (r : Row). reach values r.terms) (sym (row_at-front rows more k (omega arith)));
  enough = λ k below. subst (λ (r : Row). IsEnough r (get_or table.enough.items k 0)) (sym (row_at-front rows more k (omega arith))) (counted.enough k below);
  fits = λ k below. subst (λ (r : Row). reach (λ v. Free) r.terms + 1 < 2 ^ 64) (sym (row_at-front rows more k (omega arith))) (counted.fits k below);
}

row_is : (row : Row) (terms : List Term) (degree : ℕ) → terms ≡ row.terms → degree ≡ row.degree → (let r : Row = record { terms = terms; degree = degree } in r) ≡ row
row_is row terms degree same_terms same_degree =
    ap (λ (ts : List Term). let r : Row = record { terms = ts; degree = degree } in r) same_terms
    ∙ ap (λ (n : ℕ). let r : Row = record { terms = row.terms; degree = n } in r) same_degree

-- one row more is counted
pub AreCounted-more : (rows : List Row) (k : ℕ) (values : ℕ → Value) (old new : Table) (terms : List Term) (degree reached enough : ℕ)
    → AreCounted rows k values old → terms ≡ (row_at rows k).terms → degree ≡ (row_at rows k).degree
    → AreLinked rows (k + 1) new.lists
    → new.reach.items ≡ old.reach.items ++ reached ∷ [] → reached ≡ reach values terms
    → new.enough.items ≡ old.enough.items ++ enough ∷ [] → IsEnough (record { terms = terms; degree = degree }) enough
    → reach (λ v. Free) (row_at rows k).terms + 1 < 2 ^ 64
    → AreCounted rows (k + 1) values new
AreCounted-more rows k values old new terms degree reached enough counted same_terms same_degree linked reaches is_reach enoughs is_enough fits = record {
  linked = linked;
  reach_length = omega (arith, ap (λ (ns : List ℕ). length ns) reaches, length_push old.reach.items reached, counted.reach_length);
  enough_length = omega (arith, ap (λ (ns : List ℕ). length ns) enoughs, length_push old.enough.items enough, counted.enough_length);
  reached = λ j below. elim (cases_lt j k) [
    | inl before ↦
        ap (λ (ns : List ℕ). get_or ns j 0) reaches ∙ get_or_append_left old.reach.items (reached ∷ []) 0 j (omega (arith, counted.reach_length))
        ∙ counted.reached j before
    | inr past ↦
        let here : k ≡ j = omega arith in
        ap (λ (ns : List ℕ). get_or ns j 0) reaches ∙ get_or_push old.reach.items reached 0 j (counted.reach_length ∙ here)
        ∙ is_reach ∙ ap (λ (ts : List Term). reach values ts) same_terms ∙ ap (λ (i : ℕ). reach values (row_at rows i).terms) here
  ];
  enough = λ j below. elim (cases_lt j k) [
    | inl before ↦
        subst (λ (n : ℕ). IsEnough (row_at rows j) n)
        (sym (ap (λ (ns : List ℕ). get_or ns j 0) enoughs ∙ get_or_append_left old.enough.items (enough ∷ []) 0 j (omega (arith, counted.enough_length))))
        (counted.enough j before)
    | inr past ↦
        let here : k ≡ j = omega arith in
        subst (λ (n : ℕ). IsEnough (row_at rows j) n)
        (sym (ap (λ (ns : List ℕ). get_or ns j 0) enoughs ∙ get_or_push old.enough.items enough 0 j (counted.enough_length ∙ here)))
        (subst (λ (i : ℕ). IsEnough (row_at rows i) enough) here
        (subst (λ (r : Row). IsEnough r enough) (row_is (row_at rows k) terms degree same_terms same_degree) is_enough))
  ];
  fits = λ j below. elim (cases_lt j k) [
    | inl before ↦ counted.fits j before
    | inr past ↦
        let here : k ≡ j = omega arith in
        subst (λ (i : ℕ). reach (λ v. Free) (row_at rows i).terms + 1 < 2 ^ 64) here fits
  ];
}

-- the greatest coefficient above the degree is enough
pub IsEnough-most : (terms : List Term) (degree most enough : ℕ) → ((j : ℕ) (d : Term) → j < length terms → (get_or terms j d).coef ≤ most)
    → (enough ≡ degree + most) ⊎ (2 ^ 64 ≤ enough + 1) → IsEnough (record { terms = terms; degree = degree }) enough
IsEnough-most terms degree most enough below (inl is) = λ reached at_least few. (omega arith, λ j d within. omega (arith, below j d within))
IsEnough-most terms degree most enough below (inr full) = λ reached at_least few. absurd (omega arith)

le_from : (a b : ℕ) → nat_le a b ≡ true → a ≤ b
le_from a b is = grind (arith, nat_tests)

-- what is read of the reaches
pub reach-read : (rows : List Row) (values : List Value) (table : Table) (k r : ℕ) → IsCounted rows values table → k < length rows → r ≡ get_or table.reach.items k r
    → r ≡ reach (valued values) (row_at rows k).terms
reach-read rows values table k r counted there read =
    get_or_read table.reach.items k r (omega (arith, counted.counted.reach_length)) read 0 ∙ counted.counted.reached k there

-- a reach that is enough makes the row quiet
pub IsQuietRow-enough : (rows : List Row) (values : List Value) (table : Table) (k e r : ℕ) → IsCounted rows values table → k < length rows
    → e ≡ get_or table.enough.items k e → r ≡ get_or table.reach.items k r → nat_le e r ≡ true → IsQuietRow (valued values) (row_at rows k)
IsQuietRow-enough rows values table k e r counted there e_read r_read at_least =
    let is : r ≡ reach (valued values) (row_at rows k).terms = reach-read rows values table k r counted there r_read in
    let e_is : e ≡ get_or table.enough.items k 0 = get_or_read table.enough.items k e (omega (arith, counted.counted.enough_length)) e_read 0 in
    let few : reach (valued values) (row_at rows k).terms + 1 < 2 ^ 64 =
    omega (arith, counted.counted.fits k there, reach-le_free (valued values) (row_at rows k).terms) in
    let enough : get_or table.enough.items k 0 ≤ reach (valued values) (row_at rows k).terms = omega (arith, is, e_is, le_from e r at_least) in
    record {
      no_conflict = (counted.counted.enough k there (reach (valued values) (row_at rows k).terms) enough few).0;
      none_forced = λ j d within free. (counted.counted.enough k there (reach (valued values) (row_at rows k).terms) enough few).1 j d within;
    }

-- the links of a literal
pub listed-read : (rows : List Row) (values : List Value) (table : Table) (l : Literal) → IsCounted rows values table → l.var ≤ length values
    → IsListed rows (length rows) l (links_of table.lists l)
listed-read rows values table l counted known =
    counted.counted.linked l (omega (arith, code_of-below l (length values) known, counted.slots))

-- ---- one literal more or less

-- Of the rows in which a literal stands, those from a bound on are counted anew, the others as before.
pub record IsMoving (rows : List Row) (links : List Link) (l : Literal) (before after : ℕ → Value) (at : ℕ) (reaches : List ℕ) : Type 0 where
  pub bound : ℕ
  pub within : bound ≤ length rows
  pub leads : LeadsBelow rows links l bound at
  pub count : length reaches ≡ length rows
  pub below : (k : ℕ) → k < bound → get_or reaches k 0 ≡ reach before (row_at rows k).terms
  pub above : (k : ℕ) → bound ≤ k → k < length rows → get_or reaches k 0 ≡ reach after (row_at rows k).terms

-- rows in which it doesn't stand have the same reach before and after
abbrev pub SameWithout : Literal → (ℕ → Value) → (ℕ → Value) → Type 0
SameWithout l before after = (terms : List Term) → Lacks l terms → reach before terms ≡ reach after terms

pub IsMoving-none : (rows : List Row) (values : ℕ → Value) (table : Table) (links : List Link) (l : Literal) (after : ℕ → Value) (at : ℕ) → AreCounted rows (length rows) values table
    → LeadsBelow rows links l (length rows) at → IsMoving rows links l values after at table.reach.items
IsMoving-none rows values table links l after at counted leads = record {
  bound = length rows;
  within = omega arith;
  leads = leads;
  count = counted.reach_length;
  below = counted.reached;
  above = λ k from within. absurd (omega arith);
}

-- the next link, and what is kept of its row
pub record IsStep (rows : List Row) (links : List Link) (l : Literal) (before : ℕ → Value) (bound at : ℕ) (reaches : List ℕ) (x : Link) : Type 0 where
  pub last : IsLastBelow rows l bound x
  pub leads : LeadsBelow rows links l x.row (at - 1)
  pub there : x.row < length rows
  pub was : get_or reaches x.row 0 ≡ reach before (row_at rows x.row).terms

pub moving-step : (rows : List Row) (links : List Link) (l : Literal) (before after : ℕ → Value) (at : ℕ) (reaches : List ℕ) (x : Link) → IsListed rows (length rows) l links
    → (moving : IsMoving rows links l before after at reaches) → 0 < at → x ≡ get_or links (at - 1) x → IsStep rows links l before moving.bound at reaches x
moving-step rows links l before after at reaches x listed moving some read =
    let within : at - 1 < length links = omega (arith, moving.leads.within) in
    let last : IsLastBelow rows l moving.bound x =
    subst (λ (y : Link). IsLastBelow rows l moving.bound y) (sym read) (moving.leads.some (at - 1) x (omega arith)) in
    record {
      last = last;
      leads = subst (λ (y : Link). LeadsBelow rows links l y.row (at - 1)) (sym read) (listed.each (at - 1) x within);
      there = omega (arith, last.below, moving.within);
      was = moving.below x.row last.below;
    }

-- the next row is counted anew
pub IsMoving-more : (rows : List Row) (links : List Link) (l : Literal) (before after : ℕ → Value) (at value : ℕ) (reaches : List ℕ) (link : Link) → SameWithout l before after
    → (moving : IsMoving rows links l before after at reaches) → IsLastBelow rows l moving.bound link → LeadsBelow rows links l link.row (at - 1)
    → value ≡ reach after (row_at rows link.row).terms
    → IsMoving rows links l before after (at - 1) (slice_set reaches link.row value)
IsMoving-more rows links l before after at value reaches link same moving last leads is = record {
  bound = link.row;
  within = omega (arith, moving.within, last.below);
  leads = leads;
  count = length-set reaches link.row value ∙ moving.count;
  below = λ k less. get_or-set_other reaches link.row k value 0 (λ here. absurd (omega arith)) ∙ moving.below k (omega (arith, last.below));
  above = λ k from within. elim (cases_eq k link.row) [
    | inl here ↦
        ap (λ (i : ℕ). get_or (slice_set reaches link.row value) i 0) here
        ∙ get_or-set_same reaches link.row value 0 (omega (arith, moving.count))
        ∙ is ∙ ap (λ (i : ℕ). reach after (row_at rows i).terms) (sym here)
    | inr other ↦
        get_or-set_other reaches link.row k value 0 other
        ∙ elim (cases_lt k moving.bound) [
          | inl between ↦ moving.below k between ∙ same (row_at rows k).terms (last.between k (omega arith) between)
          | inr past ↦ moving.above k past within
        ]
  ];
}

pub IsMoving-end : (rows : List Row) (links : List Link) (l : Literal) (before after : ℕ → Value) (at : ℕ) (reaches : List ℕ) → SameWithout l before after → at ≡ 0
    → IsMoving rows links l before after at reaches → (k : ℕ) → k < length rows → get_or reaches k 0 ≡ reach after (row_at rows k).terms
IsMoving-end rows links l before after at reaches same ended moving k within =
    elim (cases_lt k moving.bound) [
      | inl below ↦ moving.below k below ∙ same (row_at rows k).terms (moving.leads.none ended k below)
      | inr past ↦ moving.above k past within
    ]

-- all reaches counted anew
pub AreCounted-moved : (rows : List Row) (n : ℕ) (before after : ℕ → Value) (old new : Table) → AreCounted rows n before old
    → new.lists ≡ old.lists → new.enough.items ≡ old.enough.items → length new.reach.items ≡ n
    → ((k : ℕ) → k < n → get_or new.reach.items k 0 ≡ reach after (row_at rows k).terms) → AreCounted rows n after new
AreCounted-moved rows n before after old new counted lists enoughs count reached = record {
  linked = subst (λ (ls : List (List Link)). AreLinked rows n ls) (sym lists) counted.linked;
  reach_length = count;
  enough_length = ap (λ (ns : List ℕ). length ns) enoughs ∙ counted.enough_length;
  reached = reached;
  enough = λ k below. subst (λ (ns : List ℕ). IsEnough (row_at rows k) (get_or ns k 0)) (sym enoughs) (counted.enough k below);
  fits = counted.fits;
}

-- ---- a literal that becomes true

pub same_after_set : (values : ℕ → Value) (l : Literal) → value_of values l ≡ Free → SameWithout (negate l) values (set_true values l)
same_after_set values l free = λ terms lacks. sym (reach-lacks values l terms free lacks)

pub same_after_unset : (values : ℕ → Value) (l : Literal) → value_of values l ≡ Free → SameWithout (negate l) (set_true values l) values
same_after_unset values l free = λ terms lacks. reach-lacks values l terms free lacks

-- what a linked row loses
pub reach-link : (rows : List Row) (values : ℕ → Value) (l : Literal) (bound : ℕ) (link : Link) → All IsRow rows → bound ≤ length rows
    → IsLastBelow rows (negate l) bound link → value_of values l ≡ Free
    → reach values (row_at rows link.row).terms ≡ reach (set_true values l) (row_at rows link.row).terms + link.coef
reach-link rows values l bound link proper within last free =
    let apart : AreApart (row_at rows link.row).terms = (proper link.row (record { terms = []; degree = 0 }) (omega (arith, last.below))).variables in
    reach-has values l (row_at rows link.row).terms (term_of (negate l) link) apart last.there refl free

-- ---- a literal that is freed

true_sign : (p : Bool) (v : Value) → cond p v (opposite_of v) ≡ True → v ≡ as_value p
true_sign true v is = is
true_sign false True is = cc
true_sign false False is = refl
true_sign false Free is = cc

free_sign : (p : Bool) (v : Value) → v ≡ Free → cond p v (opposite_of v) ≡ Free
free_sign true v is = is
free_sign false v is = ap opposite_of is

freed : (values : List Value) (l : Literal) → 1 ≤ l.var → l.var ≤ length values → valued (slice_set values (l.var - 1) Free) l.var ≡ Free
freed values l from_one known = valued-set_same values l.var Free from_one known

-- a literal that was freed is free
pub free_after : (values : List Value) (l : Literal) → 1 ≤ l.var → l.var ≤ length values → value_of (valued (slice_set values (l.var - 1) Free)) l ≡ Free
free_after values l from_one known = free_sign l.positive (valued (slice_set values (l.var - 1) Free) l.var) (freed values l from_one known)

unset_at : (values : List Value) (l : Literal) → 1 ≤ l.var → l.var ≤ length values → value_of (valued values) l ≡ True
    → (v : ℕ) → valued values v ≡ set_true (valued (slice_set values (l.var - 1) Free)) l v
unset_at values l from_one known set v =
    elim (cases_eq v l.var) [
      | inl is ↦
          ap (λ (w : ℕ). valued values w) is
          ∙ true_sign l.positive (valued values l.var) set
          ∙ sym (set_true-same (valued (slice_set values (l.var - 1) Free)) l (ap is_free (freed values l from_one known)))
          ∙ ap (λ (w : ℕ). set_true (valued (slice_set values (l.var - 1) Free)) l w) (sym is)
      | inr other ↦
          sym (valued-set_other values l.var v Free from_one other)
          ∙ sym (set_true-other (valued (slice_set values (l.var - 1) Free)) l v other)
    ]

-- making a freed literal true again gives the values before
pub unset_is : (values : List Value) (l : Literal) → 1 ≤ l.var → l.var ≤ length values → value_of (valued values) l ≡ True
    → valued values ≡ set_true (valued (slice_set values (l.var - 1) Free)) l
unset_is values l from_one known set = fun_ext (unset_at values l from_one known set)

-- ---- all rows

pub IsCounted-moved : (rows : List Row) (old_values new_values : List Value) (old new : Table) → IsCounted rows old_values old → length new_values ≡ length old_values
    → new.lists ≡ old.lists → new.enough.items ≡ old.enough.items → length new.reach.items ≡ length rows
    → ((k : ℕ) → k < length rows → get_or new.reach.items k 0 ≡ reach (valued new_values) (row_at rows k).terms) → IsCounted rows new_values new
IsCounted-moved rows old_values new_values old new counted same lists enoughs count reached = record {
  few = omega (arith, counted.few);
  proper = counted.proper;
  known = subst (λ (n : ℕ). All (KnowsVariables n) rows) (sym same) counted.known;
  slots = omega (arith, ap (λ (ls : List (List Link)). length ls) lists, counted.slots);
  counted = AreCounted-moved rows (length rows) (valued old_values) (valued new_values) old new counted.counted lists enoughs count reached;
}

-- ---- what a contract sees

pub same_counters : (s : SeenCounters) (rows : List Row) (values new : List Value) (lists : List (List Link)) → rows ≡ s.rows → values ≡ new → lists ≡ s.lists
    → (let t : SeenCounters = record { rows = rows; values = values; lists = lists } in t) ≡ record s { values = new }
same_counters s rows values new lists same_rows same_values same_lists =
    ap (λ (rs : List Row). let t : SeenCounters = record { rows = rs; values = values; lists = lists } in t) same_rows
    ∙ ap (λ (vs : List Value). let t : SeenCounters = record { rows = s.rows; values = vs; lists = lists } in t) same_values
    ∙ ap (λ (ls : List (List Link)). let t : SeenCounters = record { rows = s.rows; values = new; lists = ls } in t) same_lists

-- ---- a literal that becomes true, or is freed

-- where a literal becomes false: what the rows lose in which it stands
pub record IsLoss (rows : List Row) (l : Literal) (before after : ℕ → Value) : Type 0 where
  pub same : SameWithout l before after
  pub lost : (bound : ℕ) (x : Link) → bound ≤ length rows → IsLastBelow rows l bound x
      → reach before (row_at rows x.row).terms ≡ reach after (row_at rows x.row).terms + x.coef

IsLoss-true : (rows : List Row) (values : ℕ → Value) (l : Literal) → All IsRow rows → value_of values l ≡ Free → IsLoss rows (negate l) values (set_true values l)
IsLoss-true rows values l proper free = record {
  same = same_after_set values l free;
  lost = λ bound x within last. reach-link rows values l bound x proper within last free;
}

pub IsLoss-set : (rows : List Row) (values seen new : List Value) (l : Literal) → All IsRow rows → values ≡ seen → 1 ≤ l.var → l.var ≤ length seen → value_of (valued seen) l ≡ Free
    → new ≡ slice_set values (l.var - 1) (as_value l.positive) → IsLoss rows (negate l) (valued seen) (valued new)
IsLoss-set rows values seen new l proper are from_one known free is =
    let after : valued new ≡ set_true (valued seen) l =
    ap (λ (vs : List Value). valued vs) (is ∙ ap (λ (vs : List Value). slice_set vs (l.var - 1) (as_value l.positive)) are) ∙ valued-set seen l from_one known (ap is_free free) in
    subst (λ (w : ℕ → Value). IsLoss rows (negate l) (valued seen) w) (sym after) (IsLoss-true rows (valued seen) l proper free)

pub IsLoss-unset : (rows : List Row) (values seen new : List Value) (l : Literal) → All IsRow rows → values ≡ seen → 1 ≤ l.var → l.var ≤ length seen → value_of (valued seen) l ≡ True
    → new ≡ slice_set values (l.var - 1) Free → IsLoss rows (negate l) (valued new) (valued seen)
IsLoss-unset rows values seen new l proper are from_one known set is =
    let new_is : new ≡ slice_set seen (l.var - 1) Free = is ∙ ap (λ (vs : List Value). slice_set vs (l.var - 1) Free) are in
    subst (λ (vs : List Value). IsLoss rows (negate l) (valued vs) (valued seen)) (sym new_is)
    (subst (λ (w : ℕ → Value). IsLoss rows (negate l) (valued (slice_set seen (l.var - 1) Free)) w) (sym (unset_is seen l from_one known set))
    (IsLoss-true rows (valued (slice_set seen (l.var - 1) Free)) l proper (free_after seen l from_one known)))

-- the row of the next link loses its coefficient
pub moving-lost : (rows : List Row) (links : List Link) (l : Literal) (before after : ℕ → Value) (at value : ℕ) (reaches : List ℕ) (x : Link) → IsLoss rows l before after
    → (moving : IsMoving rows links l before after at reaches) → IsStep rows links l before moving.bound at reaches x → value + x.coef ≡ get_or reaches x.row 0
    → IsMoving rows links l before after (at - 1) (slice_set reaches x.row value)
moving-lost rows links l before after at value reaches x loss moving step is =
    let value_is : value ≡ reach after (row_at rows x.row).terms = omega (arith, is, step.was, loss.lost moving.bound x moving.within step.last) in
    IsMoving-more rows links l before after at value reaches x loss.same moving step.last step.leads value_is

-- the row of the next link gets its coefficient back
pub moving-gained : (rows : List Row) (links : List Link) (l : Literal) (before after : ℕ → Value) (at value : ℕ) (reaches : List ℕ) (x : Link) → IsLoss rows l after before
    → (moving : IsMoving rows links l before after at reaches) → IsStep rows links l before moving.bound at reaches x → value ≡ get_or reaches x.row 0 + x.coef
    → IsMoving rows links l before after (at - 1) (slice_set reaches x.row value)
moving-gained rows links l before after at value reaches x loss moving step is =
    let value_is : value ≡ reach after (row_at rows x.row).terms = omega (arith, is, step.was, loss.lost moving.bound x moving.within step.last) in
    IsMoving-more rows links l before after at value reaches x (λ terms lacks. sym (loss.same terms lacks)) moving step.last step.leads value_is

-- a row's reach doesn't fall below 0
pub loss-below : (rows : List Row) (links : List Link) (l : Literal) (before after : ℕ → Value) (at : ℕ) (reaches : List ℕ) (x : Link) → IsLoss rows l before after
    → (moving : IsMoving rows links l before after at reaches) → IsStep rows links l before moving.bound at reaches x → x.coef ≤ get_or reaches x.row 0
loss-below rows links l before after at reaches x loss moving step = omega (arith, step.was, loss.lost moving.bound x moving.within step.last)

-- a row's reach doesn't rise past what fits
pub gain-fits : (rows : List Row) (links : List Link) (l : Literal) (before after : ℕ → Value) (at : ℕ) (reaches : List ℕ) (x : Link) (table : Table) (values : ℕ → Value)
    → AreCounted rows (length rows) values table → IsLoss rows l after before
    → (moving : IsMoving rows links l before after at reaches) → IsStep rows links l before moving.bound at reaches x → get_or reaches x.row 0 + x.coef < 2 ^ 64
gain-fits rows links l before after at reaches x table values counted loss moving step =
    omega (arith, step.was, loss.lost moving.bound x moving.within step.last, counted.fits x.row step.there, reach-le_free after (row_at rows x.row).terms)
