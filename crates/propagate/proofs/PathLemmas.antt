-- The table of values through an entry more or less.
use Rattle.std.proofs.Common.{◌≡◌, ◌≢◌, ℕ, zero, suc, ◌+◌, ◌-◌, ◌*◌, ◌<◌, ◌≤◌, ◌^◌, Bool, true, false, cond, List, [], ◌∷◌, ◌++◌, length, get_or, take, replicate}
use Rattle.std.proofs.Common.{refl, inl, inr, arith, ap, sym, subst, ◌∙◌}
use Rattle.std.specs.Prelude.{slice_set}
use Rattle.std.proofs.lemmas.Bool.{cases_eq}
use Rattle.std.proofs.lemmas.List.{get_or_append_left, get_or_push, get_or-set_other, get_or-set_same, get_or-take, length-replicate, length-set, length_push, length-take-le, take_all, take_more}
use Rattle.std.proofs.lemmas.List.Sums.{sum_by-cons, sum_by-le, sum_by-set}
use mathlib.Core.Path.{fun_ext}
use Rattle.rows.specs.Forcing.{set_true}
use Rattle.rows.specs.Literals.{Literal}
use Rattle.rows.specs.Rows.{Row}
use Rattle.rows.specs.Partials.{as_value, is_free, value_of}
use Rattle.rows.specs.Values.{valued}
use Rattle.rows.specs.declared.partial.Value.{Value}
use Rattle.rows.specs.declared.partial.Value.TheVariants.{True, False, Free}
use Rattle.rows.proofs.TrailLemmas.{set_true-other, set_true-same, valued-at, valued-none, valued-set, valued-set_other, valued-set_same}
use Rattle.propagate.specs.Trails.{EachEntry, IsNew, level_of, values_of}
use Rattle.propagate.specs.Counters.{SeenCounters}
use Rattle.propagate.specs.Paths.{AreKept, AreStanding, IsPath, IsPlaceOf, SeenPath, one_if_set, set_count, with_entries}
use Rattle.propagate.specs.declared.entry.Entry.{Entry}
use Rattle.propagate.proofs.EntryLemmas.{each-nil, each-push, each-take, values_of-push}
use Rattle.propagate.proofs.ValueLemmas.{free_is, is_free_var, value_of-same}

-- ---- how many have a value

one_at_most : (v : Value) → one_if_set v ≤ 1
one_at_most True = omega arith
one_at_most False = omega arith
one_at_most Free = omega arith

one_for_sign : (positive : Bool) → one_if_set (as_value positive) ≡ 1
one_for_sign true = refl
one_for_sign false = refl

one_for_free : (v : Value) → is_free v ≡ true → one_if_set v ≡ 0
one_for_free v free = ap one_if_set (free_is v free)

none_set : (n : ℕ) → set_count (replicate n Free) ≡ 0
none_set zero = refl
none_set (suc n) = omega (arith, sum_by-cons one_if_set Free (replicate n Free), none_set n)

-- where a variable is free fewer have a value than there are
pub set_count-lt : (values : List Value) (v : ℕ) → 1 ≤ v → v ≤ length values → is_free (valued values v) ≡ true → set_count values < length values
set_count-lt values v from_one within free =
    let place : v - 1 < length values = omega arith in
    let was : one_if_set (get_or values (v - 1) Free) ≡ 0 = one_for_free _ (ap is_free (sym (valued-at values v from_one)) ∙ free) in
    let most : set_count (slice_set values (v - 1) True) ≤ length (slice_set values (v - 1) True) * 1 =
    sum_by-le one_if_set 1 (slice_set values (v - 1) True) (λ k d within. one_at_most _) in
    omega (arith, was, most, length-set values (v - 1) True, sum_by-set one_if_set values (v - 1) True Free place)

-- one variable more has a value
set_count-set : (values : List Value) (v : ℕ) (positive : Bool) → 1 ≤ v → v ≤ length values → is_free (valued values v) ≡ true
    → set_count (slice_set values (v - 1) (as_value positive)) ≡ set_count values + 1
set_count-set values v positive from_one within free =
    let place : v - 1 < length values = omega arith in
    let was : one_if_set (get_or values (v - 1) Free) ≡ 0 = one_for_free _ (ap is_free (sym (valued-at values v from_one)) ∙ free) in
    omega (arith, was, one_for_sign positive, sum_by-set one_if_set values (v - 1) (as_value positive) Free place)

-- one less
set_count-unset : (values : List Value) (v : ℕ) (positive : Bool) → 1 ≤ v → v ≤ length values → valued values v ≡ as_value positive
    → set_count (slice_set values (v - 1) Free) + 1 ≡ set_count values
set_count-unset values v positive from_one within is =
    let place : v - 1 < length values = omega arith in
    let was : one_if_set (get_or values (v - 1) Free) ≡ 1 = ap one_if_set (sym (valued-at values v from_one) ∙ is) ∙ one_for_sign positive in
    omega (arith, was, sum_by-set one_if_set values (v - 1) Free Free place)

-- ---- the table

pub AreKept-none : (n capacity : ℕ) → n < 2 ^ 32 → n ≤ capacity → AreKept (replicate n Free) [] capacity
AreKept-none n capacity few room = record {
  few = omega (arith, length-replicate n Free);
  same = valued-none n;
  count = none_set n;
  room = omega (arith, length-replicate n Free);
  each = each-nil (IsNew (length (replicate n Free)));
}

abbrev pub path_of : SeenCounters → List Row → List Entry → SeenPath
path_of counters added es = record {
  vars = length counters.values;
  given = length counters.rows;
  rows = counters.rows ++ added;
  lists = counters.lists;
  entries = es;
}

-- what a call asks of an entry, of the fields
pub IsNew-inside : (counters : SeenCounters) (added : List Row) (es : List Entry) (p : SeenPath) (e : Entry) → path_of counters added es ≡ p → 1 ≤ e.lit.var → e.lit.var ≤ p.vars
    → value_of (values_of p.entries) e.lit ≡ Free → e.level ≡ level_of (p.entries ++ e ∷ []) → IsNew (length counters.values) es e
IsNew-inside counters added es p e is from_one known free level =
    let new : IsNew p.vars p.entries e = record { from_one = from_one; known = known; free = free; level = level } in
    subst (λ (q : SeenPath). IsNew q.vars q.entries e) (sym is) new

free_in : (values : List Value) (es : List Entry) (l : Literal) → valued values ≡ values_of es → value_of (values_of es) l ≡ Free → value_of (valued values) l ≡ Free
free_in values es l same free = ap (λ (w : ℕ → Value). value_of w l) same ∙ free

pub AreKept-push : (values : List Value) (es : List Entry) (e : Entry) (capacity more : ℕ) → AreKept values es capacity → capacity ≤ more
    → IsNew (length values) es e → AreKept (slice_set values (e.lit.var - 1) (as_value e.lit.positive)) (es ++ e ∷ []) more
AreKept-push values es e capacity more kept grows new =
    let free : value_of (valued values) e.lit ≡ Free = free_in values es e.lit kept.same new.free in
    let length_is : length (slice_set values (e.lit.var - 1) (as_value e.lit.positive)) ≡ length values = length-set values (e.lit.var - 1) (as_value e.lit.positive) in
    record {
      few = omega (arith, length_is, kept.few);
      same =
          valued-set values e.lit new.from_one new.known (ap is_free free)
          ∙ ap (λ (w : ℕ → Value). set_true w e.lit) kept.same
          ∙ sym (values_of-push es e);
      count = omega (arith, length_push es e, kept.count, set_count-set values e.lit.var e.lit.positive new.from_one new.known (is_free_var (valued values) e.lit free));
      room = omega (arith, length_is, kept.room);
      each = subst (λ (n : ℕ). EachEntry (IsNew n) (es ++ e ∷ [])) (sym length_is) (each-push (IsNew (length values)) es e kept.each new);
    }

-- a free literal leaves room for an entry
pub AreKept-room : (values : List Value) (es : List Entry) (l : Literal) (capacity : ℕ) → AreKept values es capacity → 1 ≤ l.var → l.var ≤ length values
    → value_of (values_of es) l ≡ Free → length es < length values
AreKept-room values es l capacity kept from_one known free =
    omega (arith, kept.count, set_count-lt values l.var from_one known (is_free_var (valued values) l (free_in values es l kept.same free)))

pub AreKept-few : (values : List Value) (es : List Entry) (capacity : ℕ) → AreKept values es capacity → length es ≤ length values
AreKept-few values es capacity kept =
    let most : set_count values ≤ length values * 1 = sum_by-le one_if_set 1 values (λ k d within. one_at_most _) in
    omega (arith, kept.count, most)

-- the values before the last entry
unset_at : (values : List Value) (front : List Entry) (e : Entry) → valued values ≡ set_true (values_of front) e.lit → 1 ≤ e.lit.var → e.lit.var ≤ length values
    → is_free (values_of front e.lit.var) ≡ true → (v : ℕ) → valued (slice_set values (e.lit.var - 1) Free) v ≡ values_of front v
unset_at values front e same from_one known free v =
    elim (cases_eq v e.lit.var) [
      | inl is ↦
          ap (λ (w : ℕ). valued (slice_set values (e.lit.var - 1) Free) w) is
          ∙ valued-set_same values e.lit.var Free from_one known
          ∙ sym (free_is (values_of front e.lit.var) free)
          ∙ ap (λ (w : ℕ). values_of front w) (sym is)
      | inr other ↦
          valued-set_other values e.lit.var v Free from_one other
          ∙ ap (λ (w : ℕ → Value). w v) same
          ∙ set_true-other (values_of front) e.lit v other
    ]

unset : (values : List Value) (es front : List Entry) (e : Entry) (capacity : ℕ) → AreKept values es capacity → es ≡ front ++ e ∷ [] → front ≡ take (length front) es
    → IsNew (length values) front e → AreKept (slice_set values (e.lit.var - 1) Free) front capacity
unset values es front e capacity kept split is_front new =
    let same : valued values ≡ set_true (values_of front) e.lit = kept.same ∙ ap values_of split ∙ values_of-push front e in
    let free : is_free (values_of front e.lit.var) ≡ true = is_free_var (values_of front) e.lit new.free in
    let length_is : length (slice_set values (e.lit.var - 1) Free) ≡ length values = length-set values (e.lit.var - 1) Free in
    let had : valued values e.lit.var ≡ as_value e.lit.positive = ap (λ (w : ℕ → Value). w e.lit.var) same ∙ set_true-same (values_of front) e.lit free in
    let longer : length es ≡ length front + 1 = ap length split ∙ length_push front e in
    record {
      few = omega (arith, length_is, kept.few);
      same = fun_ext (unset_at values front e same new.from_one new.known free);
      count = omega (arith, kept.count, longer, set_count-unset values e.lit.var e.lit.positive new.from_one new.known had);
      room = omega (arith, length_is, kept.room);
      each =
          subst (λ (n : ℕ). EachEntry (IsNew n) front) (sym length_is)
          (subst (λ (xs : List Entry). EachEntry (IsNew (length values)) xs) (sym is_front)
          (each-take (IsNew (length values)) es (length front) (omega arith) kept.each));
    }

-- the last entry taken off
pub AreKept-unset : (values : List Value) (es : List Entry) (last : ℕ) (e : Entry) (capacity : ℕ) → AreKept values es capacity → last + 1 ≡ length es
    → e ≡ get_or es last e → AreKept (slice_set values (e.lit.var - 1) Free) (take last es) capacity
AreKept-unset values es last e capacity kept end is =
    let there : last < length es = omega arith in
    let front_length : length (take last es) ≡ last = length-take-le last es (omega arith) in
    let split : es ≡ take last es ++ e ∷ [] =
    sym (take_all (last + 1) es (omega arith)) ∙ take_more es last e there ∙ ap (λ (x : Entry). take last es ++ x ∷ []) (sym is) in
    unset values es (take last es) e capacity kept split (ap (λ (n : ℕ). take n es) (sym front_length))
    (subst (λ (x : Entry). IsNew (length values) (take last es) x) (sym is) (kept.each last e there))

-- the last entry has the present level
pub last_level : (values : List Value) (es : List Entry) (last : ℕ) (e : Entry) (capacity : ℕ) → AreKept values es capacity → last + 1 ≡ length es
    → e ≡ get_or es last e → e.level ≡ level_of es
last_level values es last e capacity kept end is =
    let there : last < length es = omega arith in
    ap (λ (x : Entry). x.level) is ∙ (kept.each last e there).level
    ∙ ap level_of (sym (take_more es last e there) ∙ take_all (last + 1) es (omega arith))

-- the items of a list that was pushed to
pub pushed : (b : Bool) (items es : List Entry) (e : Entry) → items ≡ cond b (es ++ e ∷ []) es → b ≡ true → items ≡ es ++ e ∷ []
pushed b items es e is done = is ∙ ap (λ (c : Bool). cond c (es ++ e ∷ []) es) done

-- the fields after an entry was added
pub AreKept-pushed : (values new : List Value) (es items : List Entry) (e : Entry) (capacity more : ℕ) → AreKept values es capacity → capacity ≤ more → IsNew (length values) es e
    → new ≡ slice_set values (e.lit.var - 1) (as_value e.lit.positive) → items ≡ es ++ e ∷ [] → AreKept new items more
AreKept-pushed values new es items e capacity more kept grows is_new new_is items_are =
    subst (λ (vs : List Value). AreKept vs items more) (sym new_is)
    (subst (λ (xs : List Entry). AreKept (slice_set values (e.lit.var - 1) (as_value e.lit.positive)) xs more) (sym items_are)
    (AreKept-push values es e capacity more kept grows is_new))

-- the fields after an entry was taken off
pub AreKept-popped : (values new : List Value) (es items : List Entry) (last : ℕ) (e : Entry) (capacity now : ℕ) → AreKept values es capacity → last + 1 ≡ length es → e ≡ get_or es last e
    → now ≡ capacity → new ≡ slice_set values (e.lit.var - 1) Free → items ≡ take last es → AreKept new items now
AreKept-popped values new es items last e capacity now kept end is same new_is items_are =
    subst (λ (vs : List Value). AreKept vs items now) (sym new_is)
    (subst (λ (xs : List Entry). AreKept (slice_set values (e.lit.var - 1) Free) xs now) (sym items_are)
    (subst (λ (n : ℕ). AreKept (slice_set values (e.lit.var - 1) Free) (take last es) n) (sym same)
    (AreKept-unset values es last e capacity kept end is)))

-- the last literal is known, and true
pub last_true : (values : List Value) (es : List Entry) (last : ℕ) (e : Entry) (capacity : ℕ) → AreKept values es capacity → last + 1 ≡ length es → e ≡ get_or es last e
    → (e.lit.var ≤ length values) × (value_of (valued values) e.lit ≡ True)
last_true values es last e capacity kept end is =
    let there : last < length es = omega arith in
    let new : IsNew (length values) (take last es) e = subst (λ (x : Entry). IsNew (length values) (take last es) x) (sym is) (kept.each last e there) in
    let split : es ≡ take last es ++ e ∷ [] =
    sym (take_all (last + 1) es (omega arith)) ∙ take_more es last e there ∙ ap (λ (x : Entry). take last es ++ x ∷ []) (sym is) in
    (new.known, ap (λ (w : ℕ → Value). value_of w e.lit) (kept.same ∙ ap values_of split ∙ values_of-push (take last es) e) ∙ value_of-same (values_of (take last es)) e.lit new.free)

pub room_inside : (counters : SeenCounters) (added : List Row) (es : List Entry) (p : SeenPath) (capacity : ℕ) (l : Literal) → AreKept counters.values es capacity → path_of counters added es ≡ p → 1 ≤ l.var → l.var ≤ p.vars
    → value_of (values_of p.entries) l ≡ Free → length p.entries < p.vars
room_inside counters added es p capacity l kept is from_one known free =
    subst (λ (q : SeenPath). l.var ≤ q.vars → value_of (values_of q.entries) l ≡ Free → length q.entries < q.vars) is
    (λ inside is_free. AreKept-room counters.values es l capacity kept from_one inside is_free) known free

-- a path that differs in its entries alone, and then again
pub same_but_entries : (old mid new : SeenPath) (es : List Entry) → mid ≡ with_entries old mid.entries → new ≡ with_entries mid es → new ≡ with_entries old new.entries
same_but_entries old mid new es first then =
    then ∙ ap (λ (p : SeenPath). with_entries p es) first ∙ ap (λ (xs : List Entry). with_entries old xs) (sym (ap (λ (p : SeenPath). p.entries) then))

-- ---- where the variables stand

pub AreStanding-none : (n : ℕ) (places : List ℕ) → length places ≡ n → AreStanding (replicate n Free) [] places
AreStanding-none n places is = record {
  count = is ∙ sym (length-replicate n Free);
  each = λ v from_one within set. absurd (set (ap (λ (w : ℕ → Value). w v) (valued-none n)));
}

pub AreStanding-push : (values : List Value) (es : List Entry) (places : List ℕ) (e : Entry) (x : Value) → AreStanding values es places → 1 ≤ e.lit.var → e.lit.var ≤ length values
    → AreStanding (slice_set values (e.lit.var - 1) x) (es ++ e ∷ []) (slice_set places (e.lit.var - 1) (length es))
AreStanding-push values es places e x standing from_one known = record {
  count = length-set places (e.lit.var - 1) (length es) ∙ standing.count ∙ sym (length-set values (e.lit.var - 1) x);
  each = λ v at_least within set. elim (cases_eq v e.lit.var) [
    | inl is ↦
        let there : e.lit.var - 1 < length places = omega (arith, standing.count) in
        let place : get_or (slice_set places (e.lit.var - 1) (length es)) (v - 1) 0 ≡ length es =
        ap (λ (w : ℕ). get_or (slice_set places (e.lit.var - 1) (length es)) (w - 1) 0) is ∙ get_or-set_same places (e.lit.var - 1) (length es) 0 there in
        subst (λ (p : ℕ). IsPlaceOf (es ++ e ∷ []) v p) (sym place) (record {
          within = omega (arith, length_push es e);
          var_is = λ d. ap (λ (y : Entry). y.lit.var) (get_or_push es e d (length es) refl) ∙ sym is;
        })
    | inr other ↦
        let apart : v - 1 ≢ e.lit.var - 1 = λ same. other (omega arith) in
        let had : IsPlaceOf es v (get_or places (v - 1) 0) =
        standing.each v at_least (omega (arith, within, length-set values (e.lit.var - 1) x)) (λ free. set (valued-set_other values e.lit.var v x from_one other ∙ free)) in
        subst (λ (p : ℕ). IsPlaceOf (es ++ e ∷ []) v p) (sym (get_or-set_other places (e.lit.var - 1) (v - 1) (length es) 0 apart)) (record {
          within = omega (arith, had.within, length_push es e);
          var_is = λ d. ap (λ (y : Entry). y.lit.var) (get_or_append_left es (e ∷ []) d (get_or places (v - 1) 0) had.within) ∙ had.var_is d;
        })
  ];
}

pub AreStanding-unset : (values : List Value) (es : List Entry) (places : List ℕ) (last : ℕ) (e : Entry) → AreStanding values es places → last + 1 ≡ length es → e ≡ get_or es last e
    → 1 ≤ e.lit.var → e.lit.var ≤ length values → AreStanding (slice_set values (e.lit.var - 1) Free) (take last es) places
AreStanding-unset values es places last e standing end is from_one known = record {
  count = standing.count ∙ sym (length-set values (e.lit.var - 1) Free);
  each = λ v at_least within set.
      let other : v ≢ e.lit.var = λ same. set (ap (λ (w : ℕ). valued (slice_set values (e.lit.var - 1) Free) w) same ∙ valued-set_same values e.lit.var Free from_one known) in
      let had : IsPlaceOf es v (get_or places (v - 1) 0) =
      standing.each v at_least (omega (arith, within, length-set values (e.lit.var - 1) Free)) (λ free. set (valued-set_other values e.lit.var v Free from_one other ∙ free)) in
      let not_last : get_or places (v - 1) 0 ≢ last = λ here. other (sym (ap (λ (y : Entry). y.lit.var) is ∙ ap (λ (k : ℕ). (get_or es k e).lit.var) (sym here) ∙ had.var_is e)) in
      let before : get_or places (v - 1) 0 < last = omega (arith, had.within) in
      record {
        within = omega (arith, before, length-take-le last es (omega arith));
        var_is = λ d. ap (λ (y : Entry). y.lit.var) (get_or-take last es (get_or places (v - 1) 0) d before) ∙ had.var_is d;
      };
}

-- the places after an entry was added
pub AreStanding-pushed : (values new : List Value) (es items : List Entry) (places : List ℕ) (e : Entry) (var count : ℕ) (x : Value) → AreStanding values es places → 1 ≤ e.lit.var
    → e.lit.var ≤ length values → new ≡ slice_set values (e.lit.var - 1) x → items ≡ es ++ e ∷ [] → var ≡ e.lit.var → count ≡ length es
    → AreStanding new items (slice_set places (var - 1) count)
AreStanding-pushed values new es items places e var count x standing from_one known new_is items_are var_is count_is =
    subst (λ (vs : List Value). AreStanding vs items (slice_set places (var - 1) count)) (sym new_is)
    (subst (λ (xs : List Entry). AreStanding (slice_set values (e.lit.var - 1) x) xs (slice_set places (var - 1) count)) (sym items_are)
    (subst (λ (v : ℕ). AreStanding (slice_set values (e.lit.var - 1) x) (es ++ e ∷ []) (slice_set places (v - 1) count)) (sym var_is)
    (subst (λ (n : ℕ). AreStanding (slice_set values (e.lit.var - 1) x) (es ++ e ∷ []) (slice_set places (e.lit.var - 1) n)) (sym count_is)
    (AreStanding-push values es places e x standing from_one known))))

-- the places after an entry was taken off
pub AreStanding-popped : (values new : List Value) (es items : List Entry) (places : List ℕ) (last : ℕ) (e : Entry) (capacity : ℕ) → AreKept values es capacity → AreStanding values es places
    → last + 1 ≡ length es → e ≡ get_or es last e → new ≡ slice_set values (e.lit.var - 1) Free → items ≡ take last es → AreStanding new items places
AreStanding-popped values new es items places last e capacity kept standing end is new_is items_are =
    let there : last < length es = omega arith in
    let news : IsNew (length values) (take last es) e = subst (λ (x : Entry). IsNew (length values) (take last es) x) (sym is) (kept.each last e there) in
    subst (λ (vs : List Value). AreStanding vs items places) (sym new_is)
    (subst (λ (xs : List Entry). AreStanding (slice_set values (e.lit.var - 1) Free) xs places) (sym items_are)
    (AreStanding-unset values es places last e standing end is news.from_one news.known))

-- no entry yet
pub IsPath-none : (n capacity : ℕ) (values : List Value) (es : List Entry) (places : List ℕ) → values ≡ replicate n Free → es ≡ [] → length places ≡ n → n < 2 ^ 32 → n ≤ capacity
    → IsPath values es places capacity
IsPath-none n capacity values es places values_are none count few room =
    subst (λ (vs : List Value). IsPath vs es places capacity) (sym values_are)
    (subst (λ (xs : List Entry). IsPath (replicate n Free) xs places capacity) (sym none)
    (record { kept = AreKept-none n capacity few room; standing = AreStanding-none n places count }))
