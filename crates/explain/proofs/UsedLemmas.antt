-- What a log uses, as flags show it.
use Rattle.std.proofs.Common.{◌≡◌, ◌≢◌, ℕ, zero, suc, ◌+◌, ◌-◌, ◌<◌, ◌≤◌, ◌==◌, ◌||◌, ◌&&◌, Bool, true, false, nat_lt}
use Rattle.std.proofs.Common.{List, [], ◌∷◌, ◌++◌, length, get_or, set, replicate, inl, inr, ◌⊎◌, refl, arith, ap, sym, subst, ◌∙◌}
use Rattle.std.proofs.Common.{Option, None, Some, map, take}
use Rattle.std.specs.Prelude.{Contains, slice_get}
use Rattle.std.specs.Option.{option_map_or}
use Rattle.std.proofs.lemmas.Bool.{cases_Bool, eqb-false, eqb-true, le-ltb, lt-ltb, ltb-false, ltb-true}
use Rattle.std.proofs.lemmas.Bool.Decides.{nat_tests}
use Rattle.std.proofs.lemmas.List.{get_or-replicate, get_or-set_other, get_or-set_same, length-set}
use Rattle.std.proofs.lemmas.List.{get_or_past, length-replicate, map_more, take_more}
use Rattle.std.proofs.lemmas.List.Folds.{list_any-append, list_any-from_Any}
use Rattle.league.specs.Sets.{is_in}
use Rattle.refutation.specs.Steps.{Step, hints_at, hints_of, kind_at, kind_of, parts_at, parts_of}
use Rattle.refutation.specs.Steps.Step.{Clause, Linear}
use Rattle.refutation.specs.declared.step.Part.{Part}
use Rattle.refutation.specs.declared.step.StepKind.TheVariants as kinds
use Rattle.venue_counts.proofs.MemberLemmas.{Contains-from_is_in}
use Rattle.explain.specs.Used.{AreNoted, IsMarked, IsUsed, named_at, numbers_named}
use Rattle.explain.specs.Used.IsUsed.{is_last, is_named}

-- ---- flags that are set

unchanged : (b c : Bool) → b ≡ (b || (c && false))
unchanged true c = refl
unchanged false true = refl
unchanged false false = refl

-- without numbers no flag changes
pub noted-none : (limit : ℕ) (flags : List Bool) → AreNoted limit [] flags flags
noted-none limit flags =
    record { long = refl; each = λ place. unchanged (get_or flags place false) (nat_lt place limit) }

in_turn : (b c p q : Bool) → ((b || (c && p)) || (c && q)) ≡ (b || (c && (p || q)))
in_turn true c p q = refl
in_turn false true true q = refl
in_turn false true false q = refl
in_turn false false p q = refl

-- some numbers after others
pub noted-more : (limit : ℕ) (numbers more : List ℕ) (old mid new : List Bool) → AreNoted limit numbers old mid
    → AreNoted limit more mid new → AreNoted limit (numbers ++ more) old new
noted-more limit numbers more old mid new first next = record {
  long = next.long ∙ first.long;
  each = λ place.
      let below : Bool = nat_lt place limit in
      next.each place
      ∙ ap (λ (b : Bool). b || (below && is_in (place + 1) more)) (first.each place)
      ∙ in_turn (get_or old place false) below (is_in (place + 1) numbers) (is_in (place + 1) more)
      ∙ ap (λ (b : Bool). get_or old place false || (below && b))
      (sym (list_any-append (λ (y : ℕ). y == (place + 1)) numbers more));
}

-- the next one of a list of numbers
pub noted-next : (limit : ℕ) (numbers : List ℕ) (i : ℕ) (old mid new : List Bool) → i < length numbers
    → AreNoted limit (take i numbers) old mid → AreNoted limit (get_or numbers i 0 ∷ []) mid new
    → AreNoted limit (take (i + 1) numbers) old new
noted-next limit numbers i old mid new within so_far next =
    subst (λ (ns : List ℕ). AreNoted limit ns old new) (sym (take_more numbers i 0 within))
    (noted-more limit (take i numbers) (get_or numbers i 0 ∷ []) old mid new so_far next)

-- the row of the next one of a list of parts
pub noted-next_part : (limit : ℕ) (parts : List Part) (i : ℕ) (d : Part) (old mid new : List Bool) → i < length parts
    → AreNoted limit (map (λ p. p.row) (take i parts)) old mid
    → AreNoted limit ((get_or parts i d).row ∷ []) mid new
    → AreNoted limit (map (λ p. p.row) (take (i + 1) parts)) old new
noted-next_part limit parts i d old mid new within so_far next =
    subst (λ (ns : List ℕ). AreNoted limit ns old new) (sym (map_more (λ (p : Part). p.row) parts i d within))
    (noted-more limit (map (λ (p : Part). p.row) (take i parts)) ((get_or parts i d).row ∷ []) old mid new so_far next)

hints-named : (found : Option Step) → option_map_or kind_of found kinds.Clause ≡ kinds.Clause
    → option_map_or hints_of found [] ≡ option_map_or numbers_named found []
hints-named None is = refl
hints-named (Some (Clause clause hints)) is = refl
hints-named (Some (Linear parts divisor)) is = absurd (cc)

parts-named : (found : Option Step) → option_map_or kind_of found kinds.Clause ≡ kinds.Linear
    → map (λ part. part.row) (option_map_or parts_of found []) ≡ option_map_or numbers_named found []
parts-named None is = absurd (cc)
parts-named (Some (Clause clause hints)) is = absurd (cc)
parts-named (Some (Linear parts divisor)) is = refl

-- what a clause names are its hints
pub noted-clause : (limit k : ℕ) (log : List Step) (hints : List ℕ) (old new : List Bool) → kind_at log k ≡ kinds.Clause
    → hints ≡ hints_at log k → AreNoted limit hints old new → AreNoted limit (named_at log k) old new
noted-clause limit k log hints old new kind are noted =
    subst (λ (ns : List ℕ). AreNoted limit ns old new) (are ∙ hints-named (slice_get log k) kind) noted

-- what a sum names are the rows of its parts
pub noted-sum : (limit k : ℕ) (log : List Step) (parts : List Part) (old new : List Bool) → kind_at log k ≡ kinds.Linear
    → parts ≡ parts_at log k → AreNoted limit (map (λ p. p.row) parts) old new → AreNoted limit (named_at log k) old new
noted-sum limit k log parts old new kind are noted =
    subst (λ (ns : List ℕ). AreNoted limit ns old new)
    (ap (λ (ps : List Part). map (λ (p : Part). p.row) ps) are ∙ parts-named (slice_get log k) kind) noted

here : (new old below is : Bool) → new ≡ true → below ≡ true → is ≡ true → new ≡ (old || (below && (is || false)))
here new true below is made under holds = made
here new false true true made under holds = made
here new false true false made under holds = absurd (cc)
here new false false is made under holds = absurd (cc)

elsewhere : (new old below is : Bool) → new ≡ old → is ≡ false → new ≡ (old || (below && (is || false)))
elsewhere new true below is same fails = same
elsewhere new false true true same fails = absurd (cc)
elsewhere new false true false same fails = same
elsewhere new false false is same fails = same

above : (old below is : Bool) → below ≡ false → old ≡ (old || (below && (is || false)))
above true below is past = refl
above false true is past = absurd (cc)
above false false is past = refl

-- one number, which lies below the limit
pub noted-one : (limit number : ℕ) (flags : List Bool) → limit ≤ length flags → 0 < number → number ≤ limit
    → AreNoted limit (number ∷ []) flags (set flags (number - 1) true)
noted-one limit number flags room some under = record {
  long = length-set flags (number - 1) true;
  each = λ place.
      let old : Bool = get_or flags place false in
      let new : Bool = get_or (set flags (number - 1) true) place false in
      let below : Bool = nat_lt place limit in
      let is : Bool = number == (place + 1) in
      elim (cases_Bool is) [
        | inl holds ↦
            let same : place ≡ number - 1 = omega (arith, eqb-true number (place + 1) holds) in
            here new old below is
            (ap (λ (p : ℕ). get_or (set flags (number - 1) true) p false) same
            ∙ get_or-set_same flags (number - 1) true false (omega (arith, some, under, room)))
            (lt-ltb place limit (omega (arith, same, some, under))) holds
        | inr fails ↦
            let other : place ≢ number - 1 = λ same. eqb-false number (place + 1) fails (omega (arith, same, some)) in
            elsewhere new old below is (get_or-set_other flags (number - 1) place true false other) fails
      ];
}

-- one number past the limit
pub noted-past : (limit number : ℕ) (flags : List Bool) → limit < number → AreNoted limit (number ∷ []) flags flags
noted-past limit number flags outside = record {
  long = refl;
  each = λ place.
      let old : Bool = get_or flags place false in
      let below : Bool = nat_lt place limit in
      let is : Bool = number == (place + 1) in
      elim (cases_Bool is) [
        | inl holds ↦ above old below is (le-ltb place limit (omega (arith, eqb-true number (place + 1) holds, outside)))
        | inr fails ↦ elsewhere old old below is refl fails
      ];
}

-- no row and no step has the number 0
pub noted-zero : (limit number : ℕ) (flags : List Bool) → number ≡ 0 → AreNoted limit (number ∷ []) flags flags
noted-zero limit number flags zeroth = record {
  long = refl;
  each = λ place.
      let old : Bool = get_or flags place false in
      let below : Bool = nat_lt place limit in
      let is : Bool = number == (place + 1) in
      elim (cases_Bool is) [
        | inl holds ↦ absurd (omega (arith, eqb-true number (place + 1) holds, zeroth))
        | inr fails ↦ elsewhere old old below is refl fails
      ];
}

-- ---- the walk back over the steps

-- the steps from a place on are gone through
pub record IsMarking (rows : ℕ) (log : List Step) (from : ℕ) (flags : List Bool) : Type 0 where
  pub long : length flags ≡ rows + length log
  pub sound : (place : ℕ) → get_or flags place false ≡ true → IsUsed rows log (place + 1)
  pub last : (place : ℕ) → 0 < length log → place + 1 ≡ rows + length log → get_or flags place false ≡ true
  pub closed : (k place : ℕ) → from ≤ k → k < length log → get_or flags (rows + k) false ≡ true → place < rows + k
      → is_in (place + 1) (named_at log k) ≡ true → get_or flags place false ≡ true

none_set : (count place : ℕ) → get_or (replicate count false) place false ≡ false
none_set count place = elim (cases_Bool (nat_lt place count)) [
  | inl within ↦ get_or-replicate count place false false (ltb-true place count within)
  | inr past ↦ get_or_past (replicate count false) place false (omega (arith, ltb-false place count past, length-replicate count false))
]

-- before the walk the last step is marked, if there is one
pub marking-none : (rows : ℕ) (log : List Step) (count : ℕ) (flags : List Bool) → count ≡ rows + length log
    → length log ≡ 0 → flags ≡ replicate count false → IsMarking rows log (length log) flags
marking-none rows log count flags all none are = record {
  long = ap (λ (bs : List Bool). length bs) are ∙ length-replicate count false ∙ all;
  sound = λ place is.
      let unset : get_or flags place false ≡ false =
      ap (λ (bs : List Bool). get_or bs place false) are ∙ none_set count place in
      absurd (cc);
  last = λ place some end. absurd (omega (arith, none, some));
  closed = λ k place from within. absurd (omega (arith, from, within));
}

pub marking-last : (rows : ℕ) (log : List Step) (count : ℕ) (flags : List Bool) → count ≡ rows + length log
    → 0 < length log → flags ≡ set (replicate count false) (count - 1) true → IsMarking rows log (length log) flags
marking-last rows log count flags all some are = record {
  long = ap (λ (bs : List Bool). length bs) are ∙ length-set (replicate count false) (count - 1) true
      ∙ length-replicate count false ∙ all;
  sound = λ place is.
      elim (cases_Bool (place == (count - 1))) [
        | inl holds ↦
            let same : place ≡ count - 1 = eqb-true place (count - 1) holds in
            is_last (place + 1) some (omega (arith, same, all, some))
        | inr fails ↦
            let other : place ≢ count - 1 = eqb-false place (count - 1) fails in
            let unset : get_or flags place false ≡ false =
            ap (λ (bs : List Bool). get_or bs place false) are
            ∙ get_or-set_other (replicate count false) (count - 1) place true false other ∙ none_set count place in
            absurd (cc)
      ];
  last = λ place more end.
      let same : place ≡ count - 1 = omega (arith, all, end) in
      ap (λ (bs : List Bool). get_or bs place false) are
      ∙ ap (λ (p : ℕ). get_or (set (replicate count false) (count - 1) true) p false) same
      ∙ get_or-set_same (replicate count false) (count - 1) true false
      (omega (arith, length-replicate count false, all, some));
  closed = λ k place from within. absurd (omega (arith, from, within));
}

was_or_is : (new old below is : Bool) → new ≡ (old || (below && is)) → new ≡ true
    → (old ≡ true) ⊎ ((below ≡ true) × (is ≡ true))
was_or_is new true below is made holds = inl refl
was_or_is new false true true made holds = inr (refl, refl)
was_or_is new false true false made holds = absurd (cc)
was_or_is new false false is made holds = absurd (cc)

stays : (new old below is : Bool) → new ≡ (old || (below && is)) → old ≡ true → new ≡ true
stays new true below is made holds = made
stays new false below is made holds = absurd (cc)

joins : (new old below is : Bool) → new ≡ (old || (below && is)) → below ≡ true → is ≡ true → new ≡ true
joins new true below is made under holds = made
joins new false true true made under holds = made
joins new false true false made under holds = absurd (cc)
joins new false false is made under holds = absurd (cc)

untouched : (new old below is : Bool) → new ≡ (old || (below && is)) → below ≡ false → new ≡ old
untouched new true below is made past = made
untouched new false true is made past = absurd (cc)
untouched new false false is made past = made

-- a step that is used: what it names is too
pub marking-step : (rows : ℕ) (log : List Step) (from k : ℕ) (flags new : List Bool) → IsMarking rows log from flags
    → from ≡ k + 1 → k < length log → get_or flags (rows + k) false ≡ true
    → AreNoted (rows + k) (named_at log k) flags new → IsMarking rows log k new
marking-step rows log from k flags new is next within used noted =
    let limit : ℕ = rows + k in
    let names : List ℕ = named_at log k in
    let kept : (place : ℕ) → get_or flags place false ≡ true → get_or new place false ≡ true =
    λ place. stays (get_or new place false) (get_or flags place false) (nat_lt place limit) (is_in (place + 1) names) (noted.each place) in
    record {
      long = noted.long ∙ is.long;
      sound = λ place set.
          elim (was_or_is (get_or new place false) (get_or flags place false) (nat_lt place limit) (is_in (place + 1) names) (noted.each place) set) [
            | inl old ↦ is.sound place old
            | inr made ↦
                let below : place < limit = ltb-true place limit made.0 in
                is_named k (place + 1) (is.sound (rows + k) used) (Contains-from_is_in (place + 1) names made.1)
                (omega (arith, below))
          ];
      last = λ place some end. kept place (is.last place some end);
      closed = λ j place order inside set below named.
          elim (cases_Bool (j == k)) [
            | inl holds ↦
                let same : j ≡ k = eqb-true j k holds in
                joins (get_or new place false) (get_or flags place false) (nat_lt place limit) (is_in (place + 1) names) (noted.each place)
                (lt-ltb place limit (omega (arith, same, below)))
                (ap (λ (i : ℕ). is_in (place + 1) (named_at log i)) (sym same) ∙ named)
            | inr fails ↦
                let other : j ≢ k = eqb-false j k fails in
                let later : from ≤ j = omega (arith, order, other, next) in
                let past : nat_lt (rows + j) limit ≡ false = le-ltb (rows + j) limit (omega (arith, order)) in
                let before : get_or flags (rows + j) false ≡ true =
                sym (untouched (get_or new (rows + j) false) (get_or flags (rows + j) false) (nat_lt (rows + j) limit)
                (is_in (rows + j + 1) names) (noted.each (rows + j)) past) ∙ set in
                kept place (is.closed j place later inside before below named)
          ];
    }

-- a step that is not used
pub marking-pass : (rows : ℕ) (log : List Step) (from k : ℕ) (flags : List Bool) → IsMarking rows log from flags
    → from ≡ k + 1 → get_or flags (rows + k) false ≡ false → IsMarking rows log k flags
marking-pass rows log from k flags is next unused = record {
  long = is.long;
  sound = is.sound;
  last = is.last;
  closed = λ j place order inside set below named.
      elim (cases_Bool (j == k)) [
        | inl holds ↦
            let same : j ≡ k = eqb-true j k holds in
            let unset : get_or flags (rows + j) false ≡ false =
            ap (λ (i : ℕ). get_or flags (rows + i) false) same ∙ unused in
            absurd (cc)
        | inr fails ↦
            let other : j ≢ k = eqb-false j k fails in
            let later : from ≤ j = omega (arith, order, other, next) in
            is.closed j place later inside set below named
      ];
}

-- a step that is used, with the steps counted that are gone through
pub marked-used : (rows : ℕ) (log : List Step) (steps done k : ℕ) (flags new : List Bool)
    → IsMarking rows log (steps - done) flags → steps ≡ length log → done < steps → k ≡ steps - 1 - done
    → get_or flags (rows + k) false ≡ true → AreNoted (rows + k) (named_at log k) flags new
    → IsMarking rows log (steps - (done + 1)) new
marked-used rows log steps done k flags new is all more at used noted =
    subst (λ (j : ℕ). IsMarking rows log j new) (omega arith)
    (marking-step rows log (steps - done) k flags new is (omega arith) (omega arith) used noted)

pub marked-unused : (rows : ℕ) (log : List Step) (steps done k : ℕ) (flags : List Bool)
    → IsMarking rows log (steps - done) flags → done < steps → k ≡ steps - 1 - done
    → get_or flags (rows + k) false ≡ false → IsMarking rows log (steps - (done + 1)) flags
marked-unused rows log steps done k flags is more at unused =
    subst (λ (j : ℕ). IsMarking rows log j flags) (omega arith)
    (marking-pass rows log (steps - done) k flags is (omega arith) unused)

-- ---- at the end of the walk

names-there : (log : List Step) (k number : ℕ) → Contains (named_at log k) number → k < length log
names-there [] k number named = absurd (omega (arith, named.1))
names-there (step ∷ log) zero number named = omega arith
names-there (step ∷ log) (suc k) number named = omega (arith, names-there log k number named)

itself : (x : ℕ) → (x == x) ≡ true
itself x = grind (arith, nat_tests)

in-from_Contains : (x : ℕ) (xs : List ℕ) → Contains xs x → is_in x xs ≡ true
in-from_Contains x xs there =
    list_any-from_Any (λ (y : ℕ). y == x) xs (there.0, x, there.1, there.2, itself x)

all_used : (rows : ℕ) (log : List Step) (flags : List Bool) → IsMarking rows log 0 flags → {number : ℕ}
    → IsUsed rows log number → (place : ℕ) → number ≡ place + 1 → get_or flags place false ≡ true
all_used rows log flags is (is_last number some end) place same = is.last place some (sym same ∙ end)
all_used rows log flags is (is_named k number used names within) place same =
    is.closed k place (omega arith) (names-there log k number names)
    (all_used rows log flags is used (rows + k) refl) (omega (arith, same, within))
    (in-from_Contains (place + 1) (named_at log k) (subst (λ (x : ℕ). Contains (named_at log k) x) same names))

pub all_marked : (rows : ℕ) (log : List Step) (from : ℕ) (flags : List Bool) → IsMarking rows log from flags → from ≡ 0
    → IsMarked rows log flags
all_marked rows log from flags is gone =
    let at_end : IsMarking rows log 0 flags = subst (λ (k : ℕ). IsMarking rows log k flags) gone is in
    record {
      long = is.long;
      sound = is.sound;
      complete = λ place used. all_used rows log flags at_end used place refl;
    }
