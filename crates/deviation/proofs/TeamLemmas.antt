-- What a team's games with each of some later teams lack, with the games of one slot more.
use Rattle.std.proofs.Common.{◌≡◌, ◌≢◌, ℕ, ◌+◌, ◌-◌, ◌*◌, ◌<◌, ◌≤◌, Bool, true, false, ◌||◌, ◌==◌, rules}
use Rattle.std.proofs.Common.{nat_lt, List, [], ◌∷◌, ◌++◌, length, get_or, map, drop, replicate, refl, arith, ap, sym}
use Rattle.std.proofs.Common.{◌∙◌, suc, below_more, inl, inr, subst, Option, Some, None, cond}
use Rattle.std.proofs.lemmas.Bool.{cases_eq}
use Rattle.std.proofs.lemmas.Bool.Decides.{nat_tests}
use Rattle.std.proofs.lemmas.List.{append_assoc, get_or_default, length-append, length-map, map-append}
use Rattle.std.specs.List.{All, flat_map, range_with_len}
use Rattle.std.specs.Option.{IfSome, option_to_list}
use Rattle.std.specs.Ordering.{nat_cmp}
use Rattle.league.specs.Counts.{Counts, slot_count}
use Rattle.league.specs.Meetings.{pairs_of}
use Rattle.league.specs.Separation.{lacking, se1_entry}
use Rattle.league.specs.Sets.{IsAscending}
use Rattle.league.proofs.SetLemmas.{less_than}
use Rattle.rule_core.specs.Places.{hosts, visits}
use Rattle.rule_core.specs.declared.place.Place.{Place}
use Rattle.rule_core.specs.declared.place.Place.TheVariants.{Away, Free, Home}
use Rattle.league.specs.declared.game.TeamId.{TeamId}
use Rattle.deviation.specs.TeamGaps.{AreSummed, IsKept, IsPlaceOf, IsSummed, games_from, last_before}
use Rattle.deviation.specs.declared.team_gaps.TeamGaps.{TeamGaps}
use Rattle.rule_core.proofs.KeyLemmas.{ascending-tail}
use Rattle.deviation.proofs.GapLemmas.{slot_free, slot_played}

-- the last game, where there is one, and where there is none
pub last_before-some : (s : ℕ) → last_before (s + 1) ≡ Some s
last_before-some s = let less : s + 1 - 1 ≡ s = omega arith in
    let some : nat_lt 0 (s + 1) ≡ true = grind (arith, nat_tests) in rw some (ap (λ (k : ℕ). Some k) less)

positive : (k : ℕ) → nat_lt 0 k ≡ true → 0 < k
positive k passes = grind (arith, nat_tests)

some_before : (b : Bool) (next slot : ℕ) → (b ≡ true → 0 < next) → next ≤ slot
    → IfSome (cond b (Some (next - 1)) None) (λ before. before < slot)
some_before true next slot some le = let more : 0 < next = some refl in omega arith
some_before false next slot some le = search rules

pub last_before-slot : (next slot : ℕ) → next ≤ slot → IfSome (last_before next) (λ before. before < slot)
last_before-slot next slot le = some_before (nat_lt 0 next) next slot (positive next) le

-- with the games of the pair in the slot
pub summed-played : (n : ℕ) (m : Counts) (min i slot : ℕ) (before after : TeamGaps) (j games more : ℕ)
    → slot < slot_count n → 0 < games → games ≡ m i j slot + m j i slot
    → more ≡ lacking min (option_to_list (last_before (get_or before.next j 0)) ++ replicate games slot)
    → get_or after.totals j 0 ≡ get_or before.totals j 0 + more → get_or after.next j 0 ≡ slot + 1
    → IsSummed n m min i slot before j → IsSummed n m min i (slot + 1) after j
summed-played n m min i slot before after j games more inside some counted is total next so_far =
    let count : ℕ → ℕ = λ s. m i j s + m j i s in
    let last = last_before (get_or before.next j 0) in
    let here = last_before (get_or after.next j 0) in
    let now : here ≡ Some slot = ap last_before next ∙ last_before-some slot in
    ap (λ (t : ℕ). t + lacking min (option_to_list here ++ games_from n m i j (slot + 1))) total
    ∙ slot_played min count slot (slot_count n) games (get_or before.totals j 0) more
    (se1_entry n m min (i, j)) last here inside some counted is so_far now

-- without
pub summed-free : (n : ℕ) (m : Counts) (min i slot : ℕ) (before after : TeamGaps) (j : ℕ) → slot < slot_count n
    → m i j slot + m j i slot ≡ 0
    → (get_or after.next j 0 ≡ get_or before.next j 0) × (get_or after.totals j 0 ≡ get_or before.totals j 0)
    → IsSummed n m min i slot before j → IsSummed n m min i (slot + 1) after j
summed-free n m min i slot before after j inside none same so_far =
    let count : ℕ → ℕ = λ s. m i j s + m j i s in
    let last = last_before (get_or before.next j 0) in
    let nothing : 0 ≡ count slot = omega arith in
    ap (λ (t : ℕ). t + lacking min
    (option_to_list (last_before (get_or after.next j 0)) ++ games_from n m i j (slot + 1))) same.1
    ∙ ap (λ (k : ℕ). get_or before.totals j 0 + lacking min
    (option_to_list (last_before k) ++ games_from n m i j (slot + 1))) same.0
    ∙ slot_free min count slot (slot_count n) 0 (get_or before.totals j 0)
    (se1_entry n m min (i, j)) last inside (omega arith) nothing so_far

-- a later team is above the first
above_first : (i : ℕ) (later : List ℕ) → IsAscending nat_cmp (i ∷ later) → All (λ j. i < j) later
above_first i later ascending k d lt =
    less_than i (get_or later k d) (ascending 0 (suc k) d (omega arith) (omega arith))

-- of a slot in which the team meets one other alone, which counts where it is a later one
pub summed-one : (n : ℕ) (m : Counts) (min i slot : ℕ) (before after : TeamGaps) (other : ℕ) (later : List ℕ)
    → slot < slot_count n → IsAscending nat_cmp (i ∷ later)
    → ((j : ℕ) → j ≢ other → m i j slot + m j i slot ≡ 0)
    → ((j : ℕ) → j ≢ other
    → (get_or after.next j 0 ≡ get_or before.next j 0) × (get_or after.totals j 0 ≡ get_or before.totals j 0))
    → (i < other → IsSummed n m min i slot before other → IsSummed n m min i (slot + 1) after other)
    → AreSummed n m min i slot later before → AreSummed n m min i (slot + 1) later after
summed-one n m min i slot before after other later inside ascending none same here so_far k d lt =
    elim (cases_eq (get_or later k d) other) [
      | inl is ↦
          let above : i < other = omega (arith, is, above_first i later ascending k d lt) in
          subst (λ (j : ℕ). IsSummed n m min i (slot + 1) after j) (sym is)
          (here above (subst (λ (j : ℕ). IsSummed n m min i slot before j) is (so_far k d lt)))
      | inr differ ↦
          let j : ℕ = get_or later k d in
          summed-free n m min i slot before after j inside (none j differ) (same j differ) (so_far k d lt)
    ]

-- before all games
pub summed-none : (n : ℕ) (m : Counts) (min i : ℕ) (gaps : TeamGaps) (later : List ℕ)
    → ((j : ℕ) → get_or gaps.next j 0 ≡ 0) → ((j : ℕ) → get_or gaps.totals j 0 ≡ 0)
    → AreSummed n m min i 0 later gaps
summed-none n m min i gaps later next totals at d lt =
    let j : ℕ = get_or later at d in
    let whole : slot_count n - 0 ≡ slot_count n = omega arith in
    ap (λ (t : ℕ). t + lacking min (option_to_list (last_before (get_or gaps.next j 0)) ++ games_from n m i j 0))
    (totals j)
    ∙ ap (λ (k : ℕ). 0 + lacking min (option_to_list (last_before k) ++ games_from n m i j 0)) (next j)
    ∙ ap (λ (k : ℕ). 0 + lacking min (flat_map (λ s. replicate (m i j s + m j i s) s) (range_with_len 0 k))) whole
    ∙ omega arith

-- nothing is lacking behind all games
nothing_after : (min : ℕ) (last : Option ℕ) → lacking min (option_to_list last ++ []) ≡ 0
nothing_after min None = refl
nothing_after min (Some s) = refl

pub summed-all : (n : ℕ) (m : Counts) (min i slot : ℕ) (gaps : TeamGaps) (j : ℕ) → slot ≡ slot_count n
    → IsSummed n m min i slot gaps j → get_or gaps.totals j 0 ≡ se1_entry n m min (i, j)
summed-all n m min i slot gaps j is summed =
    let last = last_before (get_or gaps.next j 0) in
    let empty : slot_count n - slot ≡ 0 = omega arith in
    let rest : lacking min (option_to_list last ++ games_from n m i j slot) ≡ 0 =
    ap (λ (k : ℕ). lacking min
    (option_to_list last ++ flat_map (λ s. replicate (m i j s + m j i s) s) (range_with_len slot k))) empty
    ∙ nothing_after min last in
    omega (arith, summed, rest)

-- what is lacking stays, where the team's places stay
pub summed-kept : (n : ℕ) (m : Counts) (min i slot : ℕ) (before after : TeamGaps) (j : ℕ)
    → (get_or after.next j 0 ≡ get_or before.next j 0) × (get_or after.totals j 0 ≡ get_or before.totals j 0)
    → IsSummed n m min i slot before j → IsSummed n m min i slot after j
summed-kept n m min i slot before after j same so_far =
    ap (λ (t : ℕ). t + lacking min
    (option_to_list (last_before (get_or after.next j 0)) ++ games_from n m i j slot)) same.1
    ∙ ap (λ (k : ℕ). get_or before.totals j 0 + lacking min
    (option_to_list (last_before k) ++ games_from n m i j slot)) same.0
    ∙ so_far

-- what is of the slots before one is of those before the next
pub kept-next : (slot : ℕ) (gaps : TeamGaps) → IsKept slot gaps → IsKept (slot + 1) gaps
kept-next slot gaps kept = record {
  next = kept.next;
  totals = kept.totals;
  before = λ j. omega (arith, kept.before j);
  bounded = λ j. omega (arith, kept.bounded j);
}

-- with what is changed of one team
pub kept-changed : (slot : ℕ) (before after : TeamGaps) (other : ℕ) → length after.next ≡ 40 → length after.totals ≡ 40
    → get_or after.next other 0 ≤ slot → get_or after.totals other 0 ≤ 20000 * 4294967296 * slot
    → ((j : ℕ) → j ≢ other
    → (get_or after.next j 0 ≡ get_or before.next j 0) × (get_or after.totals j 0 ≡ get_or before.totals j 0))
    → IsKept slot before → IsKept slot after
kept-changed slot before after other next totals le bounded same kept = record {
  next = next;
  totals = totals;
  before = λ j. elim (cases_eq j other) [
    | inl is ↦ omega (arith, le, ap (λ (k : ℕ). get_or after.next k 0) is)
    | inr differ ↦ omega (arith, (same j differ).0, kept.before j)
  ];
  bounded = λ j. elim (cases_eq j other) [
    | inl is ↦ omega (arith, bounded, ap (λ (k : ℕ). get_or after.totals k 0) is)
    | inr differ ↦ omega (arith, (same j differ).1, kept.bounded j)
  ];
}

-- later teams that are gone over one by one: those before a place have the slot, and the others are as they were
pub record AreDone (n : ℕ) (m : Counts) (min i slot place : ℕ) (later : List ℕ) (first now : TeamGaps) : Type 0 where
  pub kept : IsKept (slot + 1) now
  pub done : (k : ℕ) → k < place → IsSummed n m min i (slot + 1) now (get_or later k 0)
  pub left : (k : ℕ) → place ≤ k → k < length later
      → (get_or now.next (get_or later k 0) 0 ≡ get_or first.next (get_or later k 0) 0)
      × (get_or now.totals (get_or later k 0) 0 ≡ get_or first.totals (get_or later k 0) 0)

-- at first
pub AreDone-none : (n : ℕ) (m : Counts) (min i slot : ℕ) (later : List ℕ) (gaps : TeamGaps) → IsKept slot gaps
    → AreDone n m min i slot 0 later gaps gaps
AreDone-none n m min i slot later gaps kept = record {
  kept = kept-next slot gaps kept;
  done = λ k lt. absurd (omega arith);
  left = λ k le lt. (refl, refl);
}

-- an earlier number of an ascending list is another
earlier_differs : (xs : List ℕ) (k i : ℕ) → IsAscending nat_cmp xs → k < i → i < length xs
    → get_or xs k 0 ≢ get_or xs i 0
earlier_differs xs k i ascending before within same =
    absurd (omega (arith, same, less_than (get_or xs k 0) (get_or xs i 0) (ascending k i 0 before within)))

-- with the next one
pub AreDone-next : (n : ℕ) (m : Counts) (min i slot place : ℕ) (later : List ℕ) (first before after : TeamGaps)
    → IsAscending nat_cmp (i ∷ later) → place < length later → IsKept (slot + 1) after
    → ((j : ℕ) → j ≢ get_or later place 0
    → (get_or after.next j 0 ≡ get_or before.next j 0) × (get_or after.totals j 0 ≡ get_or before.totals j 0))
    → IsSummed n m min i (slot + 1) after (get_or later place 0)
    → AreDone n m min i slot place later first before → AreDone n m min i slot (place + 1) later first after
AreDone-next n m min i slot place later first before after ascending inside kept same here so_far =
    let ordered : IsAscending nat_cmp later = ascending-tail i later ascending in
    record {
      kept = kept;
      done = below_more (λ k. IsSummed n m min i (slot + 1) after (get_or later k 0)) place
          (λ k lt. summed-kept n m min i (slot + 1) before after (get_or later k 0)
          (same (get_or later k 0) (earlier_differs later k place ordered lt inside)) (so_far.done k lt)) here;
      left = λ k le lt.
          let now = same (get_or later k 0) (λ is. earlier_differs later place k ordered (omega arith) lt (sym is)) in
          let old = so_far.left k (omega arith) lt in
          (now.0 ∙ old.0, now.1 ∙ old.1);
    }

-- what is done with all later teams
pub AreDone-all : (n : ℕ) (m : Counts) (min i slot : ℕ) (later : List ℕ) (first now : TeamGaps)
    → AreDone n m min i slot (length later) later first now → AreSummed n m min i (slot + 1) later now
AreDone-all n m min i slot later first now done k d lt =
    subst (λ (j : ℕ). IsSummed n m min i (slot + 1) now j) (get_or_default later k 0 d lt) (done.done k lt)

-- ---- by the team's place

place_itself : (o : ℕ) → (o == o) ≡ true
place_itself o = grind (arith, nat_tests)

place_other : (o j : ℕ) → j ≢ o → cond {A = ℕ} (o == j) 1 0 ≡ 0
place_other o j differ = grind (arith, nat_tests)

with_true : (b : Bool) → (b || true) ≡ true
with_true true = refl
with_true false = refl

-- the one team of a place
pub home_is : (place : Place) (other : TeamId) → place ≡ Home other
    → (hosts place other.0 || visits place other.0) ≡ true
home_is place other is = ap (λ (p : Place). hosts p other.0 || visits p other.0) is
    ∙ ap (λ (b : Bool). b || false) (place_itself other.0)

pub away_is : (place : Place) (other : TeamId) → place ≡ Away other
    → (hosts place other.0 || visits place other.0) ≡ true
away_is place other is = ap (λ (p : Place). hosts p other.0 || visits p other.0) is ∙ place_itself other.0

-- no games but with it
pub home_others : (m : Counts) (i slot : ℕ) (place : Place) (other : TeamId) → place ≡ Home other
    → IsPlaceOf m i slot place → (j : ℕ) → j ≢ other.0 → m i j slot + m j i slot ≡ 0
home_others m i slot place other is of j differ =
    let at_home : m i j slot ≡ 0 = of.home j ∙ ap (λ (p : Place). cond {A = ℕ} (hosts p j) 1 0) is
    ∙ place_other other.0 j differ in
    let away : m j i slot ≡ 0 = of.away j ∙ ap (λ (p : Place). cond {A = ℕ} (visits p j) 1 0) is in
    omega arith

pub away_others : (m : Counts) (i slot : ℕ) (place : Place) (other : TeamId) → place ≡ Away other
    → IsPlaceOf m i slot place → (j : ℕ) → j ≢ other.0 → m i j slot + m j i slot ≡ 0
away_others m i slot place other is of j differ =
    let at_home : m i j slot ≡ 0 = of.home j ∙ ap (λ (p : Place). cond {A = ℕ} (hosts p j) 1 0) is in
    let away : m j i slot ≡ 0 = of.away j ∙ ap (λ (p : Place). cond {A = ℕ} (visits p j) 1 0) is
    ∙ place_other other.0 j differ in
    omega arith

-- one game with it
pub home_once : (m : Counts) (i slot : ℕ) (place : Place) (other : TeamId) → place ≡ Home other
    → IsPlaceOf m i slot place → 1 ≡ m i other.0 slot + m other.0 i slot
home_once m i slot place other is of =
    let at_home : m i other.0 slot ≡ 1 = of.home other.0 ∙ ap (λ (p : Place). cond {A = ℕ} (hosts p other.0) 1 0) is
    ∙ ap (λ (b : Bool). cond {A = ℕ} b 1 0) (place_itself other.0) in
    let away : m other.0 i slot ≡ 0 = of.away other.0 ∙ ap (λ (p : Place). cond {A = ℕ} (visits p other.0) 1 0) is in
    omega arith

pub away_once : (m : Counts) (i slot : ℕ) (place : Place) (other : TeamId) → place ≡ Away other
    → IsPlaceOf m i slot place → 1 ≡ m i other.0 slot + m other.0 i slot
away_once m i slot place other is of =
    let at_home : m i other.0 slot ≡ 0 = of.home other.0 ∙ ap (λ (p : Place). cond {A = ℕ} (hosts p other.0) 1 0) is in
    let away : m other.0 i slot ≡ 1 = of.away other.0 ∙ ap (λ (p : Place). cond {A = ℕ} (visits p other.0) 1 0) is
    ∙ ap (λ (b : Bool). cond {A = ℕ} b 1 0) (place_itself other.0) in
    omega arith

-- a free place has no game
pub free_none : (m : Counts) (i slot : ℕ) (place : Place) → place ≡ Free → IsPlaceOf m i slot place
    → (j : ℕ) → m i j slot + m j i slot ≡ 0
free_none m i slot place is of j =
    let at_home : m i j slot ≡ 0 = of.home j ∙ ap (λ (p : Place). cond {A = ℕ} (hosts p j) 1 0) is in
    let away : m j i slot ≡ 0 = of.away j ∙ ap (λ (p : Place). cond {A = ℕ} (visits p j) 1 0) is in
    omega arith

-- ---- the pairs of one team after those of another

map-pairs : (f : ℕ × ℕ → ℕ) (t : ℕ) (xs : List ℕ) → map f (map (λ (j : ℕ). (t, j)) xs) ≡ map (λ j. f (t, j)) xs
map-pairs f t [] = refl
map-pairs f t (x ∷ xs) = ap (λ (ys : List ℕ). f (t, x) ∷ ys) (map-pairs f t xs)

pub pairs_next : (f : ℕ × ℕ → ℕ) (teams later now new whole : List ℕ) (p t : ℕ) → drop p teams ≡ t ∷ later
    → now ++ map f (pairs_of (drop p teams)) ≡ whole → new ≡ now ++ map (λ j. f (t, j)) later
    → new ++ map f (pairs_of later) ≡ whole
pairs_next f teams later now new whole p t is so_far more =
    ap (λ (xs : List ℕ). xs ++ map f (pairs_of later)) more
    ∙ append_assoc now (map (λ j. f (t, j)) later) (map f (pairs_of later))
    ∙ ap (λ (xs : List ℕ). now ++ (xs ++ map f (pairs_of later))) (sym (map-pairs f t later))
    ∙ ap (λ (xs : List ℕ). now ++ xs) (sym (map-append f (map (λ (j : ℕ). (t, j)) later) (pairs_of later)))
    ∙ ap (λ (xs : List ℕ). now ++ map f (pairs_of xs)) (sym is)
    ∙ so_far

pub pairs_left : (teams later : List ℕ) (p t : ℕ) → drop p teams ≡ t ∷ later
    → length (pairs_of (drop p teams)) ≡ length later + length (pairs_of later)
pairs_left teams later p t is =
    omega (
      arith,
      ap (λ (xs : List ℕ). length (pairs_of xs)) is,
      length-append (map (λ (j : ℕ). (t, j)) later) (pairs_of later),
      length-map {B = ℕ × ℕ} later (λ (j : ℕ). (t, j)),
    )
