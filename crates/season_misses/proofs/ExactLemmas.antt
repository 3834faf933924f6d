-- Of the classes whose entries are single numbers of games, a game counts for an entry exactly where it touches its key.
use Rattle.std.proofs.Common.{◌≡◌, ℕ, ◌+◌, ◌-◌, ◌<◌, ◌≤◌, zero, suc, Bool, true, false, ◌&&◌, cond, List, [], ◌∷◌, length, get_or, refl, arith, ap, subst, sym, ◌∙◌, inl, inr, Contains}
use Rattle.std.proofs.Math.Path.{fun_ext}
use Rattle.std.proofs.lemmas.Bool.{cases_Bool, cond_both}
use Rattle.std.proofs.lemmas.List.{get_or_default}
use Rattle.std.proofs.lemmas.List.Elements.{All-cons, All-nil, All-weaker}
use Rattle.std.specs.List.{All, filter}
use Rattle.std.specs.Prelude.{nat_lt}
use Rattle.league.specs.Bounds.{outside}
use Rattle.league.specs.Capacity.{is_between}
use Rattle.league.specs.Deviation.{spans}
use Rattle.league.specs.Sets.{is_in}
use Rattle.league.specs.declared.class.Class.{Class}
use Rattle.league.specs.declared.class.Class.TheVariants.{Ca1, Ca2, Ca3, Ca4, Ga1, Br1, Br2, Fa2, Se1}
use Rattle.league.specs.declared.game.Game.{Game}
use Rattle.league.proofs.MemberLemmas.{is_in-no, is_in-yes}
use Rattle.rule_core.specs.Meetings.{is_listed}
use Rattle.rule_core.specs.Keys.{keys_where, places_from}
use Rattle.rule_core.proofs.KeyLemmas.{places_from-has}
use Rattle.rule_core.specs.Touched.{plays_against, plays_on, touched_keys}
use Rattle.season_misses.specs.Counting.{counts_in_ca1, counts_in_ca2, counts_in_ca4, counts_in_ga1}
use Rattle.season_misses.specs.Laws.{ListAllTouching, games_in}
use Rattle.season_misses.specs.Reasons.{where_missed}
use Rattle.season_misses.specs.declared.reason.Cause.TheVariants.{Games}
use Rattle.season_misses.specs.declared.reason.Reason.{Reason}

-- each place, counted from start on, is that of an element that passes
record IsPassing {X : Type 0} (start : ℕ) (test : X → Bool) (xs : List X) (place : ℕ) : Type 0 where
  from : start ≤ place
  passes : (d : X) → test (get_or xs (place - start) d) ≡ true

later : {X : Type 0} (start : ℕ) (test : X → Bool) (x : X) (xs : List X) (place : ℕ) → IsPassing (start + 1) test xs place → IsPassing start test (x ∷ xs) place
later start test x xs place is =
    let le : start + 1 ≤ place = is.from in
    record {
      from = omega arith;
      passes = λ d.
          let next : place - start ≡ suc (place - (start + 1)) = omega arith in
          ap (λ (k : ℕ). test (get_or (x ∷ xs) k d)) next ∙ is.passes d;
    }

first : {X : Type 0} (start : ℕ) (test : X → Bool) (x : X) (xs : List X) → test x ≡ true → IsPassing start test (x ∷ xs) start
first start test x xs passes =
    let here : start - start ≡ 0 = omega arith in
    record {
      from = omega arith;
      passes = λ d. ap (λ (k : ℕ). test (get_or (x ∷ xs) k d)) here ∙ passes;
    }

places_from-pass : {X : Type 0} (start : ℕ) (test : X → Bool) (xs : List X) → All (IsPassing start test xs) (places_from start test xs)
places_from-pass start test [] = All-nil (IsPassing start test [])
places_from-pass start test (x ∷ xs) =
    let rest : All (IsPassing start test (x ∷ xs)) (places_from (start + 1) test xs) = All-weaker (IsPassing (start + 1) test xs) (IsPassing start test (x ∷ xs)) (later start test x xs) (places_from (start + 1) test xs) (places_from-pass (start + 1) test xs) in
    cond_both (test x) (start ∷ places_from (start + 1) test xs) (places_from (start + 1) test xs) (λ ks. All (IsPassing start test (x ∷ xs)) ks)
    (λ e. All-cons (IsPassing start test (x ∷ xs)) start (places_from (start + 1) test xs) (first start test x xs e) rest)
    (λ e. rest)

-- a key is there exactly where its element passes
is_in-keys_where : {X : Type 0} (test : X → Bool) (xs : List X) (k : ℕ) (d : X) → k < length xs → is_in k (keys_where test xs) ≡ test (get_or xs k d)
is_in-keys_where test xs k d inside =
    elim (cases_Bool (test (get_or xs k d))) [
      | inl passes ↦
          let here : 0 + k ≡ k = omega arith in
          let has : Contains (keys_where test xs) k = subst (λ (j : ℕ). Contains (keys_where test xs) j) here (places_from-has 0 test xs k d inside passes) in
          is_in-yes k (keys_where test xs) has.0 has.1 (get_or_default (keys_where test xs) has.0 0 k has.1 ∙ has.2) ∙ sym passes
      | inr fails ↦
          is_in-no k (keys_where test xs)
          (λ j e lt same.
          let is : IsPassing 0 test xs (get_or (keys_where test xs) j e) = places_from-pass 0 test xs j e lt in
          let at : get_or (keys_where test xs) j e - 0 ≡ k = omega arith in
          let passes : test (get_or xs k d) ≡ true = sym (ap (λ (i : ℕ). test (get_or xs i d)) at) ∙ is.passes d in
          absurd (cc))
          ∙ sym fails
    ]

is_in-under : (b : Bool) (ks : List ℕ) (k : ℕ) → is_in k (cond b ks []) ≡ (is_in k ks && b)
is_in-under true ks k = elim (cases_Bool (is_in k ks)) [
  | inl there ↦ there ∙ sym (ap (λ (x : Bool). x && true) there)
  | inr not_there ↦ not_there ∙ sym (ap (λ (x : Bool). x && true) not_there)
]
is_in-under false ks k = elim (cases_Bool (is_in k ks)) [
  | inl there ↦ sym (ap (λ (x : Bool). x && false) there)
  | inr not_there ↦ sym (ap (λ (x : Bool). x && false) not_there)
]

turned : (a b : Bool) → (a && b) ≡ (b && a)
turned true true = refl
turned true false = refl
turned false true = refl
turned false false = refl

-- ---- class by class

-- a reason lists the games that touch the key
abbrev IsExact : List Game → Class → ℕ → Reason → Type 0
IsExact games class key reason = games_in reason.cause ≡ filter (λ g. is_in key (touched_keys class g)) games

exact-where : (games counted : List Game) (class : Class) (key amount : ℕ) → counted ≡ filter (λ g. is_in key (touched_keys class g)) games → All (IsExact games class key) (where_missed key amount (Games counted))
exact-where games counted class key amount same =
    let reason : Reason = record { key = key; amount = amount; cause = Games counted } in
    cond_both (nat_lt 0 amount) (reason ∷ []) [] (λ reasons. All (IsExact games class key) reasons)
    (λ e. All-cons (IsExact games class key) reason [] same (All-nil (IsExact games class key)))
    (λ e. All-nil (IsExact games class key))

-- two tests that are the same keep the same games
kept-same : (p q : Game → Bool) (games : List Game) → ((g : Game) → p g ≡ q g) → filter p games ≡ filter q games
kept-same p q games same = ap (λ (test : Game → Bool). filter test games) (fun_ext same)

none_there : (k : ℕ) → k < 1 → is_in k (0 ∷ []) ≡ true
none_there zero inside = refl
none_there (suc k) inside = absurd (omega arith)

pub list_all_touching : (n : ℕ) (games : List Game) (class : Class) → ListAllTouching n games class
list_all_touching n games (Ca1 teams min max side slots) =
    λ one key inside.
    let class : Class = Ca1 teams min max side slots in
    let test : Game → Bool = counts_in_ca1 side slots (get_or teams key 0) in
    exact-where games (filter test games) class key (outside min max (length (filter test games)))
    (kept-same test (λ g. is_in key (touched_keys class g)) games
    (λ g. sym (is_in-under (is_in g.slot.0 slots) (keys_where (plays_on side g) teams) key ∙ ap (λ (b : Bool). b && is_in g.slot.0 slots) (is_in-keys_where (plays_on side g) teams key 0 inside))))
list_all_touching n games (Ca2 teams1 teams2 min max side slots) =
    λ one key inside.
    let class : Class = Ca2 teams1 teams2 min max side slots in
    let test : Game → Bool = counts_in_ca2 teams2 side slots (get_or teams1 key 0) in
    exact-where games (filter test games) class key (outside min max (length (filter test games)))
    (kept-same test (λ g. is_in key (touched_keys class g)) games
    (λ g. sym (is_in-under (is_in g.slot.0 slots) (keys_where (plays_against side teams2 g) teams1) key ∙ ap (λ (b : Bool). b && is_in g.slot.0 slots) (is_in-keys_where (plays_against side teams2 g) teams1 key 0 inside))))
list_all_touching n games (Ca4 teams1 teams2 min max side span slots) =
    λ one key inside.
    let class : Class = Ca4 teams1 teams2 min max side span slots in
    let test : Game → Bool = counts_in_ca4 teams1 teams2 side (get_or (spans span slots) key []) in
    exact-where games (filter test games) class key (outside min max (length (filter test games)))
    (kept-same test (λ g. is_in key (touched_keys class g)) games
    (λ g.
    let between : Bool = is_between side teams1 teams2 (g.home.0, g.away.0) in
    sym (is_in-under between (keys_where (is_in g.slot.0) (spans span slots)) key
    ∙ ap (λ (b : Bool). b && between) (is_in-keys_where (is_in g.slot.0) (spans span slots) key [] inside)
    ∙ turned (is_in g.slot.0 (get_or (spans span slots) key [])) between)))
list_all_touching n games (Ga1 meetings min max slots) =
    λ one key inside.
    let class : Class = Ga1 meetings min max slots in
    let test : Game → Bool = counts_in_ga1 meetings slots in
    exact-where games (filter test games) class key (outside min max (length (filter test games)))
    (kept-same test (λ g. is_in key (touched_keys class g)) games
    (λ g.
    let counts : Bool = is_listed meetings g.home.0 g.away.0 && is_in g.slot.0 slots in
    sym (is_in-under counts (0 ∷ []) key ∙ ap (λ (b : Bool). b && counts) (none_there key inside))))
list_all_touching n games (Ca3 teams1 teams2 min max intp side) = λ one. absurd (cc)
list_all_touching n games (Br1 teams intp side slots) = λ one. absurd (cc)
list_all_touching n games (Br2 teams intp slots) = λ one. absurd (cc)
list_all_touching n games (Fa2 teams intp slots) = λ one. absurd (cc)
list_all_touching n games (Se1 teams min) = λ one. absurd (cc)
