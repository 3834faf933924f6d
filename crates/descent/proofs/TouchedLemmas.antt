-- The keys that games touch, found one after another.
use Rattle.std.proofs.Common.{◌≡◌, ℕ, ◌+◌, ◌<◌, Bool, true, false, ◌||◌, inl, inr, List, [], ◌∷◌, ◌++◌, length, get_or, take, zero, suc, Some, refl, ap, subst, sym, ◌∙◌, arith, eqb}
use Rattle.std.proofs.lemmas.Bool.{cases_eq, eq-eqb, eqb-true, false≢true, or_cases, or_left, or_right}
use Rattle.std.proofs.lemmas.Bool.Decides.{nat_tests}
use Rattle.std.proofs.lemmas.List.{append_assoc, flat_map_more, take_more}
use Rattle.std.proofs.lemmas.List.Elements.{All-append, All-head, All-tail}
use Rattle.std.proofs.lemmas.Map.Keys.{IsDistinct-head, IsDistinct-tail}
use Rattle.std.proofs.lemmas.Map.Made.{length-from_keys}
use Rattle.std.proofs.lemmas.Option.{get_or_from_slice_get, slice_get_within}
use Rattle.std.specs.List.{All, AllByRecursion, flat_map, IsDistinct, slice_get}
use Rattle.rule_core.specs.Keys.{KeyList}
use Rattle.league.specs.Instance.{IsGame}
use Rattle.league.specs.declared.game.Game.{Game}
use Rattle.rule_core.specs.declared.rule.Entries.{Ghosts}
use Rattle.descent.specs.Bench.{HasFound, HasRoom, HasTouched}
use Rattle.descent.specs.KeySet.{AreAdded, is_in}
use Rattle.descent.specs.Tallies.{touched_count}
use Rattle.descent.specs.declared.bench.Bench.{Bench}
use Rattle.descent.proofs.SetLemmas.{eqb-laws, is_in-append, one_has, one_lacks, or_assoc, or_false}

-- a key of a list of keys below a bound
pub key_below : (terms : ℕ) (keys : List ℕ) (place key : ℕ) → All (λ k. k < terms) keys → slice_get keys place ≡ Some key → key < terms
key_below terms keys place key all at =
    let here : get_or keys place 0 < terms = all place 0 (slice_get_within keys place key at) in
    omega (arith, here, get_or_from_slice_get keys place key 0 at)

-- the keys before the next one, and that one
pub keys_more : (keys : List ℕ) (place key : ℕ) → slice_get keys place ≡ Some key → take (place + 1) keys ≡ take place keys ++ key ∷ []
keys_more keys place key at = take_more keys place 0 (slice_get_within keys place key at) ∙ ap (λ (k : ℕ). take place keys ++ k ∷ []) (get_or_from_slice_get keys place key 0 at)

-- what an index past the end of a list of games would read
abbrev pub no_game : Game
no_game = record { home = record { 0 = 0 }; away = record { 0 = 0 }; slot = record { 0 = 0 } }

-- the keys that some games touch, and those of the next one
pub touched_more : (touches : Game → List ℕ) (games : List Game) (i : ℕ) → i < length games → flat_map touches (take (i + 1) games) ≡ flat_map touches (take i games) ++ touches (get_or games i no_game)
touched_more touches games i within = ap (λ (l : List Game). flat_map touches l) (take_more games i no_game within) ∙ sym (flat_map_more touches [] (take i games) (get_or games i no_game))

pub flat_map-append : (touches : Game → List ℕ) (xs ys : List Game) → flat_map touches (xs ++ ys) ≡ flat_map touches xs ++ flat_map touches ys
flat_map-append touches [] ys = refl
flat_map-append touches (x ∷ xs) ys = ap (λ (l : List ℕ). touches x ++ l) (flat_map-append touches xs ys) ∙ sym (append_assoc (touches x) (flat_map touches xs) (flat_map touches ys))

-- the keys of the lists so far, and those of the next one
pub keys_of_more : {X : Type 0} (f : X → List ℕ) (xs : List X) (i : ℕ) (d : X) → i < length xs
    → flat_map f (take (i + 1) xs) ≡ flat_map f (take i xs) ++ f (get_or xs i d)
keys_of_more {X} f xs i d within =
    ap (λ (l : List X). flat_map f l) (take_more xs i d within) ∙ sym (flat_map_more f [] (take i xs) (get_or xs i d))

-- ---- sets that grow

-- no key more
pub added-none : (set : KeyList) → AreAdded [] set set
added-none set = record { room = refl; keys = λ k. sym (or_false (is_in set.list k)) }

-- a key that was there
pub added-old : (key : ℕ) (set : KeyList) → is_in set.list key ≡ true → AreAdded (key ∷ []) set set
added-old key set there = record {
  room = refl;
  keys = λ k. elim (cases_eq k key) as (λ _. is_in set.list k ≡ (is_in set.list k || is_in (key ∷ []) k)) [
    | inl same ↦ ap (λ (i : ℕ). is_in set.list i) same ∙ there ∙ sym (or_right (is_in set.list k) (is_in (key ∷ []) k) (one_has key k same))
    | inr other ↦ sym (ap (λ (b : Bool). is_in set.list k || b) (one_lacks key k other) ∙ or_false (is_in set.list k))
  ];
}

-- a new key
pub added-one : (key : ℕ) (old new : KeyList) → new ≡ record { list = old.list ++ key ∷ []; room = old.room } → AreAdded (key ∷ []) old new
added-one key old new is = record {
  room = ap (λ (s : KeyList). s.room) is;
  keys = λ k. ap (λ (s : KeyList). is_in s.list k) is ∙ is_in-append old.list (key ∷ []) k;
}

-- some keys after others
pub added-more : (xs ys zs : List ℕ) (a b c : KeyList) → AreAdded xs a b → AreAdded ys b c → zs ≡ xs ++ ys → AreAdded zs a c
added-more xs ys zs a b c first next is = record {
  room = next.room ∙ first.room;
  keys = λ k. next.keys k ∙ ap (λ (t : Bool). t || is_in ys k) (first.keys k)
      ∙ sym (or_assoc (is_in a.list k) (is_in xs k) (is_in ys k))
      ∙ ap (λ (t : Bool). is_in a.list k || t) (sym (is_in-append xs ys k) ∙ ap (λ (l : List ℕ). is_in l k) (sym is));
}

-- no key more at a bench
pub found-none : (bench : Bench) → HasFound [] bench bench
found-none bench = record { reach = refl; found = added-none bench.found }

-- some keys after others at a bench
pub found-more : (xs ys zs : List ℕ) (a b c : Bench) → HasFound xs a b → HasFound ys b c → zs ≡ xs ++ ys → HasFound zs a c
found-more xs ys zs a b c first next is = record {
  reach = next.reach ∙ first.reach;
  found = added-more xs ys zs a.found b.found c.found first.found next.found is;
}

-- what was found at a bench, by another list of the same keys
pub found-same : (xs ys : List ℕ) (a b : Bench) → ((k : ℕ) → is_in xs k ≡ is_in ys k) → HasFound xs a b → HasFound ys a b
found-same xs ys a b same has = record {
  reach = has.reach;
  found = record {
    room = has.found.room;
    keys = λ k. has.found.keys k ∙ ap (λ (t : Bool). is_in a.found.list k || t) (same k);
  };
}

-- a bench keeps its room
pub room-found : {R : Type 0} (E : Ghosts R) (rule : R) (keys : List ℕ) (old new : Bench) → HasRoom E rule old → HasFound keys old new → HasRoom E rule new
room-found E rule keys old new room has = record {
  reach = omega (arith, room.reach, has.reach);
  terms = omega (arith, room.terms, has.found.room);
}

-- ---- what is known of the keys that were found

eqb-swap : (a b : ℕ) → eqb a b ≡ eqb b a
eqb-swap a b = grind (arith, nat_tests)

both_false : (a b : Bool) → a ≡ false → b ≡ false → (a || b) ≡ false
both_false a b first second = ap (λ (t : Bool). t || b) first ∙ second

get_or_default : (xs : List ℕ) (i : ℕ) → i < length xs → (d : ℕ) → get_or xs i 0 ≡ get_or xs i d
get_or_default [] i within d = absurd (omega (arith, within))
get_or_default (x ∷ xs) zero within d = refl
get_or_default (x ∷ xs) (suc i) within d = get_or_default xs i (omega (arith, within)) d

-- what holds of some keys holds of one of them
all_in : (P : ℕ → Type 0) (keys : List ℕ) (k : ℕ) → All P keys → is_in keys k ≡ true → P k
all_in P [] k all there = absurd (false≢true there)
all_in P (key ∷ keys) k all there = elim (or_cases (eqb k key) (is_in keys k) there) as (λ _. P k) [
  | inl same ↦ subst P (sym (eqb-true k key same)) (All-head P key keys all)
  | inr later ↦ all_in P keys k (All-tail P key keys all) later
]

-- a key at a place is there
pub in_at : (keys : List ℕ) (place : ℕ) → place < length keys → is_in keys (get_or keys place 0) ≡ true
in_at [] place within = absurd (omega (arith, within))
in_at (key ∷ keys) zero within = or_left (eqb key key) (is_in keys key) (eq-eqb key key refl)
in_at (key ∷ keys) (suc place) within =
    or_right (eqb (get_or keys place 0) key) (is_in keys (get_or keys place 0)) (in_at keys place (omega (arith, within)))

-- keys that are among others have what these have
pub all_among : (P : ℕ → Type 0) (xs ys : List ℕ) → ((k : ℕ) → is_in xs k ≡ is_in ys k) → All P ys → All P xs
all_among P xs ys same all = λ i d h.
    subst P (get_or_default xs i h d) (all_in P ys (get_or xs i 0) all (sym (same (get_or xs i 0)) ∙ in_at xs i h))

-- the keys that games touch are a rule's own
touched_below : {R : Type 0} (E : Ghosts R) (rule : R)
    → ((g : Game) → IsGame (E.team_count rule) g → All (λ k. k < E.term_count rule) (E.touches rule g))
    → (games : List Game) → All (IsGame (E.team_count rule)) games
    → All (λ k. k < E.term_count rule) (flat_map (E.touches rule) games)
touched_below E rule below [] fit = λ i d h. absurd (omega (arith, h))
touched_below E rule below (g ∷ games) fit =
    All-append (λ k. k < E.term_count rule) (E.touches rule g) (flat_map (E.touches rule) games)
    (below g (All-head (IsGame (E.team_count rule)) g games fit))
    (touched_below E rule below games (All-tail (IsGame (E.team_count rule)) g games fit))

-- what was found at a clean bench
pub touched-found : {R : Type 0} (E : Ghosts R) (rule : R) (out into : List Game) (old new : Bench)
    → ((g : Game) → IsGame (E.team_count rule) g → All (λ k. k < E.term_count rule) (E.touches rule g))
    → All (IsGame (E.team_count rule)) out → All (IsGame (E.team_count rule)) into → old.found.list ≡ []
    → IsDistinct eqb new.found.list → HasFound (flat_map (E.touches rule) out ++ flat_map (E.touches rule) into) old new
    → HasTouched E rule (out ++ into) old new
touched-found E rule out into old new below out_fit into_fit clean distinct has =
    let keys : (k : ℕ) → is_in new.found.list k ≡ is_in (flat_map (E.touches rule) (out ++ into)) k =
    λ k. has.found.keys k
    ∙ ap (λ (l : List ℕ). is_in l k || is_in (flat_map (E.touches rule) out ++ flat_map (E.touches rule) into) k) clean
    ∙ ap (λ (l : List ℕ). is_in l k) (sym (flat_map-append (E.touches rule) out into)) in
    record {
      reach = has.reach;
      room = has.found.room;
      distinct = distinct;
      below = all_among (λ k. k < E.term_count rule) new.found.list (flat_map (E.touches rule) (out ++ into)) keys
          (touched_below E rule below (out ++ into) (All-append (IsGame (E.team_count rule)) out into out_fit into_fit));
      keys = keys;
    }

-- the found keys are as many as different keys are touched
pub touched-many : {R : Type 0} (E : Ghosts R) (rule : R) (games : List Game) (old new : Bench)
    → HasTouched E rule games old new → length new.found.list ≡ touched_count E rule games
touched-many E rule games old new has =
    length-from_keys eqb-laws new.found.list (flat_map (E.touches rule) games) has.distinct has.keys

lacks_all : (key : ℕ) (keys : List ℕ) → AllByRecursion (λ y. eqb key y ≡ false) keys → (place : ℕ) → place < length keys
    → eqb (get_or keys place 0) key ≡ false
lacks_all key [] all place within = absurd (omega (arith, within))
lacks_all key (k ∷ keys) all zero within = eqb-swap k key ∙ all.0
lacks_all key (k ∷ keys) all (suc place) within = lacks_all key keys all.1 place (omega (arith, within))

-- a key of different ones isn't one of those before it
pub new_at : (keys : List ℕ) (place : ℕ) → IsDistinct eqb keys → place < length keys
    → is_in (take place keys) (get_or keys place 0) ≡ false
new_at [] place distinct within = absurd (omega (arith, within))
new_at (key ∷ keys) zero distinct within = refl
new_at (key ∷ keys) (suc place) distinct within =
    both_false (eqb (get_or keys place 0) key) (is_in (take place keys) (get_or keys place 0))
    (lacks_all key keys (IsDistinct-head eqb key keys distinct) place (omega (arith, within)))
    (new_at keys place (IsDistinct-tail eqb key keys distinct) (omega (arith, within)))

-- a key that is read at a place of different ones isn't one of those before it
pub new_key : (keys : List ℕ) (place key : ℕ) → IsDistinct eqb keys → slice_get keys place ≡ Some key
    → is_in (take place keys) key ≡ false
new_key keys place key distinct at =
    ap (λ (k : ℕ). is_in (take place keys) k) (sym (get_or_from_slice_get keys place key 0 at))
    ∙ new_at keys place distinct (slice_get_within keys place key at)
