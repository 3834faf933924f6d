-- Entries that are taken to be evaluated afresh while they stay as they are.
use Rattle.std.proofs.Common.{◌≡◌, ℕ, ◌+◌, ◌*◌, ◌^◌, ◌<◌, ◌≤◌, Bool, true, false, ◌||◌, if◌then◌else◌, inl, inr}
use Rattle.std.proofs.Common.{List, [], ◌∷◌, ◌++◌, Global, Vec, length, get_or, set, refl, ap, subst, sym, ◌∙◌, arith}
use Rattle.std.proofs.lemmas.Bool.{cases_eq, or_right}
use Rattle.std.proofs.lemmas.List.{ext_get_or, get_or-set_other, get_or-set_same, length-set}
use Rattle.std.proofs.lemmas.List.FromFn.{get_or-map-range_with_len, length-map-range_with_len}
use Rattle.std.proofs.lemmas.List.Sums.{sum_by-set}
use Rattle.std.specs.List.{All, sum}
use Rattle.league.specs.declared.game.TeamId.{TeamId}
use Rattle.rule_core.specs.declared.rule.Entries.{Ghosts}
use Rattle.deviation.proofs.EntryLemmas.{sum-le}
use Rattle.descent.specs.KeySet.{is_in}
use Rattle.descent.specs.Ready.{HasWatched, IsReady}
use Rattle.descent.specs.Weighing.{IsWeighed, if_written, renewed}
use Rattle.descent.specs.declared.kept.Kept.{Kept}
use Rattle.descent.specs.declared.weighted.Weighted.{Weighted}
use Rattle.descent.proofs.SetLemmas.{is_in-append, one_has, one_lacks, or_false}

pub renewed-long : (f : ℕ → ℕ) (keys entries : List ℕ) → length (renewed f keys entries) ≡ length entries
renewed-long f keys entries =
    length-map-range_with_len (λ k. if is_in keys k then f k else get_or entries k 0) 0 (length entries)

pub renewed-at : (f : ℕ → ℕ) (keys entries : List ℕ) (k : ℕ) → k < length entries
    → get_or (renewed f keys entries) k 0 ≡ (if is_in keys k then f k else get_or entries k 0)
renewed-at f keys entries k below =
    get_or-map-range_with_len (λ k. if is_in keys k then f k else get_or entries k 0) 0 (length entries) k k 0 below
    (omega arith)

pub chosen : (b : Bool) (x y : ℕ) → b ≡ true → (if b then x else y) ≡ x
chosen b x y is = ap (λ (t : Bool). if t then x else y) is

pub left_out : (b : Bool) (x y : ℕ) → b ≡ false → (if b then x else y) ≡ y
left_out b x y is = ap (λ (t : Bool). if t then x else y) is

-- with no key, the entries are as they are
pub renewed-none : (f : ℕ → ℕ) (entries : List ℕ) → renewed f [] entries ≡ entries
renewed-none f entries =
    ext_get_or 0 (renewed f [] entries) entries (renewed-long f [] entries)
    (λ i h. renewed-at f [] entries i (omega (arith, h, renewed-long f [] entries)))

-- with one key more, one more entry is f's
pub renewed-one : (f : ℕ → ℕ) (key : ℕ) (keys entries : List ℕ) → key < length entries
    → renewed f (keys ++ key ∷ []) entries ≡ set (renewed f keys entries) key (f key)
renewed-one f key keys entries within =
    let more : List ℕ = keys ++ key ∷ [] in
    let before : List ℕ = renewed f keys entries in
    ext_get_or 0 (renewed f more entries) (set before key (f key))
    (renewed-long f more entries ∙ sym (renewed-long f keys entries) ∙ sym (length-set before key (f key))) (λ i h.
    let below : i < length entries = omega (arith, h, renewed-long f more entries) in
    let place : key < length before = omega (arith, within, renewed-long f keys entries) in
    elim (cases_eq i key) as (λ _. get_or (renewed f more entries) i 0 ≡ get_or (set before key (f key)) i 0) [
      | inl same ↦
          renewed-at f more entries i below
          ∙ chosen (is_in more i) (f i) (get_or entries i 0)
          (is_in-append keys (key ∷ []) i ∙ or_right (is_in keys i) (is_in (key ∷ []) i) (one_has key i same))
          ∙ ap f same
          ∙ sym (get_or-set_same before key (f key) 0 place)
          ∙ ap (λ (k : ℕ). get_or (set before key (f key)) k 0) (sym same)
      | inr other ↦
          renewed-at f more entries i below
          ∙ ap (λ (b : Bool). if b then f i else get_or entries i 0)
          (is_in-append keys (key ∷ []) i ∙ ap (λ (b : Bool). is_in keys i || b) (one_lacks key i other)
          ∙ or_false (is_in keys i))
          ∙ sym (renewed-at f keys entries i below)
          ∙ sym (get_or-set_other before key i (f key) 0 other)
    ])

-- ---- entries as they lie, renewed or as before

pub written-none : (writes : Bool) (f : ℕ → ℕ) (entries : List ℕ) → if_written writes f [] entries ≡ entries
written-none true f entries = renewed-none f entries
written-none false f entries = refl

pub written-long : (writes : Bool) (f : ℕ → ℕ) (keys entries lie : List ℕ) → lie ≡ if_written writes f keys entries
    → length lie ≡ length entries
written-long true f keys entries lie is = ap (λ (l : List ℕ). length l) is ∙ renewed-long f keys entries
written-long false f keys entries lie is = ap (λ (l : List ℕ). length l) is

-- an entry that isn't evaluated afresh lies there as before
pub written-lies : (writes : Bool) (f : ℕ → ℕ) (key : ℕ) (keys entries lie : List ℕ)
    → lie ≡ if_written writes f keys entries → key < length entries → is_in keys key ≡ false
    → get_or lie key 0 ≡ get_or entries key 0
written-lies true f key keys entries lie is within new =
    ap (λ (l : List ℕ). get_or l key 0) is
    ∙ renewed-at f keys entries key within
    ∙ left_out (is_in keys key) (f key) (get_or entries key 0) new
written-lies false f key keys entries lie is within new = ap (λ (l : List ℕ). get_or l key 0) is

-- with one key more, one more entry is f's where it is written
pub written-one : (writes : Bool) (f : ℕ → ℕ) (key entry : ℕ) (keys entries lie : List ℕ)
    → lie ≡ if_written writes f keys entries → entry ≡ f key → key < length entries
    → (if writes then set lie key entry else lie) ≡ if_written writes f (keys ++ key ∷ []) entries
written-one true f key entry keys entries lie is value within =
    ap (λ (l : List ℕ). set l key entry) is
    ∙ ap (λ (x : ℕ). set (renewed f keys entries) key x) value
    ∙ sym (renewed-one f key keys entries within)
written-one false f key entry keys entries lie is value within = is

-- a deviation as it is kept
pub weighed-none : (f : ℕ → ℕ) (keys entries : List ℕ) (deviation : ℕ) → keys ≡ [] → deviation ≡ sum entries
    → ((k : ℕ) → get_or entries k 0 < 2 ^ 64) → IsWeighed f keys entries deviation
weighed-none f keys entries deviation none is words =
    let same : renewed f keys entries ≡ entries =
    ap (λ (l : List ℕ). renewed f l entries) none ∙ renewed-none f entries in
    record {
      sum_is = is ∙ ap sum (sym same);
      words = λ k. omega (arith, words k, ap (λ (l : List ℕ). get_or l k 0) same);
    }

-- a weighed deviation isn't large
pub weighed-small : (f : ℕ → ℕ) (keys entries : List ℕ) (deviation : ℕ) → IsWeighed f keys entries deviation
    → deviation ≤ 2 ^ 64 * length entries
weighed-small f keys entries deviation is =
    omega (arith, is.sum_is, sum-le (2 ^ 64) (renewed f keys entries) is.words, renewed-long f keys entries)

-- an entry that isn't evaluated afresh is part of it
pub weighed-part : (f : ℕ → ℕ) (key : ℕ) (keys entries : List ℕ) (deviation : ℕ) → IsWeighed f keys entries deviation
    → key < length entries → is_in keys key ≡ false → get_or entries key 0 ≤ deviation
weighed-part f key keys entries deviation is within new =
    let place : key < length (renewed f keys entries) = omega (arith, within, renewed-long f keys entries) in
    let here : get_or (renewed f keys entries) key 0 ≡ get_or entries key 0 =
    renewed-at f keys entries key within ∙ left_out (is_in keys key) (f key) (get_or entries key 0) new in
    omega (arith, is.sum_is, here, sum_by-set (λ (y : ℕ). y) (renewed f keys entries) key 0 0 place)

-- a deviation with one entry more evaluated afresh
pub weighed-one : (f : ℕ → ℕ) (key : ℕ) (keys entries : List ℕ) (deviation after : ℕ) → IsWeighed f keys entries deviation
    → key < length entries → is_in keys key ≡ false → f key < 2 ^ 64
    → after + get_or entries key 0 ≡ deviation + f key → IsWeighed f (keys ++ key ∷ []) entries after
weighed-one f key keys entries deviation after is within new word change =
    let before : List ℕ = renewed f keys entries in
    let place : key < length before = omega (arith, within, renewed-long f keys entries) in
    let here : get_or before key 0 ≡ get_or entries key 0 =
    renewed-at f keys entries key within ∙ left_out (is_in keys key) (f key) (get_or entries key 0) new in
    let more : renewed f (keys ++ key ∷ []) entries ≡ set before key (f key) = renewed-one f key keys entries within in
    record {
      sum_is = omega (arith, is.sum_is, here, change, sum_by-set (λ (y : ℕ). y) before key (f key) 0 place, ap sum more);
      words = λ k. subst (λ (l : List ℕ). get_or l k 0 < 2 ^ 64) (sym more)
          (elim (cases_eq k key) as (λ _. get_or (set before key (f key)) k 0 < 2 ^ 64) [
            | inl same ↦
                subst (λ (i : ℕ). get_or (set before key (f key)) i 0 < 2 ^ 64) (sym same)
                (omega (arith, get_or-set_same before key (f key) 0 place, word))
            | inr other ↦ omega (arith, get_or-set_other before key k (f key) 0 other, is.words k)
          ]);
    }

-- with its entries written, a rule is as ready as before
pub ready-written : {R : Type 0} (E : Ghosts R) (n room : ℕ) (old new : Kept R) → IsReady E n room old
    → new.weighted ≡ old.weighted → new.watched ≡ old.watched → length new.vector.items ≡ length old.vector.items
    → new.deviation ≡ sum new.vector.items → new.deviation ≤ 2 ^ 64 * length new.vector.items → IsReady E n room new
ready-written {R} E n room old new ready weighted watched long is small = record {
  teams = ready.teams ∙ ap (λ (w : Weighted R). E.team_count w.rule) (sym weighted);
  of_league = subst (λ (teams : Vec TeamId Global). All (λ t. t.0 < n) teams.items) (sym watched) ready.of_league;
  watches = subst (λ (w : Weighted R). HasWatched E w.rule new.watched.items) (sym weighted)
      (subst (λ (teams : Vec TeamId Global). HasWatched E old.weighted.rule teams.items) (sym watched) ready.watches);
  terms = long ∙ ready.terms ∙ ap (λ (w : Weighted R). E.term_count w.rule) (sym weighted);
  sum_is = is;
  small = small;
  few = omega (arith, long, ready.few);
  penalty_fits = omega (arith, ap (λ (w : Weighted R). w.penalty) weighted, ready.penalty_fits);
  room_is = omega (arith, long, ready.room_is);
}
