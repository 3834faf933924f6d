-- Tables in which games have been placed are those of the round robin that results.
use Rattle.std.proofs.Common.{◌≡◌, ◌≢◌, ℕ, ◌+◌, ◌*◌, ◌<◌, ◌≤◌, Bool, true, false, ◌&&◌, ◌||◌, ◌==◌, nat_lt, if◌then◌else◌, ◌⊎◌, inl, inr, List, [], ◌∷◌, ◌++◌, length, set, get_or, refl, arith, ap, subst, sym, ◌∙◌}
use Rattle.std.proofs.Math.Path.{fun_ext}
use Rattle.std.proofs.lemmas.Bool.{cases_eq, cases_lt, cases_Bool}
use Rattle.std.proofs.lemmas.Bool.Decides.{nat_tests}
use Rattle.std.proofs.lemmas.List.{get_or-set_same, get_or-set_other, length-set}
use Rattle.std.proofs.lemmas.List.Elements.{All-nil, All-cons, All-head, All-tail, All-contains, All-push, Contains-append_left, Contains-push}
use Rattle.std.proofs.lemmas.List.Sums.{sum_by-cons, get_or-le-sum_by}
use Rattle.std.specs.List.{All, Contains, count_by}
use Rattle.league.specs.Counts.{Counts, counts_of, is_game, slot_count}
use Rattle.league.specs.Instance.{IsGame, IsTeamCount}
use Rattle.league.specs.Structure.{IsRoundRobin}
use Rattle.league.specs.declared.game.Game.{Game}
use Rattle.league.proofs.RangeLemmas.{one_if}
use Rattle.moves.specs.Moves.{game}
use Rattle.moves.specs.Places.{ArePlaced, IsGameOf, IsPlacedAt, IsRound, IsSlotPlacedAt, IsSlotTable, IsTable, is_meeting, is_of, slot_entry}
use Rattle.moves.specs.Round.{Edits, IsEdit, Round, entry, round_counts}
use Rattle.moves.proofs.PlayLemmas.{IsPlayed, met, met-itself, opponent, round_robin, slot}
use Rattle.moves.proofs.RoundLemmas.{IsWithin, only_game}
use Rattle.moves.proofs.SumLemmas.{OneIsOne}

-- no game of a list passes a test that all of them fail
count-none : (p q : Game → Bool) (games : List Game) → ((g : Game) → q g ≡ false → p g ≡ false) → All (λ g. q g ≡ false) games → count_by p games ≡ 0
count-none p q [] leads none = refl
count-none p q (g ∷ games) leads none =
    let here : p g ≡ false = leads g (All-head (λ g. q g ≡ false) g games none) in
    let one : one_if (p g) ≡ 0 = rw here refl in
    omega (arith, sum_by-cons (λ g. if p g then 1 else 0) g games, one, count-none p q games leads (All-tail (λ g. q g ≡ false) g games none))

not_of : (h w t i s a b : ℕ) → ((a == i) || (b == i)) ≡ true → (((h == i) || (w == i)) && (t == s)) ≡ false → ((h == a) && (w == b) && (t == s)) ≡ false
not_of h w t i s a b plays none = grind (arith, nat_tests)

none_of : (games : List Game) (i s a b : ℕ) → All (λ g. is_of i s g ≡ false) games → ((a == i) || (b == i)) ≡ true → counts_of games a b s ≡ 0
none_of games i s a b none plays = count-none (is_game a b s) (is_of i s) games (λ g fails. not_of g.home.0 g.away.0 g.slot.0 i s a b plays fails) none

not_meeting : (h w t i j s : ℕ) → ((h == i) && (w == j)) ≡ false → ((h == i) && (w == j) && (t == s)) ≡ false
not_meeting h w t i j s none = grind (arith, nat_tests)

no_meeting_of : (games : List Game) (i j s : ℕ) → All (λ g. is_meeting i j g ≡ false) games → counts_of games i j s ≡ 0
no_meeting_of games i j s none = count-none (is_game i j s) (is_meeting i j) games (λ g fails. not_meeting g.home.0 g.away.0 g.slot.0 i j s fails) none

-- a game outside of the league is none of its games
beyond_home : (n h w t a b s : ℕ) → h < n → n ≤ a → ((h == a) && (w == b) && (t == s)) ≡ false
beyond_home n h w t a b s lt le = grind (arith, nat_tests)

beyond_away : (n h w t a b s : ℕ) → w < n → n ≤ b → ((h == a) && (w == b) && (t == s)) ≡ false
beyond_away n h w t a b s lt le = grind (arith, nat_tests)

beyond_slot : (n h w t a b s : ℕ) → t < n → n ≤ s → ((h == a) && (w == b) && (t == s)) ≡ false
beyond_slot n h w t a b s lt le = grind (arith, nat_tests)

count-fails : (p : Game → Bool) (games : List Game) → All (λ g. p g ≡ false) games → count_by p games ≡ 0
count-fails p games none = count-none p p games (λ g h. h) none

fails-all : (n : ℕ) (p : Game → Bool) (games : List Game) → ((g : Game) → IsGame n g → p g ≡ false) → All (IsGame n) games → All (λ g. p g ≡ false) games
fails-all n p [] leads all = All-nil (λ g. p g ≡ false)
fails-all n p (g ∷ games) leads all =
    All-cons (λ g. p g ≡ false) g games (leads g (All-head (IsGame n) g games all)) (fails-all n p games leads (All-tail (IsGame n) g games all))

pub IsWithin-counts : (n : ℕ) (games : List Game) → All (IsGame n) games → IsWithin n (counts_of games)
IsWithin-counts n games fit = record {
  home = λ a b s le. count-fails (is_game a b s) games (fails-all n (is_game a b s) games (λ g fits. beyond_home n g.home.0 g.away.0 g.slot.0 a b s fits.home le) fit);
  away = λ a b s le. count-fails (is_game a b s) games (fails-all n (is_game a b s) games (λ g fits. beyond_away n g.home.0 g.away.0 g.slot.0 a b s fits.away le) fit);
  slot = λ a b s le. count-fails (is_game a b s) games (fails-all n (is_game a b s) games (λ g fits. beyond_slot (slot_count n) g.home.0 g.away.0 g.slot.0 a b s fits.slot le) fit);
}

-- what an edit of a league's games leaves has nothing outside of the league
pub IsWithin-edit : (n : ℕ) (before after : Counts) (edit : Edits) → IsEdit before after edit → All (IsGame n) edit.into → IsWithin n before → IsWithin n after
IsWithin-edit n before after edit is fit within =
    let into : IsWithin n (counts_of edit.into) = IsWithin-counts n edit.into fit in
    record {
      home = λ a b s le. omega (arith, is.moves a b s, is.there a b s, into.home a b s le, within.home a b s le);
      away = λ a b s le. omega (arith, is.moves a b s, is.there a b s, into.away a b s le, within.away a b s le);
      slot = λ a b s le. omega (arith, is.moves a b s, is.there a b s, into.slot a b s le, within.slot a b s le);
    }

-- a game that stands in a list is counted
is_itself : (h w t : ℕ) → ((h == h) && (w == w) && (t == t)) ≡ true
is_itself h w t = grind (arith, nat_tests)

pub counted_in : (games : List Game) (g : Game) → Contains games g → 1 ≤ counts_of games g.home.0 g.away.0 g.slot.0
counted_in games g among =
    let f : Game → ℕ = λ x. if is_game g.home.0 g.away.0 g.slot.0 x then 1 else 0 in
    let itself : f g ≡ 1 = rw (is_itself g.home.0 g.away.0 g.slot.0) refl in
    let here : f (get_or games among.0 g) ≡ f g = ap f among.2 in
    omega (arith, get_or-le-sum_by f games among.0 g among.1, here, itself)

-- a game by its numbers
by_numbers : (h w t a b s : ℕ) → ((h == a) && (w == b) && (t == s)) ≡ true → (h ≡ a) × (w ≡ b) × (t ≡ s)
by_numbers h w t a b s is = (grind (arith, nat_tests), grind (arith, nat_tests), grind (arith, nat_tests))

plays_there : (a b s i : ℕ) → ((a == i) || (b == i)) ≡ true → (((a == i) || (b == i)) && (s == s)) ≡ true
plays_there a b s i plays = grind (arith, nat_tests)

-- a played game of the league that a team has in a slot
IsGameOf-from : (n : ℕ) (m : Counts) (i s a b : ℕ) (g : Game) → is_game a b s g ≡ true → a < n → b < n → a ≢ b → s < slot_count n → ((a == i) || (b == i)) ≡ true → 1 ≤ m a b s → IsGameOf n m i s g
IsGameOf-from n m i s a b g is lt_a lt_b ne lt_s plays some =
    let e = by_numbers g.home.0 g.away.0 g.slot.0 a b s is in
    record {
      fits = record { home = omega (arith, e.0); away = omega (arith, e.1); differ = λ h. ne (sym e.0 ∙ h ∙ e.1); slot = omega (arith, e.2) };
      of = subst (λ (h : ℕ). (((h == i) || (g.away.0 == i)) && (g.slot.0 == s)) ≡ true) (sym e.0)
          (subst (λ (w : ℕ). (((a == i) || (w == i)) && (g.slot.0 == s)) ≡ true) (sym e.1)
          (subst (λ (t : ℕ). (((a == i) || (b == i)) && (t == s)) ≡ true) (sym e.2) (plays_there a b s i plays)));
      there = omega (arith, some, ap (λ (h : ℕ). m h g.away.0 g.slot.0) e.0, ap (λ (w : ℕ). m a w g.slot.0) e.1, ap (m a b) e.2);
    }

one_of_two : (x y : ℕ) → x + y ≡ 1 → (1 ≤ x) ⊎ (1 ≤ y)
one_of_two x y e = elim (cases_lt 0 x) as (λ _. (1 ≤ x) ⊎ (1 ≤ y)) [ inl some ↦ inl (omega arith) | inr none ↦ inr (omega arith) ]

itself_first : (a b i : ℕ) → a ≡ i → ((a == i) || (b == i)) ≡ true
itself_first a b i e = grind (arith, nat_tests)

itself_second : (a b i : ℕ) → b ≡ i → ((a == i) || (b == i)) ≡ true
itself_second a b i e = grind (arith, nat_tests)

-- what a change of the counts says of the tables
pub record IsChange (n : ℕ) (phased : Bool) (before after : Counts) (edit : Edits) : Type 0 where
  pub few : n ≤ 40
  pub moves : IsEdit before after edit
  pub played : IsPlayed n phased after
  pub fit : All (IsGame n) edit.into

-- the old table has the games of the counts before
abbrev pub IsOldTable : ℕ → Counts → List Game → Type 0
IsOldTable n before old =
    (i s a b : ℕ) → i < n → s < slot_count n → ((a == i) || (b == i)) ≡ true → 1 ≤ before a b s → is_game a b s (entry old i s) ≡ true

abbrev pub IsOldSlots : ℕ → Counts → List ℕ → Type 0
IsOldSlots n before old = (i j s : ℕ) → i < n → j < n → i ≢ j → 1 ≤ before i j s → slot_entry old i j ≡ s

-- the game that a team has after a change, where none of its games in the slot was placed
kept_game : (n : ℕ) (phased : Bool) (before after : Counts) (edit : Edits) (old : List Game) (i s : ℕ) → IsChange n phased before after edit → IsOldTable n before old → i < n → s < slot_count n → All (λ g. is_of i s g ≡ false) edit.into → IsGameOf n after i s (entry old i s)
kept_game n phased before after edit old i s change is_old lt_i lt_s none =
    let one : OneIsOne (λ k. met after i k s) n = opponent n phased after i s change.played lt_i lt_s in
    let k : ℕ = one.at in
    let is_one : met after i k s ≡ 1 = one.one in
    let ne : i ≢ k = λ h. let itself : after i i s ≡ 0 = met-itself n phased after i s change.played lt_i lt_s in
    let at : met after i k s ≡ met after i i s = ap (λ (k : ℕ). met after i k s) (sym h) in omega (arith, is_one, at, itself) in
    elim (one_of_two (after i k s) (after k i s) is_one) as (λ _. IsGameOf n after i s (entry old i s)) [
      | inl home ↦
          let before_too : 1 ≤ before i k s = omega (arith, change.moves.moves i k s, none_of edit.into i s i k none (itself_first i k i refl), home) in
          IsGameOf-from n after i s i k (entry old i s) (is_old i s i k lt_i lt_s (itself_first i k i refl) before_too) lt_i one.below ne lt_s (itself_first i k i refl) home
      | inr away ↦
          let before_too : 1 ≤ before k i s = omega (arith, change.moves.moves k i s, none_of edit.into i s k i none (itself_second k i i refl), away) in
          IsGameOf-from n after i s k i (entry old i s) (is_old i s k i lt_i lt_s (itself_second k i i refl) before_too) one.below lt_i (λ h. ne (sym h)) lt_s (itself_second k i i refl) away
    ]

pub IsTable-placed : (n : ℕ) (phased : Bool) (before after : Counts) (edit : Edits) (old new : List Game) (old_slots new_slots : List ℕ) → IsChange n phased before after edit → IsOldTable n before old → ArePlaced edit.into old new old_slots new_slots → length new ≡ 3120 → IsTable n after new
IsTable-placed n phased before after edit old new old_slots new_slots change is_old placed long = record {
  long = long;
  at = λ i s lt_i lt_s. elim (placed.games i s (omega (arith, change.few))) as (λ _. IsGameOf n after i s (entry new i s)) [
    | inl stays ↦
        let P : Game → Type 0 = λ g. IsGameOf n after i s g in
        subst P (sym stays.1) (kept_game n phased before after edit old i s change is_old lt_i lt_s stays.0)
    | inr put ↦
        let g : Game = entry new i s in
        record {
          fits = All-contains (IsGame n) edit.into g change.fit put.0;
          of = put.1;
          there = omega (arith, counted_in edit.into g put.0, change.moves.moves g.home.0 g.away.0 g.slot.0, change.moves.there g.home.0 g.away.0 g.slot.0);
        }
  ];
}

slot_of_entry : (n : ℕ) (phased : Bool) (before after : Counts) (edit : Edits) (old new : List Game) (old_slots
    new_slots : List ℕ) (i j : ℕ) → IsChange n phased before after edit → IsOldSlots n before old_slots
    → ArePlaced edit.into old new old_slots new_slots → i < n → j < n → i ≢ j
    → (slot_entry new_slots i j < slot_count n) × (1 ≤ after i j (slot_entry new_slots i j))
slot_of_entry n phased before after edit old new old_slots new_slots i j change is_old placed lt_i lt_j ne =
    elim (placed.slots i j (omega (arith, change.few))) as (λ _. (slot_entry new_slots i j < slot_count n) × (1 ≤ after i j (slot_entry new_slots i j))) [
      | inl stays ↦
          let one : OneIsOne (λ s. after i j s) (slot_count n) = slot n phased after i j change.played lt_i lt_j ne in
          let before_too : 1 ≤ before i j one.at = omega (arith, change.moves.moves i j one.at, no_meeting_of edit.into i j one.at stays.0, one.one) in
          let here : slot_entry new_slots i j ≡ one.at = stays.1 ∙ is_old i j one.at lt_i lt_j ne before_too in
          (omega (arith, here, one.below), omega (arith, one.one, ap (after i j) here))
      | inr put ↦
          let s : ℕ = slot_entry new_slots i j in
          let fits : IsGame n (game i j s) = All-contains (IsGame n) edit.into (game i j s) change.fit put in
          (fits.slot, omega (arith, counted_in edit.into (game i j s) put, change.moves.moves i j s, change.moves.there i j s))
    ]

pub IsSlotTable-placed : (n : ℕ) (phased : Bool) (before after : Counts) (edit : Edits) (old new : List Game) (old_slots
    new_slots : List ℕ) → IsChange n phased before after edit → IsOldSlots n before old_slots
    → ArePlaced edit.into old new old_slots new_slots → length new_slots ≡ 1600 → IsSlotTable n after new_slots
IsSlotTable-placed n phased before after edit old new old_slots new_slots change is_old placed long = record {
  long = long;
  below = λ i j lt_i lt_j ne. (slot_of_entry n phased before after edit old new old_slots new_slots i j change is_old placed lt_i lt_j ne).0;
  there = λ i j lt_i lt_j ne. (slot_of_entry n phased before after edit old new old_slots new_slots i j change is_old placed lt_i lt_j ne).1;
}

-- the counts that a table shows
shown : (a n s t x : ℕ) (b c : Bool) → a < n → s < t → (if (a == a) || c then x else 0) ≡ (if b then 1 else 0) → one_if (nat_lt a n && nat_lt s t && b) ≡ x
shown a n s t x b c lt_a lt_s h = grind (arith, nat_tests)

hidden_home : (a n x : ℕ) (b c : Bool) → n ≤ a → x ≡ 0 → one_if (nat_lt a n && b && c) ≡ x
hidden_home a n x b c le none = grind (arith, nat_tests)

hidden_slot : (s t x : ℕ) (b c : Bool) → t ≤ s → x ≡ 0 → one_if (b && nat_lt s t && c) ≡ x
hidden_slot s t x b c le none = grind (arith, nat_tests)

round_counts-at : (n : ℕ) (phased : Bool) (m : Counts) (games : List Game) → IsPlayed n phased m → IsWithin n m → IsTable n m games → (a b s : ℕ) → round_counts (record { n = n; phased = phased; games = games }) a b s ≡ m a b s
round_counts-at n phased m games is within table a b s =
    let r : Round = record { n = n; phased = phased; games = games } in
    elim (cases_lt a n) as (λ _. round_counts r a b s ≡ m a b s) [
      | inl lt_a ↦ elim (cases_lt s (slot_count n)) as (λ _. round_counts r a b s ≡ m a b s) [
        | inl lt_s ↦ shown a n s (slot_count n) (m a b s) (is_game a b s (entry games a s)) (b == a) lt_a lt_s (only_game n phased m a s (entry games a s) is within lt_a lt_s (table.at a s lt_a lt_s) a b)
        | inr le ↦ hidden_slot s (slot_count n) (m a b s) (nat_lt a n) (is_game a b s (entry games a s)) le (within.slot a b s le)
      ]
      | inr le ↦ hidden_home a n (m a b s) (nat_lt s (slot_count n)) (is_game a b s (entry games a s)) le (within.home a b s le)
    ]

pub round_counts-is : (n : ℕ) (phased : Bool) (m : Counts) (games : List Game) → IsPlayed n phased m → IsWithin n m → IsTable n m games → round_counts (record { n = n; phased = phased; games = games }) ≡ m
round_counts-is n phased m games is within table =
    fun_ext (λ a. fun_ext (λ b. fun_ext (λ s. round_counts-at n phased m games is within table a b s)))

-- a board's two tables after a change
pub record IsBoard (n : ℕ) (phased : Bool) (m : Counts) (games : List Game) (slots : List ℕ) : Type 0 where
  pub counts : round_counts (record { n = n; phased = phased; games = games }) ≡ m
  pub round : IsRound (record { n = n; phased = phased; games = games })
  pub slot_table : IsSlotTable n (round_counts (record { n = n; phased = phased; games = games })) slots

pub IsBoard-placed : (n : ℕ) (phased : Bool) (before after : Counts) (edit : Edits) (old new : List Game) (old_slots
    new_slots : List ℕ) → IsTeamCount n → IsChange n phased before after edit → IsWithin n before
    → IsOldTable n before old → IsOldSlots n before old_slots → ArePlaced edit.into old new old_slots new_slots
    → length new ≡ 3120 → length new_slots ≡ 1600 → IsBoard n phased after new new_slots
IsBoard-placed n phased before after edit old new old_slots new_slots teams change within is_old is_old_slots placed long slots_long =
    let table : IsTable n after new = IsTable-placed n phased before after edit old new old_slots new_slots change is_old placed long in
    let slot_table : IsSlotTable n after new_slots = IsSlotTable-placed n phased before after edit old new old_slots new_slots change is_old_slots placed slots_long in
    let counts : round_counts (record { n = n; phased = phased; games = new }) ≡ after =
    round_counts-is n phased after new change.played (IsWithin-edit n before after edit change.moves change.fit within) table in
    let P : Counts → Type 0 = λ m. IsTable n m new in
    let Q : Counts → Type 0 = λ m. IsRoundRobin n phased m in
    let R : Counts → Type 0 = λ m. IsSlotTable n m new_slots in
    record {
      counts = counts;
      round = record { teams = teams; table = subst P (sym counts) table; round_robin = subst Q (sym counts) (round_robin n phased after change.played) };
      slot_table = subst R (sym counts) slot_table;
    }

-- one more game placed
two_sets : (xs : List Game) (p q x : ℕ) (g d : Game) → p < length xs → q < length xs → (x ≡ p) ⊎ (x ≡ q) → get_or (set (set xs p g) q g) x d ≡ g
two_sets xs p q x g d lt_p lt_q which =
    let shorter : q < length (set xs p g) = omega (arith, length-set xs p g) in
    elim (cases_eq x q) as (λ _. get_or (set (set xs p g) q g) x d ≡ g) [
      | inl same ↦ ap (λ (x : ℕ). get_or (set (set xs p g) q g) x d) same ∙ get_or-set_same (set xs p g) q g d shorter
      | inr other ↦ elim which as (λ _. get_or (set (set xs p g) q g) x d ≡ g) [
        | inl is_p ↦ get_or-set_other (set xs p g) q x g d other ∙ ap (λ (x : ℕ). get_or (set xs p g) x d) is_p ∙ get_or-set_same xs p g d lt_p
        | inr is_q ↦ absurd (other is_q)
      ]
    ]

two_others : (xs : List Game) (p q x : ℕ) (g d : Game) → x ≢ p → x ≢ q → get_or (set (set xs p g) q g) x d ≡ get_or xs x d
two_others xs p q x g d a b = get_or-set_other (set xs p g) q x g d b ∙ get_or-set_other xs p x g d a

place_slot : (h w t i s : ℕ) → (((h == i) || (w == i)) && (t == s)) ≡ true → t ≡ s
place_slot h w t i s is = grind (arith, nat_tests)

place_team : (h w t i s : ℕ) → h ≢ i → (((h == i) || (w == i)) && (t == s)) ≡ true → w ≡ i
place_team h w t i s other is = grind (arith, nat_tests)

place_first : (h w t i s : ℕ) → h ≡ i → t ≡ s → (((h == i) || (w == i)) && (t == s)) ≡ false → ⊥
place_first h w t i s a b none = grind (arith, nat_tests)

place_second : (h w t i s : ℕ) → w ≡ i → t ≡ s → (((h == i) || (w == i)) && (t == s)) ≡ false → ⊥
place_second h w t i s a b none = grind (arith, nat_tests)

meeting_fails : (h w i j : ℕ) → h ≡ i → w ≡ j → ((h == i) && (w == j)) ≡ false → ⊥
meeting_fails h w i j a b none = grind (arith, nat_tests)

which_place : (h w t i s : ℕ) → (((h == i) || (w == i)) && (t == s)) ≡ true → (i * 78 + s ≡ h * 78 + t) ⊎ (i * 78 + s ≡ w * 78 + t)
which_place h w t i s is = elim (cases_eq h i) as (λ _. (i * 78 + s ≡ h * 78 + t) ⊎ (i * 78 + s ≡ w * 78 + t)) [
  | inl same ↦ let slot_is : t ≡ s = place_slot h w t i s is in inl (omega arith)
  | inr other ↦ let slot_is : t ≡ s = place_slot h w t i s is in let team_is : w ≡ i = place_team h w t i s other is in inr (omega arith)
]

other_places : (h w t i s : ℕ) → t < 78 → s < 78 → (((h == i) || (w == i)) && (t == s)) ≡ false → (i * 78 + s ≢ h * 78 + t) × (i * 78 + s ≢ w * 78 + t)
other_places h w t i s lt_t lt_s none = (
  λ e. let team_is : h ≡ i = omega arith in let slot_is : t ≡ s = omega arith in place_first h w t i s team_is slot_is none,
  λ e. let team_is : w ≡ i = omega arith in let slot_is : t ≡ s = omega arith in place_second h w t i s team_is slot_is none,
)

-- one game more at a team's place
pub IsPlacedAt-more : (placed old new : List Game) (g : Game) (i s : ℕ) → length new ≡ 3120 → IsGame 40 g → s < 78 → IsPlacedAt placed old new i s → IsPlacedAt (placed ++ g ∷ []) old (set (set new (g.home.0 * 78 + g.slot.0) g) (g.away.0 * 78 + g.slot.0) g) i s
IsPlacedAt-more placed old new g i s long fits lt_s before =
    let later : List Game = set (set new (g.home.0 * 78 + g.slot.0) g) (g.away.0 * 78 + g.slot.0) g in
    let goal : Type 0 = IsPlacedAt (placed ++ g ∷ []) old later i s in
    elim (cases_Bool (is_of i s g)) as (λ _. goal) [
      | inl is ↦
          let here : entry later i s ≡ g =
          two_sets new (g.home.0 * 78 + g.slot.0) (g.away.0 * 78 + g.slot.0) (i * 78 + s) g (game 0 0 0)
          (omega (arith, long, fits.home, fits.slot)) (omega (arith, long, fits.away, fits.slot))
          (which_place g.home.0 g.away.0 g.slot.0 i s is) in
          let P : Game → Type 0 = λ x. Contains (placed ++ g ∷ []) x × (is_of i s x ≡ true) in
          inr (subst P (sym here) (Contains-push placed g, is))
      | inr out ↦
          let others = other_places g.home.0 g.away.0 g.slot.0 i s (omega (arith, fits.slot)) lt_s out in
          let same : entry later i s ≡ entry new i s = two_others new (g.home.0 * 78 + g.slot.0) (g.away.0 * 78 + g.slot.0) (i * 78 + s) g (game 0 0 0) others.0 others.1 in
          elim before as (λ _. goal) [
            | inl none ↦ inl (All-push (λ g. is_of i s g ≡ false) placed g none.0 out, same ∙ none.1)
            | inr put ↦
                let P : Game → Type 0 = λ x. Contains (placed ++ g ∷ []) x × (is_of i s x ≡ true) in
                inr (subst P (sym same) (Contains-append_left placed (g ∷ []) (entry new i s) put.0, put.1))
          ]
    ]

meeting_teams : (h w i j : ℕ) → ((h == i) && (w == j)) ≡ true → (h ≡ i) × (w ≡ j)
meeting_teams h w i j is = (grind (arith, nat_tests), grind (arith, nat_tests))

other_meeting : (h w i j : ℕ) → w < 40 → j < 40 → ((h == i) && (w == j)) ≡ false → i * 40 + j ≢ h * 40 + w
other_meeting h w i j a b none = λ e. let first : h ≡ i = omega arith in let second : w ≡ j = omega arith in meeting_fails h w i j first second none

-- one game more at a pair's place
pub IsSlotPlacedAt-more : (placed : List Game) (old new : List ℕ) (g : Game) (i j : ℕ) → length new ≡ 1600 → IsGame 40 g → j < 40 → IsSlotPlacedAt placed old new i j → IsSlotPlacedAt (placed ++ g ∷ []) old (set new (g.home.0 * 40 + g.away.0) g.slot.0) i j
IsSlotPlacedAt-more placed old new g i j long fits lt_j before =
    let place : ℕ = g.home.0 * 40 + g.away.0 in
    let later : List ℕ = set new place g.slot.0 in
    let goal : Type 0 = IsSlotPlacedAt (placed ++ g ∷ []) old later i j in
    elim (cases_Bool (is_meeting i j g)) as (λ _. goal) [
      | inl is ↦
          let teams = meeting_teams g.home.0 g.away.0 i j is in
          let at : i * 40 + j ≡ place = omega (arith, teams.0, teams.1) in
          let here : slot_entry later i j ≡ g.slot.0 = ap (λ (x : ℕ). get_or later x 0) at ∙ get_or-set_same new place g.slot.0 0 (omega (arith, long, fits.home, fits.away)) in
          let P : ℕ → Type 0 = λ t. Contains (placed ++ g ∷ []) (game i j t) in
          let Q : ℕ → Type 0 = λ i. Contains (placed ++ g ∷ []) (game i j g.slot.0) in
          let R : ℕ → Type 0 = λ j. Contains (placed ++ g ∷ []) (game g.home.0 j g.slot.0) in
          inr (subst P (sym here) (subst Q teams.0 (subst R teams.1 (Contains-push placed g))))
      | inr out ↦
          let same : slot_entry later i j ≡ slot_entry new i j = get_or-set_other new place (i * 40 + j) g.slot.0 0 (other_meeting g.home.0 g.away.0 i j (omega (arith, fits.away)) lt_j out) in
          elim before as (λ _. goal) [
            | inl none ↦ inl (All-push (λ g. is_meeting i j g ≡ false) placed g none.0 out, same ∙ none.1)
            | inr put ↦
                let P : ℕ → Type 0 = λ t. Contains (placed ++ g ∷ []) (game i j t) in
                inr (subst P (sym same) (Contains-append_left placed (g ∷ []) (game i j (slot_entry new i j)) put))
          ]
    ]

pub ArePlaced-none : (games : List Game) (slots : List ℕ) → ArePlaced [] games games slots slots
ArePlaced-none games slots = record {
  games = λ i s lt. inl (All-nil (λ g. is_of i s g ≡ false), refl);
  slots = λ i j lt. inl (All-nil (λ g. is_meeting i j g ≡ false), refl);
  long = refl;
  slots_long = refl;
}

pub ArePlaced-more : (placed old new : List Game) (old_slots new_slots : List ℕ) (g : Game) → length old ≡ 3120
    → length old_slots ≡ 1600 → IsGame 40 g → ArePlaced placed old new old_slots new_slots → ArePlaced (placed ++ g ∷
    []) old (set (set new (g.home.0 * 78 + g.slot.0) g) (g.away.0 * 78 + g.slot.0) g) old_slots (set new_slots (g.home.0
    * 40 + g.away.0) g.slot.0)
ArePlaced-more placed old new old_slots new_slots g long slots_long fits before = record {
  games = λ i s lt. IsPlacedAt-more placed old new g i s (before.long ∙ long) fits lt (before.games i s lt);
  slots = λ i j lt. IsSlotPlacedAt-more placed old_slots new_slots g i j (before.slots_long ∙ slots_long) fits lt (before.slots i j lt);
  long = length-set (set new (g.home.0 * 78 + g.slot.0) g) (g.away.0 * 78 + g.slot.0) g ∙ length-set new (g.home.0 * 78 + g.slot.0) g ∙ before.long;
  slots_long = length-set new_slots (g.home.0 * 40 + g.away.0) g.slot.0 ∙ before.slots_long;
}
