-- The games of a double round robin that is given by its counts.
use Rattle.std.proofs.Common.{◌≡◌, ℕ, ◌+◌, ◌*◌, ◌≤◌, Bool, true, false, ◌&&◌, ◌==◌, nat_lt, if◌then◌else◌, List, [], ◌∷◌, ◌++◌, inl, inr, refl, arith, ap, sym, ◌∙◌}
use Rattle.std.specs.List.Sorted.{IsPermutation}
use Rattle.std.proofs.lemmas.Bool.{cases_lt}
use Rattle.std.proofs.lemmas.Bool.Decides.{nat_tests}
use Rattle.league.specs.Counts.{Counts, counts_of, is_game, slot_count}
use Rattle.league.specs.Grid.{number}
use Rattle.league.specs.Structure.{IsRoundRobin}
use Rattle.league.specs.declared.game.Game.{Game}
use Rattle.league.proofs.RangeLemmas.{one_if}
use Rattle.league.proofs.TableLemmas.{number-outside}
use Rattle.league.proofs.CountLemmas.{counts_of-permutation, counts_of-push}
use Rattle.rule_core.specs.Table.{Table, table_counts}
use Rattle.moves.proofs.PlayLemmas.{met-itself, met-le-one, played}
use Rattle.moves.proofs.RoundLemmas.{IsWithin}
use Rattle.rule_core.proofs.ListedLemmas.{same_counts}
use Rattle.descent.specs.Walks.{AreSingle}

-- ---- a table has no counts outside of its league

no_away : (t : Table) (i j s : ℕ) → t.n ≤ j → table_counts t i j s ≡ 0
no_away t i j s past = grind (arith, nat_tests)

either : (b : Bool) (x : ℕ) → x ≡ 0 → (if b then x else 0) ≡ 0
either true x none = none
either false x none = refl

pub no_slot : (t : Table) (i j s : ℕ) → slot_count t.n ≤ s → table_counts t i j s ≡ 0
no_slot t i j s past =
    either (nat_lt j t.n) (number (slot_count t.n) t.list (i * t.n + j) s)
    (number-outside (slot_count t.n) t.list (i * t.n + j) s past)

within : (t : Table) → ((i j s : ℕ) → t.n ≤ i → table_counts t i j s ≡ 0) → IsWithin t.n (table_counts t)
within t no_home = record {
  home = no_home;
  away = no_away t;
  slot = no_slot t;
}

-- ---- each game of a double round robin is counted once at most

single-most : (n : ℕ) (phased : Bool) (m : Counts) (i j s : ℕ) → IsRoundRobin n phased m → IsWithin n m → m i j s ≤ 1
single-most n phased m i j s is inside =
    elim (cases_lt i n) as (λ _. m i j s ≤ 1) [
      | inr past ↦ omega (arith, inside.home i j s past)
      | inl home ↦
          elim (cases_lt j n) as (λ _. m i j s ≤ 1) [
            | inr past ↦ omega (arith, inside.away i j s past)
            | inl away ↦
                elim (cases_lt s (slot_count n)) as (λ _. m i j s ≤ 1) [
                  | inr past ↦ omega (arith, inside.slot i j s past)
                  | inl slot ↦ omega (arith, met-le-one n phased m i j s (played n phased m is) home away slot)
                ]
          ]
    ]

single-apart : (n : ℕ) (phased : Bool) (m : Counts) (i s : ℕ) → IsRoundRobin n phased m → IsWithin n m → m i i s ≡ 0
single-apart n phased m i s is inside =
    elim (cases_lt i n) as (λ _. m i i s ≡ 0) [
      | inr past ↦ inside.home i i s past
      | inl home ↦
          elim (cases_lt s (slot_count n)) as (λ _. m i i s ≡ 0) [
            | inr past ↦ inside.slot i i s past
            | inl slot ↦ met-itself n phased m i s (played n phased m is) home slot
          ]
    ]

pub AreSingle-of : (t : Table) (phased : Bool) → ((i j s : ℕ) → t.n ≤ i → table_counts t i j s ≡ 0)
    → IsRoundRobin t.n phased (table_counts t) → AreSingle (table_counts t)
AreSingle-of t phased no_home is = record {
  most = λ i j s. single-most t.n phased (table_counts t) i j s is (within t no_home);
  apart = λ i s. single-apart t.n phased (table_counts t) i s is (within t no_home);
}

-- ---- the games so far, with one more

one_slot_more : (h w t i j s x : ℕ) → (i ≡ h → j ≡ w → s ≡ t → x ≡ 1)
    → (if (i == h) && (j == w) && nat_lt s t then x else 0) + one_if ((h == i) && (w == j) && (t == s))
    ≡ (if (i == h) && (j == w) && nat_lt s (t + 1) then x else 0)
one_slot_more h w t i j s x one = grind (arith, nat_tests)

no_slot_more : (h w t i j s x : ℕ) → (i ≡ h → j ≡ w → s ≡ t → x ≡ 0)
    → (if (i == h) && (j == w) && nat_lt s t then x else 0) ≡ (if (i == h) && (j == w) && nat_lt s (t + 1) then x else 0)
no_slot_more h w t i j s x none = grind (arith, nat_tests)

all_slots : (h w t i j s x : ℕ) → (t ≤ s → x ≡ 0)
    → (if (i == h) && (j == w) && nat_lt s t then x else 0) ≡ (if (i == h) && (j == w) then x else 0)
all_slots h w t i j s x past = grind (arith, nat_tests)

one_away_more : (h w i j x : ℕ) → (if (i == h) && nat_lt j w then x else 0) + (if (i == h) && (j == w) then x else 0)
    ≡ (if (i == h) && nat_lt j (w + 1) then x else 0)
one_away_more h w i j x = grind (arith, nat_tests)

pub no_away_more : (h w i j x : ℕ) → (i ≡ h → j ≡ w → x ≡ 0)
    → (if (i == h) && nat_lt j w then x else 0) ≡ (if (i == h) && nat_lt j (w + 1) then x else 0)
no_away_more h w i j x none = grind (arith, nat_tests)

pub all_aways : (h w i j x : ℕ) → (w ≤ j → x ≡ 0) → (if (i == h) && nat_lt j w then x else 0) ≡ (if i == h then x else 0)
all_aways h w i j x past = grind (arith, nat_tests)

one_home_more : (h i x : ℕ) → (if nat_lt i h then x else 0) + (if i == h then x else 0) ≡ (if nat_lt i (h + 1) then x else 0)
one_home_more h i x = grind (arith, nat_tests)

pub all_homes : (h i x : ℕ) → (h ≤ i → x ≡ 0) → (if nat_lt i h then x else 0) ≡ x
all_homes h i x past = grind (arith, nat_tests)

-- a count at equal numbers
same_at : (m : Counts) (i j s h w t x : ℕ) → m h w t ≡ x → i ≡ h → j ≡ w → s ≡ t → m i j s ≡ x
same_at m i j s h w t x is home away slot =
    ap (λ (a : ℕ). m a j s) home ∙ ap (λ (b : ℕ). m h b s) away ∙ ap (λ (c : ℕ). m h w c) slot ∙ is

-- the start's counts, with those of a meeting in the slots below one
abbrev pub IsWithSlots : Counts → Counts → ℕ → ℕ → ℕ → List Game → Type 0
IsWithSlots start m home away slot games =
    (i j s : ℕ)
    → counts_of games i j s ≡ start i j s + (if (i == home) && (j == away) && nat_lt s slot then m i j s else 0)

nothing : (a b : Bool) (s x c : ℕ) → c ≡ c + (if a && b && nat_lt s 0 then x else 0)
nothing a b s x c = grind (arith, nat_tests)

pub slots-none : (games : List Game) (m : Counts) (home away : ℕ) → IsWithSlots (counts_of games) m home away 0 games
slots-none games m home away i j s = nothing (i == home) (j == away) s (m i j s) (counts_of games i j s)

pub slots-taken : (start m : Counts) (home away slot : ℕ) (games : List Game) (g : Game) → g.home.0 ≡ home
    → g.away.0 ≡ away → g.slot.0 ≡ slot → m home away slot ≡ 1 → IsWithSlots start m home away slot games
    → IsWithSlots start m home away (slot + 1) (games ++ g ∷ [])
slots-taken start m home away slot games g at_home of_away in_slot one so_far i j s =
    let here : one_if (is_game i j s g) ≡ one_if ((home == i) && (away == j) && (slot == s)) =
    ap (λ (h : ℕ). one_if ((h == i) && (g.away.0 == j) && (g.slot.0 == s))) at_home
    ∙ ap (λ (w : ℕ). one_if ((home == i) && (w == j) && (g.slot.0 == s))) of_away
    ∙ ap (λ (t : ℕ). one_if ((home == i) && (away == j) && (t == s))) in_slot in
    omega (
      arith,
      counts_of-push games g i j s,
      here,
      so_far i j s,
      one_slot_more home away slot i j s (m i j s) (same_at m i j s home away slot 1 one),
    )

pub slots-passed : (start m : Counts) (home away slot : ℕ) (games : List Game) → m home away slot ≡ 0
    → IsWithSlots start m home away slot games → IsWithSlots start m home away (slot + 1) games
slots-passed start m home away slot games none so_far i j s =
    omega (arith, so_far i j s, no_slot_more home away slot i j s (m i j s) (same_at m i j s home away slot 0 none))

-- with the whole meeting
abbrev pub IsWithMeeting : Counts → Counts → ℕ → ℕ → List Game → Type 0
IsWithMeeting start m home away games =
    (i j s : ℕ) → counts_of games i j s ≡ start i j s + (if (i == home) && (j == away) then m i j s else 0)

pub slots-all : (start : Counts) (t : Table) (home away slots : ℕ) (games : List Game) → slots ≡ slot_count t.n
    → IsWithSlots start (table_counts t) home away slots games → IsWithMeeting start (table_counts t) home away games
slots-all start t home away slots games are so_far i j s =
    omega (
      arith,
      so_far i j s,
      all_slots home away slots i j s (table_counts t i j s) (λ past. no_slot t i j s (omega (arith, past, are))),
    )

-- with the home games of a team against those below another
abbrev pub IsWithAways : Counts → Counts → ℕ → ℕ → List Game → Type 0
IsWithAways start m home away games =
    (i j s : ℕ) → counts_of games i j s ≡ start i j s + (if (i == home) && nat_lt j away then m i j s else 0)

none_yet : (a : Bool) (j x c : ℕ) → c ≡ c + (if a && nat_lt j 0 then x else 0)
none_yet a j x c = grind (arith, nat_tests)

pub aways-none : (games : List Game) (m : Counts) (home : ℕ) → IsWithAways (counts_of games) m home 0 games
aways-none games m home i j s = none_yet (i == home) j (m i j s) (counts_of games i j s)

pub aways-more : (start m : Counts) (home away : ℕ) (games more : List Game) → IsWithAways start m home away games
    → IsWithMeeting (counts_of games) m home away more → IsWithAways start m home (away + 1) more
aways-more start m home away games more so_far added i j s =
    omega (arith, so_far i j s, added i j s, one_away_more home away i j (m i j s))

pub aways-itself : (start m : Counts) (home away : ℕ) (games : List Game) → away ≡ home → AreSingle m
    → IsWithAways start m home away games → IsWithAways start m home (away + 1) games
aways-itself start m home away games same single so_far i j s =
    omega (
      arith,
      so_far i j s,
      no_away_more home away i j (m i j s)
          (λ is_home is_away. ap (λ (k : ℕ). m k j s) (is_home ∙ sym same ∙ sym is_away) ∙ single.apart j s),
    )

-- with all home games of a team
abbrev pub IsWithTeam : Counts → Counts → ℕ → List Game → Type 0
IsWithTeam start m home games =
    (i j s : ℕ) → counts_of games i j s ≡ start i j s + (if i == home then m i j s else 0)

pub aways-all : (start : Counts) (t : Table) (home teams : ℕ) (games : List Game) → teams ≡ t.n
    → IsWithAways start (table_counts t) home teams games → IsWithTeam start (table_counts t) home games
aways-all start t home teams games are so_far i j s =
    omega (
      arith,
      so_far i j s,
      all_aways home teams i j (table_counts t i j s) (λ past. no_away t i j s (omega (arith, past, are))),
    )

-- the home games of the teams below one
abbrev pub IsBelow : Counts → ℕ → List Game → Type 0
IsBelow m home games = (i j s : ℕ) → counts_of games i j s ≡ (if nat_lt i home then m i j s else 0)

no_team : (i x : ℕ) → 0 ≡ (if nat_lt i 0 then x else 0)
no_team i x = grind (arith, nat_tests)

pub below-none : (m : Counts) → IsBelow m 0 []
below-none m i j s = no_team i (m i j s)

pub below-more : (m : Counts) (home : ℕ) (games more : List Game) → IsBelow m home games
    → IsWithTeam (counts_of games) m home more → IsBelow m (home + 1) more
below-more m home games more so_far added i j s =
    omega (arith, so_far i j s, added i j s, one_home_more home i (m i j s))

pub below-all : (t : Table) (teams : ℕ) (games more : List Game) → teams ≡ t.n
    → ((i j s : ℕ) → t.n ≤ i → table_counts t i j s ≡ 0) → IsBelow (table_counts t) teams games
    → IsPermutation games more → counts_of more ≡ table_counts t
below-all t teams games more are no_home so_far is =
    counts_of-permutation games more is
    ∙ same_counts (counts_of games) (table_counts t)
    (λ i j s. so_far i j s ∙ all_homes teams i (table_counts t i j s) (λ past. no_home i j s (omega (arith, past, are))))
