-- The table of what each team does in each slot, with one game more or less.
use Rattle.std.proofs.Common.{◌≡◌, ◌≢◌, ◌⊎◌, ℕ, ◌+◌, ◌*◌, ◌<◌, ◌≤◌, Bool, true, false, ◌&&◌, ◌==◌, List, length}
use Rattle.std.proofs.Common.{get_or, set, refl, arith, ap, sym, ◌∙◌, inl, inr}
use Rattle.std.proofs.lemmas.Bool.{cases_eq, cases_lt}
use Rattle.std.proofs.lemmas.Bool.Decides.{nat_tests}
use Rattle.std.proofs.lemmas.List.{get_or-set_other, get_or-set_same, length-set}
use Rattle.std.proofs.lemmas.Nat.{same_from_place}
use Rattle.league.specs.Counts.{is_game}
use Rattle.league.specs.Instance.{IsGame}
use Rattle.league.specs.declared.game.Game.{Game}
use Rattle.league.specs.declared.game.TeamId.{TeamId}
use Rattle.league.proofs.RangeLemmas.{one_if}
use Rattle.rule_core.specs.Opponents.{AreMirrored, IsPut, is_free, place_at}
use Rattle.rule_core.specs.Places.{hosts, visits}
use Rattle.rule_core.specs.declared.place.Place.{Place}
use Rattle.rule_core.specs.declared.place.Place.TheVariants.{Free, Home, Away}

-- a place in a slot that there is
pub place_at-inside : (slots : ℕ) (places : List Place) (i s : ℕ) → s < slots
    → place_at slots places i s ≡ get_or places (i * slots + s) Free
place_at-inside slots places i s h = grind (arith, nat_tests)

-- a place in a slot that there isn't
pub place_at-outside : (slots : ℕ) (places : List Place) (i s : ℕ) → slots ≤ s → place_at slots places i s ≡ Free
place_at-outside slots places i s h = grind (arith, nat_tests)

-- a place that was written, and another
place_at-same : (slots : ℕ) (places : List Place) (i s : ℕ) (p : Place) → s < slots → i * slots + s < length places
    → place_at slots (set places (i * slots + s) p) i s ≡ p
place_at-same slots places i s p in_slot inside = place_at-inside slots (set places (i * slots + s) p) i s in_slot ∙
    get_or-set_same places (i * slots + s) p Free inside

place_at-other : (slots : ℕ) (places : List Place) (i s k t : ℕ) (p : Place) → s < slots → (t ≢ s) ⊎ (k ≢ i)
    → place_at slots (set places (i * slots + s) p) k t ≡ place_at slots places k t
place_at-other slots places i s k t p in_slot differ =
    elim (cases_lt t slots) [
      | inl lt ↦
          let apart : k * slots + t ≢ i * slots + s = λ same.
          let parts = same_from_place k t i s slots lt in_slot same in
          elim differ [ inl other ↦ other parts.1 | inr other ↦ other parts.0 ] in
          place_at-inside slots (set places (i * slots + s) p) k t lt
          ∙ get_or-set_other places (i * slots + s) (k * slots + t) p Free apart
          ∙ sym (place_at-inside slots places k t lt)
      | inr ge ↦ place_at-outside slots (set places (i * slots + s) p) k t ge ∙
          sym (place_at-outside slots places k t ge)
    ]

-- two places that were written: each holds what was written, and all others are as they were
pub record AreWritten (g : Game) (home away : Place) (before after : ℕ → ℕ → Place) : Type 0 where
  pub at_home : after g.home.0 g.slot.0 ≡ home
  pub at_away : after g.away.0 g.slot.0 ≡ away
  pub others : (i s : ℕ) → (s ≢ g.slot.0) ⊎ ((i ≢ g.home.0) × (i ≢ g.away.0)) → after i s ≡ before i s

pub AreWritten-set : (slots : ℕ) (places : List Place) (g : Game) (home away : Place) → g.slot.0 < slots
    → g.home.0 * slots + g.slot.0 < length places → g.away.0 * slots + g.slot.0 < length places
    → g.home.0 ≢ g.away.0
    → AreWritten g home away (place_at slots places)
    (place_at slots (set (set places (g.home.0 * slots + g.slot.0) home) (g.away.0 * slots + g.slot.0) away))
AreWritten-set slots places g home away in_slot at_home at_away differ =
    let first : List Place = set places (g.home.0 * slots + g.slot.0) home in
    let long : length first ≡ length places = length-set places (g.home.0 * slots + g.slot.0) home in
    record {
      at_home = place_at-other slots first g.away.0 g.slot.0 g.home.0 g.slot.0 away in_slot (inr differ) ∙
          place_at-same slots places g.home.0 g.slot.0 home in_slot at_home;
      at_away = place_at-same slots first g.away.0 g.slot.0 away in_slot (omega (arith, long));
      others = λ i s apart.
          let from_away : (s ≢ g.slot.0) ⊎ (i ≢ g.away.0) = elim apart
          [ inl slot ↦ inl slot | inr teams ↦ inr teams.1 ] in
          let from_home : (s ≢ g.slot.0) ⊎ (i ≢ g.home.0) = elim apart
          [ inl slot ↦ inl slot | inr teams ↦ inr teams.0 ] in
          place_at-other slots first g.away.0 g.slot.0 i s away in_slot from_away ∙ place_at-other slots places
          g.home.0 g.slot.0 i s home in_slot from_home;
    }

-- a game is put
pub IsPut-written : (g : Game) (before after : ℕ → ℕ → Place) → before g.home.0 g.slot.0 ≡ Free
    → before g.away.0 g.slot.0 ≡ Free → AreWritten g (Home g.away) (Away g.home) before after → IsPut g before after
IsPut-written g before after home_free away_free written =
    record {
      home_free = home_free;
      away_free = away_free;
      home = written.at_home;
      away = written.at_away;
      others =
          written.others;
    }

-- a game is taken off
pub IsPut-cleared : (g : Game) (before after : ℕ → ℕ → Place) → before g.home.0 g.slot.0 ≡ Home g.away
    → before g.away.0 g.slot.0 ≡ Away g.home → AreWritten g Free Free before after → IsPut g after before
IsPut-cleared g before after home away written =
    record {
      home_free = written.at_home;
      away_free = written.at_away;
      home = home;
      away = away;
      others =
          λ i s apart. sym (written.others i s apart);
    }

-- a place that passes the test of being free is free
pub free_is : (p : Place) → is_free p ≡ true → p ≡ Free
free_is Free h = refl
free_is (Home guest) h = absurd (cc)
free_is (Away host) h = absurd (cc)

same_number : (a b : ℕ) → (a == b) ≡ true → a ≡ b
same_number a b h = grind (arith, nat_tests)

-- a place that passes the test of being at home to a team is that
pub home_is : (p : Place) (t : TeamId) → hosts p t.0 ≡ true → p ≡ Home t
home_is Free t h = absurd (cc)
home_is (Home guest) t h = ap (λ (k : ℕ). Home (record { 0 = k })) (same_number guest.0 t.0 h)
home_is (Away host) t h = absurd (cc)

pub away_is : (p : Place) (t : TeamId) → visits p t.0 ≡ true → p ≡ Away t
away_is Free t h = absurd (cc)
away_is (Home guest) t h = absurd (cc)
away_is (Away host) t h = ap (λ (k : ℕ). Away (record { 0 = k })) (same_number host.0 t.0 h)

-- whether a game is that of a home team, an away team and a slot, by what is known of the last two
game_at_home : (g : Game) (i j s : ℕ) → s ≡ g.slot.0 → i ≡ g.home.0
    → one_if (is_game i j s g) ≡ one_if (g.away.0 == j)
game_at_home g i j s slot home = grind (arith, nat_tests)

game_away : (g : Game) (i j s : ℕ) → s ≡ g.slot.0 → j ≡ g.away.0 → one_if (is_game i j s g) ≡ one_if (g.home.0 == i)
game_away g i j s slot away = grind (arith, nat_tests)

no_game : (g : Game) (i j s : ℕ) → (s ≢ g.slot.0) ⊎ (i ≢ g.home.0) ⊎ (j ≢ g.away.0) → one_if (is_game i j s g) ≡ 0
no_game g i j s differ = grind (arith, nat_tests)

-- a place by its slot and its team
at_place : (places : ℕ → ℕ → Place) (i s k t : ℕ) (p : Place) → i ≡ k → s ≡ t → places k t ≡ p → places i s ≡ p
at_place places i s k t p team slot is = ap (λ (x : ℕ). places x s) team ∙ ap (λ (x : ℕ). places k x) slot ∙ is

-- who is at home to whom, with a game that is put
pub hosts-put : (g : Game) (before after : ℕ → ℕ → Place) → g.home.0 ≢ g.away.0 → IsPut g before after → (i j s : ℕ)
    → one_if (hosts (after i s) j) ≡ one_if (hosts (before i s) j) + one_if (is_game i j s g)
hosts-put g before after differ put i j s =
    let test : Place → ℕ = λ p. one_if (hosts p j) in
    elim (cases_eq s g.slot.0) [
      | inr other ↦ omega (arith, ap test (put.others i s (inl other)), no_game g i j s (inl other))
      | inl slot ↦
          elim (cases_eq i g.home.0) [
            | inl home ↦
                omega (
                  arith,
                  ap test (at_place after i s g.home.0 g.slot.0 (Home g.away) home slot put.home),
                  ap test (at_place before i s g.home.0 g.slot.0 Free home slot put.home_free),
                  game_at_home g i j s slot home,
                )
            | inr not_home ↦
                elim (cases_eq i g.away.0) [
                  | inl away ↦
                      omega (
                        arith,
                        ap test (at_place after i s g.away.0 g.slot.0 (Away g.home) away slot put.away),
                        ap test (at_place before i s g.away.0 g.slot.0 Free away slot put.away_free),
                        no_game g i j s (inr (inl not_home)),
                      )
                  | inr not_away ↦ omega (
                    arith,
                    ap test (put.others i s (inr (not_home, not_away))),
                    no_game g i j s
                        (inr (inl not_home)),
                  )
                ]
          ]
    ]

-- who is away at whom
pub visits-put : (g : Game) (before after : ℕ → ℕ → Place) → g.home.0 ≢ g.away.0 → IsPut g before after
    → (i j s : ℕ) → one_if (visits (after j s) i) ≡ one_if (visits (before j s) i) + one_if (is_game i j s g)
visits-put g before after differ put i j s =
    let test : Place → ℕ = λ p. one_if (visits p i) in
    elim (cases_eq s g.slot.0) [
      | inr other ↦ omega (arith, ap test (put.others j s (inl other)), no_game g i j s (inl other))
      | inl slot ↦
          elim (cases_eq j g.away.0) [
            | inl away ↦
                omega (
                  arith,
                  ap test (at_place after j s g.away.0 g.slot.0 (Away g.home) away slot put.away),
                  ap test (at_place before j s g.away.0 g.slot.0 Free away slot put.away_free),
                  game_away g i j s slot away,
                )
            | inr not_away ↦
                elim (cases_eq j g.home.0) [
                  | inl home ↦
                      omega (
                        arith,
                        ap test (at_place after j s g.home.0 g.slot.0 (Home g.away) home slot put.home),
                        ap test (at_place before j s g.home.0 g.slot.0 Free home slot put.home_free),
                        no_game g i j s (inr (inr not_away)),
                      )
                  | inr not_home ↦ omega (
                    arith,
                    ap test (put.others j s (inr (not_home, not_away))),
                    no_game g i j s
                        (inr (inr not_away)),
                  )
                ]
          ]
    ]

-- two tests that count alike are one
one_test : (a b : Bool) → one_if a ≡ one_if b → a ≡ b
one_test a b h = grind arith

-- a test that counts no more than another passes only where that passes
one_passes : (a b : Bool) (k : ℕ) → one_if b ≡ one_if a + k → a ≡ true → b ≡ true
one_passes a b k h passes = grind arith

-- one of two passes
one_of_two : (a b c : Bool) → one_if a ≡ one_if b + one_if c → a ≡ true → (b ≡ true) ⊎ (c ≡ true)
one_of_two true true c h passes = inl refl
one_of_two true false true h passes = inr refl
one_of_two true false false h passes = absurd (omega arith)
one_of_two false b c h passes = absurd (cc)

teams_from : (a b c d e f n : ℕ) → ((a == b) && (c == d) && (e == f)) ≡ true → a < n → c < n → (b < n) × (d < n)
teams_from a b c d e f n h first second = (home, away) where
  home : b < n
  home = grind (arith, nat_tests)

  away : d < n
  away = grind (arith, nat_tests)

is_game-teams : (n : ℕ) (g : Game) (i j s : ℕ) → IsGame n g → is_game i j s g ≡ true → (i < n) × (j < n)
is_game-teams n g i j s fits is = teams_from g.home.0 i g.away.0 j g.slot.0 s n is fits.home fits.away

-- the two halves of the table fit each other with a game that is put, and with one that is taken off
pub AreMirrored-put : (n : ℕ) (g : Game) (before after : ℕ → ℕ → Place) → IsGame n g → IsPut g before after
    → AreMirrored n before → AreMirrored n after
AreMirrored-put n g before after fits put mirrored = record {
  same = λ i j s.
      one_test (hosts (after i s) j) (visits (after j s) i)
      (omega (
        arith,
        hosts-put g before after fits.differ put i j s,
        visits-put g before after fits.differ put i j
            s,
        ap one_if (mirrored.same i j s),
      ));
  teams = λ i j s hosted.
      elim (one_of_two (hosts (after i s) j) (hosts (before i s) j) (is_game i j s g)
      (hosts-put g before after fits.differ put i j s) hosted) [
        | inl was ↦ mirrored.teams i j s was
        | inr is ↦ is_game-teams n g i j s fits is
      ];
}

pub AreMirrored-taken : (n : ℕ) (g : Game) (before after : ℕ → ℕ → Place) → IsGame n g → IsPut g before after
    → AreMirrored n after → AreMirrored n before
AreMirrored-taken n g before after fits put mirrored = record {
  same = λ i j s.
      one_test (hosts (before i s) j) (visits (before j s) i)
      (omega (
        arith,
        hosts-put g before after fits.differ put i j s,
        visits-put g before after fits.differ put i j
            s,
        ap one_if (mirrored.same i j s),
      ));
  teams = λ i j s hosted.
      mirrored.teams i j s
      (one_passes (hosts (before i s) j) (hosts (after i s) j) (one_if (is_game i j s g))
      (hosts-put g before after fits.differ put i j s) hosted);
}

-- no team is at home to itself
pub not_itself : (n : ℕ) (places : ℕ → ℕ → Place) → AreMirrored n places → (i s : ℕ) → hosts (places i s) i ≡ false
not_itself n places mirrored i s = neither (places i s) i (mirrored.same i i s) where
  neither : (p : Place) (i : ℕ) → hosts p i ≡ visits p i → hosts p i ≡ false
  neither Free i same = refl
  neither (Home guest) i same = same
  neither (Away host) i same = refl
