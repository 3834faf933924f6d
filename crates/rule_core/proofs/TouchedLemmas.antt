-- The keys that a game touches, by class: few, of entries, and ascending.
use Rattle.std.proofs.Common.{◌≡◌, ℕ, zero, suc, ◌-◌, ◌<◌, ◌≤◌, Bool, true, ◌&&◌, ◌||◌, ◌==◌, if◌then◌else◌, List, [], ◌∷◌, length, arith, ap, ◌⊎◌, inl, inr, IsTrue}
use Rattle.std.specs.Prelude.{nat_le, nat_lt}
use Rattle.std.proofs.lemmas.Bool.{and_parts, cond_both, or_cases}
use Rattle.std.proofs.lemmas.Bool.Decides.{nat_tests}
use Rattle.std.proofs.lemmas.List.Elements.{All-nil}
use Rattle.std.specs.List.{All, list_any}
use Rattle.std.specs.List.Sorted.{IsStrictlyIncreasing}
use Rattle.std.specs.Ordering.{nat_cmp}
use Rattle.league.specs.Capacity.{is_between}
use Rattle.league.specs.Sets.{is_in}
use Rattle.league.specs.Deviation.{spans}
use Rattle.league.specs.Instance.{IsGame, are_slots, are_teams, is_one_side}
use Rattle.league.specs.Meetings.{pairs_of}
use Rattle.league.specs.Sets.{IsAscending}
use Rattle.league.specs.declared.class.Class.{Class}
use Rattle.league.specs.declared.class.Class.TheVariants.{Ca1, Ca2, Ca3, Ca4, Ga1, Br1, Br2, Fa2, Se1}
use Rattle.league.specs.declared.class.Side.{Side}
use Rattle.league.specs.declared.class.Side.TheVariants.{H, A, Both}
use Rattle.league.specs.declared.class.Span.{Span}
use Rattle.league.specs.declared.class.Span.TheVariants.{Global, Every}
use Rattle.league.specs.declared.game.Game.{Game}
use Rattle.league.proofs.FitLemmas.{are_slots-ascending, are_teams-ascending}
use Rattle.rule_core.specs.Keys.{keys_where}
use Rattle.rule_core.specs.Meetings.{is_listed}
use Rattle.rule_core.specs.Pairs.{has_team, keys_with}
use Rattle.rule_core.specs.Ready.{IsReady, entry_count}
use Rattle.rule_core.specs.Touched.{can_break, most_touched, plays_against, plays_on, touched_keys}
use Rattle.rule_core.proofs.KeyLemmas.{keys_where-ascending, keys_where-below, keys_where-le, keys_where-map, keys_where-one, keys_where-two}
use Rattle.rule_core.proofs.PairLemmas.{key_between-few, keys_with-few}

-- what holds of some keys and of none holds of the keys where a test passes
where_passes : (P : List ℕ → Type 0) (test : Bool) (ks : List ℕ) → P ks → P [] → P (if test then ks else [])
where_passes P test ks some none = cond_both test ks [] P (λ e. some) (λ e. none)

-- the one key
all_one : (P : ℕ → Type 0) (x : ℕ) → P x → All P (x ∷ [])
all_one P x h zero d lt = h
all_one P x h (suc k) d lt = absurd (omega arith)

increasing-none : IsStrictlyIncreasing []
increasing-none k lt = absurd (omega arith)

increasing-one : (x : ℕ) → IsStrictlyIncreasing (x ∷ [])
increasing-one x k lt = absurd (omega arith)

under : (count : ℕ) (test : Bool) (ks : List ℕ) → All (λ k. k < count) ks → All (λ k. k < count) (if test then ks else [])
under count test ks below = where_passes (λ ls. All (λ k. k < count) ls) test ks below (All-nil (λ k. k < count))

rising : (test : Bool) (ks : List ℕ) → IsStrictlyIncreasing ks → IsStrictlyIncreasing (if test then ks else [])
rising test ks increasing = where_passes IsStrictlyIncreasing test ks increasing increasing-none

at_most : (most : ℕ) (test : Bool) (ks : List ℕ) → length ks ≤ most → length (if test then ks else []) ≤ most
at_most most test ks few = where_passes (λ ls. length ls ≤ most) test ks few (omega arith)

-- each is that of an entry
pub touched_keys-below : (class : Class) (g : Game) → All (λ k. k < entry_count class) (touched_keys class g)
touched_keys-below (Ca1 teams min max side slots) g = under (length teams) (is_in g.slot.0 slots) (keys_where (plays_on side g) teams) (keys_where-below (plays_on side g) teams)
touched_keys-below (Ca2 teams1 teams2 min max side slots) g = under (length teams1) (is_in g.slot.0 slots) (keys_where (plays_against side teams2 g) teams1) (keys_where-below (plays_against side teams2 g) teams1)
touched_keys-below (Ca3 teams1 teams2 min max intp side) g = keys_where-below (plays_against side teams2 g) teams1
touched_keys-below (Ca4 teams1 teams2 min max side span slots) g = under (length (spans span slots)) (is_between side teams1 teams2 (g.home.0, g.away.0)) (keys_where (is_in g.slot.0) (spans span slots)) (keys_where-below (is_in g.slot.0) (spans span slots))
touched_keys-below (Ga1 meetings min max slots) g = under 1 (is_listed meetings g.home.0 g.away.0 && is_in g.slot.0 slots) (0 ∷ []) (all_one (λ k. k < 1) 0 (omega arith))
touched_keys-below (Br1 teams intp side slots) g = under (length teams) (can_break slots g.slot.0) (keys_where (plays_on side g) teams) (keys_where-below (plays_on side g) teams)
touched_keys-below (Br2 teams intp slots) g = under 1 (can_break slots g.slot.0 && (is_in g.home.0 teams || is_in g.away.0 teams)) (0 ∷ []) (all_one (λ k. k < 1) 0 (omega arith))
touched_keys-below (Fa2 teams intp slots) g = under (length (pairs_of teams)) (list_any (λ s. nat_le g.slot.0 s) slots) (keys_with teams g.home.0) (keys_where-below (has_team g.home.0) (pairs_of teams))
touched_keys-below (Se1 teams min) g = keys_where-below (λ p. has_team g.home.0 p && has_team g.away.0 p) (pairs_of teams)

-- the touched keys ascend
pub touched_keys-ascending : (class : Class) (g : Game) → IsStrictlyIncreasing (touched_keys class g)
touched_keys-ascending (Ca1 teams min max side slots) g = rising (is_in g.slot.0 slots) (keys_where (plays_on side g) teams) (keys_where-ascending (plays_on side g) teams)
touched_keys-ascending (Ca2 teams1 teams2 min max side slots) g = rising (is_in g.slot.0 slots) (keys_where (plays_against side teams2 g) teams1) (keys_where-ascending (plays_against side teams2 g) teams1)
touched_keys-ascending (Ca3 teams1 teams2 min max intp side) g = keys_where-ascending (plays_against side teams2 g) teams1
touched_keys-ascending (Ca4 teams1 teams2 min max side span slots) g = rising (is_between side teams1 teams2 (g.home.0, g.away.0)) (keys_where (is_in g.slot.0) (spans span slots)) (keys_where-ascending (is_in g.slot.0) (spans span slots))
touched_keys-ascending (Ga1 meetings min max slots) g = rising (is_listed meetings g.home.0 g.away.0 && is_in g.slot.0 slots) (0 ∷ []) (increasing-one 0)
touched_keys-ascending (Br1 teams intp side slots) g = rising (can_break slots g.slot.0) (keys_where (plays_on side g) teams) (keys_where-ascending (plays_on side g) teams)
touched_keys-ascending (Br2 teams intp slots) g = rising (can_break slots g.slot.0 && (is_in g.home.0 teams || is_in g.away.0 teams)) (0 ∷ []) (increasing-one 0)
touched_keys-ascending (Fa2 teams intp slots) g = rising (list_any (λ s. nat_le g.slot.0 s) slots) (keys_with teams g.home.0) (keys_where-ascending (has_team g.home.0) (pairs_of teams))
touched_keys-ascending (Se1 teams min) g = keys_where-ascending (λ p. has_team g.home.0 p && has_team g.away.0 p) (pairs_of teams)

-- a number that passes a test of one is it
is_one : (x t : ℕ) → (x == t) ≡ true → x ≡ t
is_one x t h = grind (arith, nat_tests)

is_either : (x t u : ℕ) → ((x == t) || (x == u)) ≡ true → (x ≡ t) ⊎ (x ≡ u)
is_either x t u h = elim (or_cases (x == t) (x == u) h) [ inl first ↦ inl (is_one x t first) | inr second ↦ inr (is_one x u second) ]

-- a game has one team on a side, and two on both
players-one : (side : Side) (g : Game) (teams : List ℕ) → IsTrue (is_one_side side) → IsAscending nat_cmp teams → length (keys_where (plays_on side g) teams) ≤ 1
players-one H g teams one ascending = keys_where-one (plays_on H g) teams g.home.0 ascending (λ x h. is_one x g.home.0 h)
players-one A g teams one ascending = keys_where-one (plays_on A g) teams g.away.0 ascending (λ x h. is_one x g.away.0 h)
players-one Both g teams one ascending = absurd (cc)

pub plays_on-either : (side : Side) (g : Game) (x : ℕ) → plays_on side g x ≡ true → (x ≡ g.home.0) ⊎ (x ≡ g.away.0)
plays_on-either H g x h = inl (is_one x g.home.0 h)
plays_on-either A g x h = inr (is_one x g.away.0 h)
plays_on-either Both g x h = is_either x g.home.0 g.away.0 h

pub plays_against-either : (side : Side) (others : List ℕ) (g : Game) (x : ℕ) → plays_against side others g x ≡ true → (x ≡ g.home.0) ⊎ (x ≡ g.away.0)
plays_against-either H others g x h = inl (is_one x g.home.0 (and_parts (x == g.home.0) (is_in g.away.0 others) h).0)
plays_against-either A others g x h = inr (is_one x g.away.0 (and_parts (x == g.away.0) (is_in g.home.0 others) h).0)
plays_against-either Both others g x h =
    elim (or_cases ((x == g.home.0) && is_in g.away.0 others) ((x == g.away.0) && is_in g.home.0 others) h) [
      | inl home ↦ inl (is_one x g.home.0 (and_parts (x == g.home.0) (is_in g.away.0 others) home).0)
      | inr away ↦ inr (is_one x g.away.0 (and_parts (x == g.away.0) (is_in g.home.0 others) away).0)
    ]

-- at most the two teams of a game play it against others
opponents-two : (n : ℕ) (teams1 teams2 : List ℕ) (side : Side) (g : Game) → (are_teams n teams1 && are_teams n teams2) ≡ true → length (keys_where (plays_against side teams2 g) teams1) ≤ 2
opponents-two n teams1 teams2 side g are =
    keys_where-two (plays_against side teams2 g) teams1 g.home.0 g.away.0 (are_teams-ascending n teams1 (and_parts (are_teams n teams1) (are_teams n teams2) are).0) (plays_against-either side teams2 g)

-- a slot is in one span at most
in_span : (s t : ℕ) → is_in s (t ∷ []) ≡ true → t ≡ s
in_span s t h = grind (arith, nat_tests)

spans-one : (span : Span) (slots : List ℕ) (s : ℕ) → IsAscending nat_cmp slots → length (keys_where (is_in s) (spans span slots)) ≤ 1
spans-one Global slots s ascending = keys_where-le (is_in s) (slots ∷ [])
spans-one Every slots s ascending =
    omega (arith, ap (λ (ks : List ℕ). length ks) (keys_where-map (is_in s) (λ t. t ∷ []) slots), keys_where-one (λ t. is_in s (t ∷ [])) slots s ascending (λ t h. in_span s t h))

-- the touched keys are few
pub touched_keys-few : (n : ℕ) (class : Class) → IsReady n class → (g : Game) → IsGame n g → length (touched_keys class g) ≤ most_touched class
touched_keys-few n (Ca1 teams min max side slots) ready g fits =
    let parts = and_parts (are_teams n teams && are_slots n slots) (is_one_side side) ready.fits in
    at_most 1 (is_in g.slot.0 slots) (keys_where (plays_on side g) teams) (players-one side g teams parts.1 (are_teams-ascending n teams (and_parts (are_teams n teams) (are_slots n slots) parts.0).0))
touched_keys-few n (Ca2 teams1 teams2 min max side slots) ready g fits =
    let parts = and_parts (are_teams n teams1 && are_teams n teams2) (are_slots n slots) ready.fits in
    at_most 2 (is_in g.slot.0 slots) (keys_where (plays_against side teams2 g) teams1) (opponents-two n teams1 teams2 side g parts.0)
touched_keys-few n (Ca3 teams1 teams2 min max intp side) ready g fits =
    opponents-two n teams1 teams2 side g (and_parts (are_teams n teams1 && are_teams n teams2) (nat_lt 0 intp) ready.fits).0
touched_keys-few n (Ca4 teams1 teams2 min max side span slots) ready g fits =
    at_most 1 (is_between side teams1 teams2 (g.home.0, g.away.0)) (keys_where (is_in g.slot.0) (spans span slots))
    (spans-one span slots g.slot.0 (are_slots-ascending n slots (and_parts (are_teams n teams1 && are_teams n teams2) (are_slots n slots) ready.fits).1))
touched_keys-few n (Ga1 meetings min max slots) ready g fits =
    at_most 1 (is_listed meetings g.home.0 g.away.0 && is_in g.slot.0 slots) (0 ∷ []) (omega arith)
touched_keys-few n (Br1 teams intp side slots) ready g fits =
    at_most 2 (can_break slots g.slot.0) (keys_where (plays_on side g) teams)
    (keys_where-two (plays_on side g) teams g.home.0 g.away.0 (are_teams-ascending n teams (and_parts (are_teams n teams) (are_slots n slots) ready.fits).0) (plays_on-either side g))
touched_keys-few n (Br2 teams intp slots) ready g fits =
    at_most 1 (can_break slots g.slot.0 && (is_in g.home.0 teams || is_in g.away.0 teams)) (0 ∷ []) (omega arith)
touched_keys-few n (Fa2 teams intp slots) ready g fits =
    at_most (length teams - 1) (list_any (λ s. nat_le g.slot.0 s) slots) (keys_with teams g.home.0)
    (keys_with-few teams g.home.0 (are_teams-ascending n teams (and_parts (are_teams n teams) (are_slots n slots) ready.fits).0))
touched_keys-few n (Se1 teams min) ready g fits = key_between-few teams g.home.0 g.away.0 (are_teams-ascending n teams ready.fits) fits.differ
