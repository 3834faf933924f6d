-- A game of two teams that a constraint doesn't watch touches no key, by class.
use Rattle.std.proofs.Common.{◌≡◌, ℕ, Bool, true, false, ◌&&◌, ◌||◌, ◌==◌, if◌then◌else◌, List, [], ◌∷◌, get_or, refl, ap, ◌∙◌, ◌⊎◌, inl, inr}
use Rattle.std.specs.Prelude.{nat_le}
use Rattle.std.proofs.lemmas.Bool.{cases_Bool, cond_both, or_parts}
use Rattle.std.specs.List.{list_any}
use Rattle.league.specs.Capacity.{is_between}
use Rattle.league.specs.Deviation.{spans}
use Rattle.league.specs.Sets.{is_in}
use Rattle.league.specs.declared.class.Class.{Class}
use Rattle.league.specs.declared.class.Class.TheVariants.{Ca1, Ca2, Ca3, Ca4, Ga1, Br1, Br2, Fa2, Se1}
use Rattle.league.specs.declared.class.Side.{Side}
use Rattle.league.specs.declared.class.Side.TheVariants.{H, A, Both}
use Rattle.league.specs.declared.game.Game.{Game}
use Rattle.league.proofs.MemberLemmas.{is_in-lacks}
use Rattle.rule_core.specs.Meetings.{is_listed}
use Rattle.rule_core.specs.Keys.{keys_where}
use Rattle.rule_core.specs.Pairs.{keys_with}
use Rattle.rule_core.proofs.KeyLemmas.{keys_where-none}
use Rattle.rule_core.proofs.PairLemmas.{key_between-no_first, keys_with-none}
use Rattle.rule_core.specs.Touched.{can_break, is_host, is_watched, plays_against, plays_on, touched_keys}
use Rattle.rule_core.proofs.TouchedLemmas.{plays_against-either, plays_on-either}

-- keys that are there where a test passes are none where it fails, and where they are none
if_fails : (test : Bool) (ks : List ℕ) → test ≡ false → (if test then ks else []) ≡ []
if_fails test ks fails = ap (λ (b : Bool). if b then ks else []) fails

if_none : (test : Bool) (ks : List ℕ) → ks ≡ [] → (if test then ks else []) ≡ []
if_none test ks none = cond_both test ks [] (λ ls. ls ≡ []) (λ e. none) (λ e. refl)

-- a test that only two teams can pass, which aren't among some, passes for none of these
none_passes : (test : ℕ → Bool) (teams : List ℕ) (t u : ℕ) → ((x : ℕ) → test x ≡ true → (x ≡ t) ⊎ (x ≡ u))
    → is_in t teams ≡ false → is_in u teams ≡ false → keys_where test teams ≡ []
none_passes test teams t u either first second =
    keys_where-none test teams (λ k d lt.
    elim (cases_Bool (test (get_or teams k d))) [
      | inl passes ↦ absurd (elim (either (get_or teams k d) passes) [
        | inl same ↦ is_in-lacks t teams first k d lt same
        | inr same ↦ is_in-lacks u teams second k d lt same
      ])
      | inr fails ↦ fails
    ])

-- a meeting of two teams that aren't of teams1 is none of theirs with others
not_between : (side : Side) (teams1 teams2 : List ℕ) (i j : ℕ) → is_in i teams1 ≡ false → is_in j teams1 ≡ false
    → is_between side teams1 teams2 (i, j) ≡ false
not_between H teams1 teams2 i j first second = ap (λ (b : Bool). b && is_in j teams2) first
not_between A teams1 teams2 i j first second = ap (λ (b : Bool). b && is_in i teams2) second
not_between Both teams1 teams2 i j first second =
    ap (λ (b : Bool). (b && is_in j teams2) || (is_in j teams1 && is_in i teams2)) first
    ∙ ap (λ (b : Bool). b && is_in i teams2) second

-- a team that is at home in none of some meetings has none of them at home
pub is_listed-no_host : (meetings : List (ℕ × ℕ)) (i j : ℕ) → is_host meetings i ≡ false → is_listed meetings i j ≡ false
is_listed-no_host [] i j out = refl
is_listed-no_host (p ∷ meetings) i j out =
    let parts = or_parts (p.0 == i) (is_host meetings i) out in
    ap (λ (b : Bool). (b && (p.1 == j)) || is_listed meetings i j) parts.0 ∙ is_listed-no_host meetings i j parts.1

second_fails : (a b : Bool) → b ≡ false → (a && b) ≡ false
second_fails true b fails = fails
second_fails false b fails = refl

-- a game of two teams that aren't watched touches no key
pub touched_keys-quiet : (class : Class) (g : Game) → is_watched class g.home.0 ≡ false → is_watched class g.away.0 ≡ false
    → touched_keys class g ≡ []
touched_keys-quiet (Ca1 teams min max side slots) g home away =
    if_none (is_in g.slot.0 slots) (keys_where (plays_on side g) teams)
    (none_passes (plays_on side g) teams g.home.0 g.away.0 (plays_on-either side g) home away)
touched_keys-quiet (Ca2 teams1 teams2 min max side slots) g home away =
    if_none (is_in g.slot.0 slots) (keys_where (plays_against side teams2 g) teams1)
    (none_passes (plays_against side teams2 g) teams1 g.home.0 g.away.0 (plays_against-either side teams2 g) home away)
touched_keys-quiet (Ca3 teams1 teams2 min max intp side) g home away =
    none_passes (plays_against side teams2 g) teams1 g.home.0 g.away.0 (plays_against-either side teams2 g) home away
touched_keys-quiet (Ca4 teams1 teams2 min max side span slots) g home away =
    if_fails (is_between side teams1 teams2 (g.home.0, g.away.0)) (keys_where (is_in g.slot.0) (spans span slots))
    (not_between side teams1 teams2 g.home.0 g.away.0 home away)
touched_keys-quiet (Ga1 meetings min max slots) g home away =
    if_fails (is_listed meetings g.home.0 g.away.0 && is_in g.slot.0 slots) (0 ∷ [])
    (ap (λ (b : Bool). b && is_in g.slot.0 slots) (is_listed-no_host meetings g.home.0 g.away.0 home))
touched_keys-quiet (Br1 teams intp side slots) g home away =
    if_none (can_break slots g.slot.0) (keys_where (plays_on side g) teams)
    (none_passes (plays_on side g) teams g.home.0 g.away.0 (plays_on-either side g) home away)
touched_keys-quiet (Br2 teams intp slots) g home away =
    let listed : Bool = is_in g.home.0 teams || is_in g.away.0 teams in
    let unlisted : listed ≡ false = ap (λ (b : Bool). b || is_in g.away.0 teams) home ∙ away in
    if_fails (can_break slots g.slot.0 && listed) (0 ∷ []) (second_fails (can_break slots g.slot.0) listed unlisted)
touched_keys-quiet (Fa2 teams intp slots) g home away =
    if_none (list_any (λ s. nat_le g.slot.0 s) slots) (keys_with teams g.home.0)
    (keys_with-none g.home.0 teams (is_in-lacks g.home.0 teams home))
touched_keys-quiet (Se1 teams min) g home away =
    key_between-no_first teams g.home.0 g.away.0 (is_in-lacks g.home.0 teams home)
