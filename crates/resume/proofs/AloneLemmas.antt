-- An edit leaves the first slots alone exactly where the same games take place in them.
use Rattle.std.proofs.Common.{◌≡◌, ℕ, ◌+◌, ◌<◌, ◌≤◌, ◌⊎◌, Bool, true, false, not, ◌&&◌, ◌==◌, nat_lt}
use Rattle.std.proofs.Common.{List, [], ◌∷◌, ap, inl, inr, refl, sym, ◌∙◌, arith}
use Rattle.std.specs.List.{All, list_all}
use Rattle.std.proofs.lemmas.Bool.Decides.{nat_tests}
use Rattle.std.proofs.lemmas.List.Elements.{All-cons, All-head, All-nil, All-tail}
use Rattle.std.proofs.lemmas.List.Sums.{list_all-from_AllPass, sum_by-cons}
use Rattle.league.specs.Counts.{Counts, counts_of, is_game}
use Rattle.league.specs.Instance.{IsGame}
use Rattle.league.specs.Structure.{IsRoundRobin}
use Rattle.league.specs.declared.game.Game.{Game}
use Rattle.league.proofs.RangeLemmas.{one_if}
use Rattle.moves.specs.Moves.{times}
use Rattle.moves.specs.Round.{AreApart, Edits, IsEdit}
use Rattle.moves.proofs.PlayLemmas.{met-le-one, played}
use Rattle.resume.specs.Kept.{Keeps}
use Rattle.resume.specs.Alone.{EditsKeep, leaves_alone}
use Rattle.resume.specs.Changed.{is_open}

-- ---- counts

-- a game of the league is played at most once
pub single : (n : ℕ) (phased : Bool) (m : Counts) (g : Game) → IsRoundRobin n phased m → IsGame n g → times m g ≤ 1
single n phased m g is fits =
    omega (
      arith,
      met-le-one n phased m g.home.0 g.away.0 g.slot.0 (played n phased m is) fits.home fits.away fits.slot,
    )

-- one game more in front
pub counts_of-cons : (g : Game) (games : List Game) (i j s : ℕ)
    → counts_of (g ∷ games) i j s ≡ one_if (is_game i j s g) + counts_of games i j s
counts_of-cons g games i j s = sum_by-cons (λ h. one_if (is_game i j s h)) g games

itself : (h w t : ℕ) → one_if ((h == h) && (w == w) && (t == t)) ≡ 1
itself h w t = grind (arith, nat_tests)

-- what holds of a game that a list has, holds of each of its games
pub each-counted : (Q P : Game → Type 0) (games : List Game) → All Q games
    → ((g : Game) → Q g → 1 ≤ times (counts_of games) g → P g) → All P games
each-counted Q P [] all some = All-nil P
each-counted Q P (g ∷ games) all some =
    All-cons P g games
    (some g (All-head Q g games all)
    (omega (
      arith,
      counts_of-cons g games g.home.0 g.away.0 g.slot.0,
      itself g.home.0 g.away.0 g.slot.0,
    )))
    (each-counted Q P games (All-tail Q g games all)
    (λ h is counted. some h is (omega (arith, counts_of-cons g games h.home.0 h.away.0 h.slot.0, counted))))

-- ---- games from slot k on

pub both : (a b : Bool) → (a && b) ≡ true → (a ≡ true) × (b ≡ true)
both true b is = (refl, is)
both false b is = absurd (let no : false ≡ true = is in cc)

early : (i j s a b t k : ℕ) → s < k → not (nat_lt t k) ≡ true → one_if ((a == i) && (b == j) && (t == s)) ≡ 0
early i j s a b t k slot from = grind (arith, nat_tests)

-- none of them takes place below
pub none-early : (k : ℕ) (games : List Game) → list_all (is_open k) games ≡ true → (i j s : ℕ) → s < k
    → counts_of games i j s ≡ 0
none-early k [] all i j s slot = refl
none-early k (g ∷ games) all i j s slot =
    let parts = both (is_open k g) (list_all (is_open k) games) all in
    omega (
      arith,
      counts_of-cons g games i j s,
      early i j s g.home.0 g.away.0 g.slot.0 k slot parts.0,
      none-early k games parts.1 i j s slot,
    )

open_if : (t k : ℕ) → (t < k → ⊥) → not (nat_lt t k) ≡ true
open_if t k late = grind (arith, nat_tests)

-- ---- the law

above : (x : ℕ) → 1 ≤ x → nat_lt 0 x ≡ true
above x some = grind (arith, nat_tests)

some-of : (x : ℕ) → nat_lt 0 x ≡ true → 1 ≤ x
some-of x is = grind (arith, nat_tests)

-- a game that is played before is played after, where both have the same games
pub same-played : (x y : ℕ) → nat_lt 0 y ≡ nat_lt 0 x → 1 ≤ x → 1 ≤ y
same-played x y same some = some-of y (same ∙ above x some)

-- a game that is taken out and not put in is played no more
taken : (before after out into : ℕ) → (out ≡ 0) ⊎ (into ≡ 0) → 1 ≤ out → out ≤ before
    → after + out ≡ before + into → before ≤ 1 → (1 ≤ before → 1 ≤ after) → ⊥
taken before after out into apart some there moves single keeps = by apart where
  by : (out ≡ 0) ⊎ (into ≡ 0) → ⊥
  by (inl none) = absurd (omega (arith, none, some))
  by (inr none) =
      let stays : 1 ≤ after = keeps (omega (arith, some, there)) in
      absurd (omega (arith, none, some, moves, single, stays))

-- a game that is put in and not taken out was not played
put : (before after out into : ℕ) → (out ≡ 0) ⊎ (into ≡ 0) → 1 ≤ into
    → after + out ≡ before + into → after ≤ 1 → (1 ≤ after → 1 ≤ before) → ⊥
put before after out into apart some moves single keeps = by apart where
  by : (out ≡ 0) ⊎ (into ≡ 0) → ⊥
  by (inr none) = absurd (omega (arith, none, some))
  by (inl none) =
      let was : 1 ≤ before = keeps (omega (arith, none, some, moves)) in
      absurd (omega (arith, none, some, moves, single, was))

alone-keeps : (k : ℕ) (before after : Counts) (edit : Edits) → IsEdit before after edit → leaves_alone k edit ≡ true
    → Keeps before k after
alone-keeps k before after edit is alone i j s slot =
    let parts = both (list_all (is_open k) edit.out) (list_all (is_open k) edit.into) alone in
    let same : after i j s ≡ before i j s =
    omega (
      arith,
      is.moves i j s,
      none-early k edit.out parts.0 i j s slot,
      none-early k edit.into parts.1 i j s slot,
    ) in
    ap (λ (c : ℕ). nat_lt 0 c) same

all_open : (k : ℕ) (games : List Game) → All (λ g. is_open k g ≡ true) games → list_all (is_open k) games ≡ true
all_open k games all = list_all-from_AllPass (is_open k) games all

and_true : (a b : Bool) → a ≡ true → b ≡ true → (a && b) ≡ true
and_true true b is also = also
and_true false b is also = absurd (let no : false ≡ true = is in cc)

keeps-alone : (n k : ℕ) (phased : Bool) (before after : Counts) (edit : Edits) → IsRoundRobin n phased before
    → IsRoundRobin n phased after → IsEdit before after edit → AreApart edit → All (IsGame n) edit.out
    → All (IsGame n) edit.into → Keeps before k after → leaves_alone k edit ≡ true
keeps-alone n k phased before after edit first last is apart out_fit into_fit keeps =
    and_true (list_all (is_open k) edit.out) (list_all (is_open k) edit.into)
    (all_open k edit.out
    (each-counted (IsGame n) (λ g. is_open k g ≡ true) edit.out out_fit
    (λ g fits counted. open_if g.slot.0 k
    (λ slot. taken (times before g) (times after g) (times (counts_of edit.out) g) (times (counts_of edit.into) g)
    (apart g.home.0 g.away.0 g.slot.0) counted (is.there g.home.0 g.away.0 g.slot.0)
    (is.moves g.home.0 g.away.0 g.slot.0) (single n phased before g first fits)
    (same-played (times before g) (times after g) (keeps g.home.0 g.away.0 g.slot.0 slot))))))
    (all_open k edit.into
    (each-counted (IsGame n) (λ g. is_open k g ≡ true) edit.into into_fit
    (λ g fits counted. open_if g.slot.0 k
    (λ slot. put (times before g) (times after g) (times (counts_of edit.out) g) (times (counts_of edit.into) g)
    (apart g.home.0 g.away.0 g.slot.0) counted (is.moves g.home.0 g.away.0 g.slot.0)
    (single n phased after g last fits)
    (same-played (times after g) (times before g) (sym (keeps g.home.0 g.away.0 g.slot.0 slot)))))))

pub edits-keep : EditsKeep
edits-keep n k phased before after edit first last is apart out_fit into_fit = (
  alone-keeps k before after edit is,
  keeps-alone n k phased before after edit first last is apart out_fit into_fit,
)
