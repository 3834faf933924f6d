-- The games of a team: a test that only its games pass leaves of them what it leaves of all.
use Rattle.std.proofs.Common.{◌≡◌, ℕ, ◌+◌, ◌<◌, Bool, true, false, ◌&&◌, ◌||◌, ◌==◌, cond, List, [], ◌∷◌, get_or, length, refl, arith, ap, sym, ◌∙◌, inl, inr}
use Rattle.std.proofs.lemmas.Bool.{cases_Bool}
use Rattle.std.proofs.lemmas.List.{get_or-map}
use Rattle.std.proofs.lemmas.List.FromFn.{get_or-range_with_len, length-range_with_len}
use Rattle.std.specs.List.{filter, range_with_len}
use Rattle.std.specs.Prelude.{nat_le}
use Rattle.league.specs.Sets.{is_in}
use Rattle.league.specs.declared.class.Side.{Side}
use Rattle.league.specs.declared.class.Side.TheVariants.{H, A, Both}
use Rattle.league.specs.declared.game.Game.{Game}
use Rattle.rule_core.specs.Touched.{plays_against, plays_on}
use Rattle.season_misses.specs.Counting.{counts_in_fa2, counts_in_se1}
use Rattle.season_misses.specs.Own.{games_by_team, own_games}

-- ---- filters

-- what passes two tests, one after the other
pub filter-both : {X : Type 0} (p q : X → Bool) (xs : List X) → filter p (filter q xs) ≡ filter (λ x. q x && p x) xs
filter-both {X} p q [] = refl
filter-both {X} p q (x ∷ xs) =
    let rest : List X = filter q xs in
    let both : List X = filter (λ y. q y && p y) xs in
    elim (cases_Bool (q x)) [
      | inl passes ↦
          ap (λ (b : Bool). filter p (cond b (x ∷ rest) rest)) passes
          ∙ ap (λ (ys : List X). cond (p x) (x ∷ ys) ys) (filter-both p q xs)
          ∙ sym (ap (λ (b : Bool). cond (b && p x) (x ∷ both) both) passes)
      | inr fails ↦
          ap (λ (b : Bool). filter p (cond b (x ∷ rest) rest)) fails
          ∙ filter-both p q xs
          ∙ sym (ap (λ (b : Bool). cond (b && p x) (x ∷ both) both) fails)
    ]

-- tests that agree
pub filter-same : {X : Type 0} (p q : X → Bool) → ((x : X) → p x ≡ q x) → (xs : List X) → filter p xs ≡ filter q xs
filter-same {X} p q same [] = refl
filter-same {X} p q same (x ∷ xs) =
    ap (λ (b : Bool). cond b (x ∷ filter p xs) (filter p xs)) (same x)
    ∙ ap (λ (ys : List X). cond (q x) (x ∷ ys) ys) (filter-same p q same xs)

and-false : (b : Bool) → (b && false) ≡ false
and-false true = refl
and-false false = refl

-- a test that passes nothing but what passes another one
pub narrower : {X : Type 0} (p q : X → Bool) → ((x : X) → p x ≡ true → q x ≡ true) → (x : X) → (q x && p x) ≡ p x
narrower {X} p q within x =
    elim (cases_Bool (p x)) [
      | inl passes ↦ ap (λ (b : Bool). b && p x) (within x passes)
      | inr fails ↦ ap (λ (b : Bool). q x && b) fails ∙ and-false (q x) ∙ sym fails
    ]

pub filter-within : {X : Type 0} (p q : X → Bool) → ((x : X) → p x ≡ true → q x ≡ true) → (xs : List X) → filter p (filter q xs) ≡ filter p xs
filter-within {X} p q within xs = filter-both p q xs ∙ filter-same (λ x. q x && p x) p (narrower p q within) xs

-- ---- the games of a team

pub own-read : (n : ℕ) (games : List Game) (i : ℕ) → i < n → get_or (games_by_team n games) i [] ≡ own_games games i
own-read n games i below =
    let long : length (range_with_len 0 n) ≡ n = length-range_with_len 0 n in
    let at : get_or (range_with_len 0 n) i 0 ≡ 0 + i = get_or-range_with_len 0 n i 0 below in
    let here : get_or (range_with_len 0 n) i 0 ≡ i = omega arith in
    get_or-map (own_games games) (range_with_len 0 n) i 0 [] (omega arith)
    ∙ ap (own_games games) here

either-left : (a b : Bool) → a ≡ true → (a || b) ≡ true
either-left a b is = ap (λ (c : Bool). c || b) is

either-right : (a b : Bool) → b ≡ true → (a || b) ≡ true
either-right true b is = refl
either-right false b is = is

first-of : (a b : Bool) → (a && b) ≡ true → a ≡ true
first-of true b is = refl
first-of false b is = is

-- of two, of which one holds, each with something beside it
one-of : (a b c d : Bool) → ((a && c) || (b && d)) ≡ true → (a || b) ≡ true
one-of true b c d is = refl
one-of false b c d is = first-of b d is

-- a team that plays on a side against others plays
pub against-plays : (side : Side) (teams : List ℕ) (g : Game) (i : ℕ) → plays_against side teams g i ≡ true → plays_on Both g i ≡ true
against-plays H teams g i is = either-left (i == g.home.0) (i == g.away.0) (first-of (i == g.home.0) (is_in g.away.0 teams) is)
against-plays A teams g i is = either-right (i == g.home.0) (i == g.away.0) (first-of (i == g.away.0) (is_in g.home.0 teams) is)
against-plays Both teams g i is = one-of (i == g.home.0) (i == g.away.0) (is_in g.away.0 teams) (is_in g.home.0 teams) is

-- so does one whose home game counts, and the first of two teams in their mutual games
pub home-plays : (i s : ℕ) (g : Game) → counts_in_fa2 i s g ≡ true → plays_on Both g i ≡ true
home-plays i s g is = either-left (i == g.home.0) (i == g.away.0) (first-of (i == g.home.0) (nat_le g.slot.0 s) is)

one-of-crossed : (a b c d : Bool) → ((a && b) || (c && d)) ≡ true → (a || d) ≡ true
one-of-crossed true b c d is = refl
one-of-crossed false b true d is = is
one-of-crossed false b false d is = absurd (let no : false ≡ true = is in cc)

pub mutual-plays : (p : ℕ × ℕ) (g : Game) → counts_in_se1 p g ≡ true → plays_on Both g p.0 ≡ true
mutual-plays p g is = one-of-crossed (p.0 == g.home.0) (p.1 == g.away.0) (p.1 == g.home.0) (p.0 == g.away.0) is
