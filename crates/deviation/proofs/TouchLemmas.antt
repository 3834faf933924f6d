-- The keys of the teams of a game that play on a side against some others, by who is one of the others.
use Rattle.std.proofs.Common.{◌≡◌, ℕ, Bool, true, false, ◌&&◌, ◌||◌, ◌==◌, List, [], get_or, refl, ap, sym, ◌∙◌}
use Rattle.league.specs.Sets.{is_in}
use Rattle.league.specs.declared.game.Game.{Game}
use Rattle.league.specs.declared.class.Side.{Side}
use Rattle.league.specs.declared.class.Side.TheVariants.{H, A, Both}
use Rattle.rule_core.specs.Keys.{keys_where}
use Rattle.rule_core.specs.Touched.{plays_against}
use Rattle.rule_core.proofs.KeyLemmas.{keys_where-none, keys_where-same}

with_true : (p : Bool) → p ≡ (p && true)
with_true true = refl
with_true false = refl

with_false : (p : Bool) → (p && false) ≡ false
with_false true = refl
with_false false = refl

-- two tests, each with a condition that holds or doesn't
both_hold : (p q : Bool) → (p || q) ≡ ((p && true) || (q && true))
both_hold true q = refl
both_hold false q = with_true q

first_holds : (p q : Bool) → p ≡ ((p && true) || (q && false))
first_holds true q = refl
first_holds false q = sym (with_false q)

second_holds : (p q : Bool) → q ≡ ((p && false) || (q && true))
second_holds true q = with_true q
second_holds false q = with_true q

none_holds : (p q : Bool) → ((p && false) || (q && false)) ≡ false
none_holds true q = with_false q
none_holds false q = with_false q

-- the keys of a team that passes under a condition, and of two
one_where : (b : Bool) (t : ℕ) (teams : List ℕ) → b ≡ true → keys_where (λ x. x == t) teams ≡ keys_where (λ x. (x == t) && b) teams
one_where b t teams holds =
    keys_where-same (λ x. x == t) (λ x. (x == t) && true) teams (λ k d lt. with_true (get_or teams k d == t)) ∙ ap (λ (c : Bool). keys_where (λ x. (x == t) && c) teams) (sym holds)

none_where : (b : Bool) (t : ℕ) (teams : List ℕ) → b ≡ false → keys_where (λ x. (x == t) && b) teams ≡ []
none_where b t teams fails =
    ap (λ (c : Bool). keys_where (λ x. (x == t) && c) teams) fails ∙ keys_where-none (λ x. (x == t) && false) teams (λ k d lt. with_false (get_or teams k d == t))

module _ (teams others : List ℕ) (g : Game) where
  -- the keys that a game touches on a side, by an equal side
  of_side : (side other : Side) (keys : List ℕ) → side ≡ other → keys ≡ keys_where (plays_against other others g) teams → keys ≡ keys_where (plays_against side others g) teams
  of_side side other keys same is = is ∙ ap (λ (s : Side). keys_where (plays_against s others g) teams) (sym same)

  -- at home
  pub home-one : (side : Side) → side ≡ H → true ≡ is_in g.away.0 others → keys_where (λ x. x == g.home.0) teams ≡ keys_where (plays_against side others g) teams
  home-one side same there = of_side side H (keys_where (λ x. x == g.home.0) teams) same (one_where (is_in g.away.0 others) g.home.0 teams (sym there))

  pub home-none : (side : Side) → side ≡ H → false ≡ is_in g.away.0 others → keys_where (plays_against side others g) teams ≡ []
  home-none side same out = sym (of_side side H [] same (sym (none_where (is_in g.away.0 others) g.home.0 teams (sym out))))

  -- away
  pub away-one : (side : Side) → side ≡ A → true ≡ is_in g.home.0 others → keys_where (λ x. x == g.away.0) teams ≡ keys_where (plays_against side others g) teams
  away-one side same there = of_side side A (keys_where (λ x. x == g.away.0) teams) same (one_where (is_in g.home.0 others) g.away.0 teams (sym there))

  pub away-none : (side : Side) → side ≡ A → false ≡ is_in g.home.0 others → keys_where (plays_against side others g) teams ≡ []
  away-none side same out = sym (of_side side A [] same (sym (none_where (is_in g.home.0 others) g.away.0 teams (sym out))))

  -- on both sides, by two tests
  abbrev by_tests : Bool → Bool → List ℕ
  by_tests a b = keys_where (λ x. ((x == g.home.0) && a) || ((x == g.away.0) && b)) teams

  tests-are : (side : Side) (a b : Bool) → side ≡ Both → a ≡ is_in g.away.0 others → b ≡ is_in g.home.0 others → by_tests a b ≡ keys_where (plays_against side others g) teams
  tests-are side a b same away home = of_side side Both (by_tests a b) same (ap (λ (c : Bool). by_tests c b) away ∙ ap (by_tests (is_in g.away.0 others)) home)

  pub both-two : (side : Side) → side ≡ Both → true ≡ is_in g.away.0 others → true ≡ is_in g.home.0 others → keys_where (λ x. (x == g.home.0) || (x == g.away.0)) teams ≡ keys_where (plays_against side others g) teams
  both-two side same away home =
      keys_where-same (λ x. (x == g.home.0) || (x == g.away.0)) (λ x. ((x == g.home.0) && true) || ((x == g.away.0) && true)) teams (λ k d lt. both_hold (get_or teams k d == g.home.0) (get_or teams k d == g.away.0))
      ∙ tests-are side true true same away home

  pub both-home : (side : Side) → side ≡ Both → true ≡ is_in g.away.0 others → false ≡ is_in g.home.0 others → keys_where (λ x. x == g.home.0) teams ≡ keys_where (plays_against side others g) teams
  both-home side same away home =
      keys_where-same (λ x. x == g.home.0) (λ x. ((x == g.home.0) && true) || ((x == g.away.0) && false)) teams (λ k d lt. first_holds (get_or teams k d == g.home.0) (get_or teams k d == g.away.0))
      ∙ tests-are side true false same away home

  pub both-away : (side : Side) → side ≡ Both → false ≡ is_in g.away.0 others → true ≡ is_in g.home.0 others → keys_where (λ x. x == g.away.0) teams ≡ keys_where (plays_against side others g) teams
  both-away side same away home =
      keys_where-same (λ x. x == g.away.0) (λ x. ((x == g.home.0) && false) || ((x == g.away.0) && true)) teams (λ k d lt. second_holds (get_or teams k d == g.home.0) (get_or teams k d == g.away.0))
      ∙ tests-are side false true same away home

  pub both-none : (side : Side) → side ≡ Both → false ≡ is_in g.away.0 others → false ≡ is_in g.home.0 others → keys_where (plays_against side others g) teams ≡ []
  both-none side same away home =
      sym (tests-are side false false same away home)
      ∙ keys_where-none (λ x. ((x == g.home.0) && false) || ((x == g.away.0) && false)) teams (λ k d lt. none_holds (get_or teams k d == g.home.0) (get_or teams k d == g.away.0))
