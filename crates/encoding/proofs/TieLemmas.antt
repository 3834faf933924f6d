-- The rows that tie a venue to games are rows, and so are clauses whose variables ascend.
use Rattle.std.proofs.Common.{◌≡◌, ◌≢◌, ℕ, ◌+◌, ◌-◌, ◌<◌, ◌≤◌, List, [], ◌∷◌, ◌++◌, map, arith, ap, ◌∙◌}
use Rattle.std.proofs.lemmas.List.Elements.{All-append, All-cons, All-map, All-nil}
use Rattle.std.specs.List.{AllPairs}
use Rattle.league.specs.Capacity.{meetings_with}
use Rattle.league.specs.Counts.{slot_count, teams_of}
use Rattle.league.specs.declared.class.Side.TheVariants.{H}
use Rattle.rows.specs.Cardinality.{unit}
use Rattle.rows.specs.Literals.{Literal, negate, no, yes}
use Rattle.rows.specs.Rows.{IsRow}
use Rattle.rows.specs.declared.lit.Term.{Term}
use Rattle.encoding.specs.Ascending.{AreSlots, AscendsBy}
use Rattle.encoding.specs.Lists.{games_in}
use Rattle.encoding.specs.Season.{game_needs_home, home_games_in}
use Rattle.encoding.specs.Variables.{h_var, x_count}
use Rattle.encoding.proofs.AscendLemmas.{AllPairs-ascending, AscendsBy-append, AscendsBy-map}
use Rattle.encoding.proofs.LiteralOrder.{differ, games_ascend}
use Rattle.encoding.proofs.MeetingOrder.{AreMeetings-home, AreTeams-all}

abbrev var_of : Literal → ℕ
var_of l = l.var

abbrev term_var : Term → ℕ
term_var t = t.lit.var

-- one slot of the season
pub AreSlots-one : (n s : ℕ) → s < slot_count n → AreSlots n (s ∷ [])
AreSlots-one n s within = (omega arith, omega (arith, within))

home_games_ascend : (n i s : ℕ) → i < n → s < slot_count n → AscendsBy (λ l. l.var) 1 (home_games_in n i s)
    (1 + x_count n)
home_games_ascend n i s team slot =
    games_ascend n (meetings_with H i (teams_of n)) (s ∷ []) (AreMeetings-home n i (teams_of n) team (AreTeams-all n))
    (AreSlots-one n s slot)

-- the home games of a team in a slot, and its h
pub home_tie_ascend : (n i s : ℕ) → i < n → s < slot_count n
    → AscendsBy (λ l. l.var) 1 (home_games_in n i s ++ no (h_var n i s) ∷ []) (h_var n i s + 1)
home_tie_ascend n i s team slot =
    AscendsBy-append var_of 1 (home_games_in n i s) (1 + x_count n) (no (h_var n i s) ∷ []) (h_var n i s + 1)
    (home_games_ascend n i s team slot) (omega arith, omega arith)

pub home_tie_differ : (n i s : ℕ) → i < n → s < slot_count n
    → AllPairs (λ l m. l.var ≢ m.var) (home_games_in n i s ++ no (h_var n i s) ∷ [])
home_tie_differ n i s team slot = differ 1 (home_games_in n i s ++ no (h_var n i s) ∷ []) (h_var n i s + 1)
    (home_tie_ascend n i s team slot)

-- the terms of the other row
pub game_tie_ascend : (n i s : ℕ) → i < n → s < slot_count n
    → AscendsBy (λ t. t.lit.var) 1 (game_needs_home n i s).terms (h_var n i s + 1)
game_tie_ascend n i s team slot =
    let games : List Literal = home_games_in n i s in
    let last : Term = record { coef = n - 1; lit = yes (h_var n i s) } in
    AscendsBy-append term_var 1 (map unit (map negate games)) (1 + x_count n) (last ∷ []) (h_var n i s + 1)
    (AscendsBy-map term_var unit 1 (map negate games) (1 + x_count n)
    (AscendsBy-map var_of negate 1 games (1 + x_count n) (home_games_ascend n i s team slot)))
    (omega arith, omega arith)

pub IsRow-game_needs_home : (n i s : ℕ) → 2 ≤ n → i < n → s < slot_count n → IsRow (game_needs_home n i s)
IsRow-game_needs_home n i s two team slot =
    let negated : List Literal = map negate (home_games_in n i s) in
    let last : Term = record { coef = n - 1; lit = yes (h_var n i s) } in
    record {
      coefs = All-append (λ t. 1 ≤ t.coef) (map unit negated) (last ∷ [])
          (All-map (λ t. 1 ≤ t.coef) unit negated (λ k d within. omega arith))
          (All-cons (λ t. 1 ≤ t.coef) last [] (omega (arith, two)) (All-nil (λ t. 1 ≤ t.coef)));
      variables = AllPairs-ascending term_var 1 (game_needs_home n i s).terms (h_var n i s + 1)
          (game_tie_ascend n i s team slot);
    }

-- two literals, and three
pub two_differ : (a b : Literal) → a.var < b.var → AllPairs (λ l m. l.var ≢ m.var) (a ∷ b ∷ [])
two_differ a b first = differ 0 (a ∷ b ∷ []) (b.var + 1) (omega arith, (omega (arith, first), omega arith))

pub three_differ : (a b c : Literal) → a.var < b.var → b.var < c.var
    → AllPairs (λ l m. l.var ≢ m.var) (a ∷ b ∷ c ∷ [])
three_differ a b c first second = differ 0 (a ∷ b ∷ c ∷ []) (c.var + 1)
    (omega arith, (omega (arith, first), (omega (arith, second), omega arith)))

-- what is listed for the two rows
module _ (n m i s v : ℕ) (meetings : List (ℕ × ℕ)) (games : List Literal) (home : Literal) (same : m ≡ n)
    (are : meetings ≡ meetings_with H i (teams_of n)) (listed : games ≡ games_in m meetings (s ∷ []))
    (var : v ≡ h_var m i s) (is : home ≡ yes v) where
  games_listed : games ≡ home_games_in n i s
  games_listed = listed ∙ ap (λ (k : ℕ). games_in k meetings (s ∷ [])) same
      ∙ ap (λ (ms : List (ℕ × ℕ)). games_in n ms (s ∷ [])) are

  var_is : v ≡ h_var n i s
  var_is = var ∙ ap (λ (k : ℕ). h_var k i s) same

  pub tie_literals : (made : List Literal) (last : Literal) → last ≡ negate home → made ≡ games ++ last ∷ []
      → made ≡ home_games_in n i s ++ no (h_var n i s) ∷ []
  tie_literals made last negated whole =
      whole
      ∙ ap (λ (gs : List Literal). gs ++ last ∷ []) games_listed
      ∙ ap (λ (l : Literal). home_games_in n i s ++ l ∷ []) (negated ∙ ap negate is ∙ ap no var_is)

  pub tie_terms : (read : List Literal) (made : List Term) (coef : ℕ) → read ≡ games → coef ≡ m - 1
      → made ≡ map unit (map negate read) ++ record { coef = coef; lit = home } ∷ []
      → made ≡ (game_needs_home n i s).terms
  tie_terms read made coef seen weight whole =
      let term : ℕ → Literal → Term = λ c l. record { coef = c; lit = l } in
      whole
      ∙ ap (λ (gs : List Literal). map unit (map negate gs) ++ term coef home ∷ []) (seen ∙ games_listed)
      ∙ ap (λ (c : ℕ). map unit (map negate (home_games_in n i s)) ++ term c home ∷ [])
      (weight ∙ ap (λ (k : ℕ). k - 1) same)
      ∙ ap (λ (l : Literal). map unit (map negate (home_games_in n i s)) ++ term (n - 1) l ∷ []) (is ∙ ap yes var_is)
