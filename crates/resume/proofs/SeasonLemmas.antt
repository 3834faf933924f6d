-- The games whose variables are true, gone through by slot and meeting.
use Rattle.std.proofs.Common.{◌≡◌, ℕ, Bool, true, false, cond, List, [], ◌∷◌, ◌++◌, map, refl, ap, sym, ◌∙◌}
use Rattle.std.specs.List.{filter, flat_map}
use Rattle.league.specs.Counts.{slots_of}
use Rattle.league.specs.Meetings.{meetings_of}
use Rattle.league.specs.declared.game.Game.{Game}
use Rattle.league.proofs.ListLemmas.{flat_map-same}
use Rattle.encoding.specs.Shadow.{decoded, game_of}
use Rattle.encoding.specs.Variables.{x_var}
use Rattle.encoding.proofs.KeyRowLemmas.{filter-flat_map}
use Rattle.resume.specs.Found.{game_if_true}

-- what passes a test after it is changed
filter-map : {X Y : Type 0} (p : Y → Bool) (f : X → Y) (xs : List X)
    → filter p (map f xs) ≡ flat_map (λ x. cond (p (f x)) (f x ∷ []) []) xs
filter-map p f [] = refl
filter-map p f (x ∷ xs) = by (filter-map p f xs) (p (f x)) where
  by : filter p (map f xs) ≡ flat_map (λ x. cond (p (f x)) (f x ∷ []) []) xs → (b : Bool)
      → cond b (f x ∷ filter p (map f xs)) (filter p (map f xs))
      ≡ cond b (f x ∷ []) [] ++ flat_map (λ x. cond (p (f x)) (f x ∷ []) []) xs
  by rest true = ap (λ ys. f x ∷ ys) rest
  by rest false = rest

pub season-true : (n : ℕ) (values : ℕ → Bool)
    → flat_map (λ s. flat_map (game_if_true n values s) (meetings_of n)) (slots_of n) ≡ decoded n values
season-true n values =
    let is_true : Game → Bool = λ g. values (x_var n g.home.0 g.away.0 g.slot.0) in
    let in_slot : ℕ → List Game = λ s. map (λ p. game_of p s) (meetings_of n) in
    sym
    (filter-flat_map is_true in_slot (slots_of n)
    ∙ flat_map-same (λ s. filter is_true (in_slot s)) (λ s. flat_map (game_if_true n values s) (meetings_of n))
    (λ s. filter-map is_true (λ p. game_of p s) (meetings_of n)) (slots_of n))
