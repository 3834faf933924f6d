-- The limits of a file, worked out by hand, so that a wrong limit does not check.
use Rattle.std.proofs.Common.{◌≡◌, ℕ, zero, suc, Bool, true, false, List, [], ◌∷◌, Err, refl}
use Rattle.std.specs.List.{range_with_len}
use Rattle.robinx.specs.declared.tag_fault.FormKind.TheVariants.{TooMany, MissingAttribute}
use Rattle.robinx.specs.InstanceFile.{Draft, nothing, with_constraint, is_season}
use Rattle.robinx.specs.SolutionFile.{Games, with_game}
use Rattle.league.specs.declared.class.ClassName.TheVariants.{Se1}
use Rattle.league.specs.declared.class.Class.TheVariants as class

abbrev copies : {A : Type 0} → ℕ → A → List A
copies zero x = []
copies (suc n) x = x ∷ copies n x

-- the 20,001st class is too much before its attributes are read, the 20,000th isn't
abbrev drafted : ℕ → Draft
drafted n = record nothing { constraints = copies n (record { hard = true; penalty = 1; class = class.Se1 [] 0 }) }

pub classes-most : with_constraint Se1 [] (drafted 19999) ≡ Err MissingAttribute
classes-most = refl

pub classes-more : with_constraint Se1 [] (drafted 20000) ≡ Err TooMany
classes-more = refl

-- the 10,001st game is too much before its attributes are read, the 10,000th isn't
abbrev played : ℕ → Games
played n = record { n = 4; games = copies n (record { home = record { 0 = 3 }; away = record { 0 = 0 }; slot = record { 0 = 0 } }) }

pub games-most : with_game [] (played 9999) ≡ Err MissingAttribute
games-most = refl

pub games-more : with_game [] (played 10000) ≡ Err TooMany
games-more = refl

-- so many teams, and so many slots, with the ids from 0 up
abbrev seasoned : ℕ → ℕ → Bool
seasoned n slots = is_season (range_with_len 0 n) (range_with_len 0 slots)

-- from 2 to 40 teams with 2 (n - 1) slots, and an even number of them
pub season-sizes : (seasoned 2 2 ≡ true) × (seasoned 40 78 ≡ true) × (seasoned 0 0 ≡ false) × (seasoned 42 82 ≡ false) × (seasoned 3 4 ≡ false) × (seasoned 39 76 ≡ false)
season-sizes = (refl, refl, refl, refl, refl, refl)

-- as many slots as that, neither those of one half nor one more
pub season-slots : (seasoned 4 3 ≡ false) × (seasoned 4 5 ≡ false) × (seasoned 4 7 ≡ false) × (seasoned 4 12 ≡ false)
season-slots = (refl, refl, refl, refl)
