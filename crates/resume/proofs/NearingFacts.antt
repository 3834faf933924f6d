-- Games of four teams that stay or change, counted by hand, and ends of descents.
use Rattle.std.proofs.Common.{◌≡◌, ◌⊎◌, ℕ, true, false, List, [], ◌∷◌, inl, inr, refl}
use Rattle.league.specs.Counts.{Counts, counts_of}
use Rattle.league.specs.Instance.{Instance}
use Rattle.league.specs.declared.game.Game.{Game}
use Rattle.league.proofs.DoubleFour.{game}
use Rattle.resume.specs.Alone.{leaves_alone}
use Rattle.resume.specs.Changed.{changed_on}
use Rattle.resume.specs.Nearing.{IsEnd, IsNearest}

-- two slots of an old plan
abbrev old : List Game
old = game 0 1 0 ∷ game 2 3 0 ∷ game 0 2 1 ∷ game 1 3 1 ∷ []

-- the first slot as it was, and one game of the second turned round
abbrev new : List Game
new = game 2 3 0 ∷ game 0 1 0 ∷ game 2 0 1 ∷ game 1 3 1 ∷ []

pub some_changed : (changed_on 0 old (counts_of old) ≡ 0) × (changed_on 0 old (counts_of new) ≡ 1)
    × (changed_on 1 old (counts_of new) ≡ 1) × (changed_on 2 old (counts_of new) ≡ 0)
    × (changed_on 0 [] (counts_of new) ≡ 0) × (changed_on 1 old (counts_of []) ≡ 2)
some_changed = (refl, refl, refl, refl, refl, refl)

-- an edit of slot 1 leaves slot 0 alone, and no further one
pub some_alone : (leaves_alone 1 (record { n = 4; out = game 0 2 1 ∷ []; into = game 2 0 1 ∷ [] }) ≡ true)
    × (leaves_alone 2 (record { n = 4; out = game 0 2 1 ∷ []; into = game 2 0 1 ∷ [] }) ≡ false)
    × (leaves_alone 1 (record { n = 4; out = game 0 2 1 ∷ []; into = game 2 0 0 ∷ [] }) ≡ false)
    × (leaves_alone 9 (record { n = 4; out = []; into = [] }) ≡ true)
some_alone = (refl, refl, refl, refl)

-- where nothing may end a run, a season that no move betters isn't called unsettled
pub settled-unstopped : (league : Instance) (k : ℕ) (plan : List Game) (m : Counts) (games : List Game) (cost : ℕ)
    → IsNearest league k plan (counts_of games)
    → IsEnd league k plan ⊥ m (record { schedule = games; objective = cost; settled = false }) → ⊥
settled-unstopped league k plan m games cost nearest is = by (is.open_yet refl) where
  by : ⊥ ⊎ (IsNearest league k plan (counts_of games) → ⊥) → ⊥
  by (inl never) = never
  by (inr lower) = lower nearest

-- where something may, it may be
pub unsettled-stopped : (league : Instance) (k : ℕ) (plan : List Game) (m : Counts) (games : List Game) (cost : ℕ)
    → IsEnd league k plan ⊥ m (record { schedule = games; objective = cost; settled = true })
    → IsEnd league k plan (Unit {0}) m (record { schedule = games; objective = cost; settled = false })
unsettled-stopped league k plan m games cost is = record {
  accepted = is.accepted;
  keeps = is.keeps;
  fit = is.fit;
  in_order = is.in_order;
  cost = is.cost;
  no_farther = is.no_farther;
  settled = λ said. absurd (let no : false ≡ true = said in cc);
  open_yet = λ said. inl tt;
}
