-- The games of one list in the first slots, and those of another from there on.
use Rattle.std.proofs.Common.{◌≡◌, ℕ, ◌+◌, ◌<◌, Bool, true, false, ◌&&◌, ◌==◌, nat_lt, if◌then◌else◌}
use Rattle.std.proofs.Common.{List, [], ◌∷◌, ◌++◌, arith, refl}
use Rattle.std.specs.List.{All, flat_map}
use Rattle.std.proofs.lemmas.Bool.Decides.{nat_tests}
use Rattle.std.proofs.lemmas.List.Elements.{All-append, All-cons, All-head, All-nil, All-tail}
use Rattle.std.proofs.lemmas.List.Sums.{sum_by-append, sum_by-cons}
use Rattle.league.specs.Counts.{counts_of, is_game}
use Rattle.league.specs.Instance.{IsGame}
use Rattle.league.specs.declared.game.Game.{Game}
use Rattle.league.proofs.RangeLemmas.{one_if}
use Rattle.resume.specs.Merged.{game_before, game_from, merged_games}

-- ---- counts

one_more : (g : Game) (games : List Game) (i j s : ℕ)
    → counts_of (g ∷ games) i j s ≡ one_if (is_game i j s g) + counts_of games i j s
one_more g games i j s = sum_by-cons (λ h. one_if (is_game i j s h)) g games

-- a game from slot k on doesn't take place before it
late : (i j s a b t k : ℕ) → s < k → nat_lt t k ≡ false → one_if ((a == i) && (b == j) && (t == s)) ≡ 0
late i j s a b t k slot from = grind (arith, nat_tests)

before-same : (k : ℕ) (games : List Game) (i j s : ℕ) → s < k
    → counts_of (flat_map (game_before k) games) i j s ≡ counts_of games i j s
before-same k [] i j s slot = refl
before-same k (g ∷ games) i j s slot = by (before-same k games i j s slot) (nat_lt g.slot.0 k) refl where
  by : counts_of (flat_map (game_before k) games) i j s ≡ counts_of games i j s
      → (b : Bool) → nat_lt g.slot.0 k ≡ b
      → counts_of ((if b then g ∷ [] else []) ++ flat_map (game_before k) games) i j s
      ≡ counts_of (g ∷ games) i j s
  by rest true early =
      omega (arith, one_more g (flat_map (game_before k) games) i j s, rest, one_more g games i j s)
  by rest false from =
      omega (arith, rest, one_more g games i j s, late i j s g.home.0 g.away.0 g.slot.0 k slot from)

from-none : (k : ℕ) (games : List Game) (i j s : ℕ) → s < k → counts_of (flat_map (game_from k) games) i j s ≡ 0
from-none k [] i j s slot = refl
from-none k (g ∷ games) i j s slot = by (from-none k games i j s slot) (nat_lt g.slot.0 k) refl where
  by : counts_of (flat_map (game_from k) games) i j s ≡ 0 → (b : Bool) → nat_lt g.slot.0 k ≡ b
      → counts_of ((if b then [] else g ∷ []) ++ flat_map (game_from k) games) i j s ≡ 0
  by rest true early = rest
  by rest false from =
      omega (
        arith,
        one_more g (flat_map (game_from k) games) i j s,
        rest,
        late i j s g.home.0 g.away.0 g.slot.0 k slot from,
      )

-- in the slots below k the merged games are those of the first list
pub merged-same : (k : ℕ) (first second : List Game) (i j s : ℕ) → s < k
    → counts_of (merged_games k first second) i j s ≡ counts_of first i j s
merged-same k first second i j s slot =
    let parts : counts_of (merged_games k first second) i j s
    ≡ counts_of (flat_map (game_before k) first) i j s + counts_of (flat_map (game_from k) second) i j s =
    sum_by-append (λ g. one_if (is_game i j s g)) (flat_map (game_before k) first) (flat_map (game_from k) second) in
    omega (arith, parts, before-same k first i j s slot, from-none k second i j s slot)

-- ---- the teams

before-fit : (n k : ℕ) (games : List Game) → All (IsGame n) games → All (IsGame n) (flat_map (game_before k) games)
before-fit n k [] fit = All-nil (IsGame n)
before-fit n k (g ∷ games) fit =
    by (before-fit n k games (All-tail (IsGame n) g games fit)) (nat_lt g.slot.0 k) where
      by : All (IsGame n) (flat_map (game_before k) games) → (b : Bool)
          → All (IsGame n) ((if b then g ∷ [] else []) ++ flat_map (game_before k) games)
      by rest true = All-cons (IsGame n) g (flat_map (game_before k) games) (All-head (IsGame n) g games fit) rest
      by rest false = rest

from-fit : (n k : ℕ) (games : List Game) → All (IsGame n) games → All (IsGame n) (flat_map (game_from k) games)
from-fit n k [] fit = All-nil (IsGame n)
from-fit n k (g ∷ games) fit =
    by (from-fit n k games (All-tail (IsGame n) g games fit)) (nat_lt g.slot.0 k) where
      by : All (IsGame n) (flat_map (game_from k) games) → (b : Bool)
          → All (IsGame n) ((if b then [] else g ∷ []) ++ flat_map (game_from k) games)
      by rest true = rest
      by rest false = All-cons (IsGame n) g (flat_map (game_from k) games) (All-head (IsGame n) g games fit) rest

pub merged-fit : (n k : ℕ) (first second : List Game) → All (IsGame n) first → All (IsGame n) second
    → All (IsGame n) (merged_games k first second)
merged-fit n k first second fit more =
    All-append (IsGame n) (flat_map (game_before k) first) (flat_map (game_from k) second) (before-fit n k first fit)
    (from-fit n k second more)
