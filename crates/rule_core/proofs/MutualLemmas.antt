-- Which games leave the mutual games of two teams as they are.
use Rattle.std.proofs.Common.{◌≡◌, ℕ, ◌+◌, Bool, false, ◌&&◌, ◌==◌, replicate, arith, ap}
use Rattle.std.proofs.lemmas.Bool.Decides.{nat_tests}
use Rattle.league.specs.Counts.{Counts, one_more, slots_of}
use Rattle.league.specs.Separation.{mutual_games}
use Rattle.league.specs.declared.game.Game.{Game}
use Rattle.league.proofs.ListLemmas.{flat_map-same}
use Rattle.league.proofs.RangeLemmas.{one_if}
use Rattle.rule_core.specs.Pairs.{has_team}

-- whether a pair is that of the teams of a game
abbrev pub plays : Game → ℕ × ℕ → Bool
plays g p = has_team g.home.0 p && has_team g.away.0 p

-- two teams that aren't those of a game
not_played : (h a x y : ℕ) (c : Bool) → (has_team h (x, y) && has_team a (x, y)) ≡ false → one_if ((h == x) && (a == y) && c) ≡ 0
not_played h a x y c other = grind (arith, nat_tests)

not_played_turned : (h a x y : ℕ) (c : Bool) → (has_team h (x, y) && has_team a (x, y)) ≡ false → one_if ((h == y) && (a == x) && c) ≡ 0
not_played_turned h a x y c other = grind (arith, nat_tests)

-- two teams that aren't those of a game have as many games in each slot
same_games : (m : Counts) (g : Game) (p : ℕ × ℕ) (s : ℕ) → plays g p ≡ false → one_more m g p.0 p.1 s + one_more m g p.1 p.0 s ≡ m p.0 p.1 s + m p.1 p.0 s
same_games m g p s other =
    omega (arith, not_played g.home.0 g.away.0 p.0 p.1 (g.slot.0 == s) other, not_played_turned g.home.0 g.away.0 p.0 p.1 (g.slot.0 == s) other)

-- two teams that aren't those of a game have the same mutual games
pub same_mutual_games : (n : ℕ) (m : Counts) (g : Game) (p : ℕ × ℕ) → plays g p ≡ false → mutual_games n (one_more m g) p ≡ mutual_games n m p
same_mutual_games n m g p other =
    flat_map-same (λ s. replicate (one_more m g p.0 p.1 s + one_more m g p.1 p.0 s) s) (λ s. replicate (m p.0 p.1 s + m p.1 p.0 s) s) (λ s. ap (λ (c : ℕ). replicate c s) (same_games m g p s other)) (slots_of n)
