-- Counts while games are taken off and put on.
use Rattle.std.proofs.Common.{◌≡◌, ℕ, ◌+◌, ◌<◌, ◌≤◌, ◌&&◌, ◌==◌, List, length, get_or, take, refl, ap, arith}
use Rattle.std.proofs.lemmas.Bool.{and_from, eq-eqb}
use Rattle.std.proofs.lemmas.List.Sums.{sum_by_more, sum_by_more_le}
use Rattle.league.specs.Counts.{Counts, counts_of, is_game, one_more}
use Rattle.league.specs.declared.game.Game.{Game}
use Rattle.league.proofs.RangeLemmas.{one_if}
use Rattle.descent.proofs.TouchedLemmas.{no_game}

-- the games before the next one, and that one
pub counts_more : (games : List Game) (at i j s : ℕ) → at < length games → counts_of (take (at + 1) games) i j s ≡ counts_of (take at games) i j s + one_if (is_game i j s (get_or games at no_game))
counts_more games at i j s within = sum_by_more (λ x. one_if (is_game i j s x)) games at no_game within

pub counts_part : (games : List Game) (at i j s : ℕ) → at < length games → counts_of (take at games) i j s + one_if (is_game i j s (get_or games at no_game)) ≤ counts_of games i j s
counts_part games at i j s within = sum_by_more_le (λ x. one_if (is_game i j s x)) games at no_game within

pub is_itself : (g : Game) → one_if (is_game g.home.0 g.away.0 g.slot.0 g) ≡ 1
is_itself g = ap one_if (and_from ((g.home.0 == g.home.0) && (g.away.0 == g.away.0)) (g.slot.0 == g.slot.0) (and_from (g.home.0 == g.home.0) (g.away.0 == g.away.0) (eq-eqb g.home.0 g.home.0 refl) (eq-eqb g.away.0 g.away.0 refl)) (eq-eqb g.slot.0 g.slot.0 refl))

-- the next game to be taken off is there
pub next_there : (before now : Counts) (games : List Game) (at : ℕ) → at < length games
    → ((i j s : ℕ) → counts_of games i j s ≤ before i j s)
    → ((i j s : ℕ) → now i j s + counts_of (take at games) i j s ≡ before i j s)
    → 0 < now (get_or games at no_game).home.0 (get_or games at no_game).away.0 (get_or games at no_game).slot.0
next_there before now games at within there so_far =
    let g = get_or games at no_game in
    let i = g.home.0 in
    let j = g.away.0 in
    let s = g.slot.0 in
    omega (arith, there i j s, so_far i j s, counts_part games at i j s within, is_itself g)

pub taken_more : (before now next : Counts) (games : List Game) (at : ℕ) → at < length games → one_more next (get_or games at no_game) ≡ now → ((i j s : ℕ) → now i j s + counts_of (take at games) i j s ≡ before i j s) → (i j s : ℕ) → next i j s + counts_of (take (at + 1) games) i j s ≡ before i j s
taken_more before now next games at within more so_far i j s =
    let here : next i j s + one_if (is_game i j s (get_or games at no_game)) ≡ now i j s = ap (λ (m : Counts). m i j s) more in
    omega (arith, here, so_far i j s, counts_more games at i j s within)

pub put_more : (before now next : Counts) (games : List Game) (at : ℕ) → at < length games → next ≡ one_more now (get_or games at no_game) → ((i j s : ℕ) → now i j s ≡ before i j s + counts_of (take at games) i j s) → (i j s : ℕ) → next i j s ≡ before i j s + counts_of (take (at + 1) games) i j s
put_more before now next games at within more so_far i j s =
    let here : next i j s ≡ now i j s + one_if (is_game i j s (get_or games at no_game)) = ap (λ (m : Counts). m i j s) more in
    omega (arith, here, so_far i j s, counts_more games at i j s within)
