-- What one game more changes of the breaks that a definition counts.
use Rattle.std.proofs.Common.{◌≡◌, ◌≢◌, ℕ, ◌+◌, ◌-◌, ◌≤◌, Bool, ◌&&◌, nat_lt, List, get_or, arith, ap, ◌∙◌}
use Rattle.std.specs.List.{All, sum_by}
use Rattle.league.specs.Bounds.{excess}
use Rattle.league.specs.Breaks.{br1_entry, br2_entry, breaks_at, is_away_break, is_home_break, twice_in_a_row}
use Rattle.league.specs.Counts.{Counts, one_more}
use Rattle.league.specs.Instance.{IsGame}
use Rattle.league.specs.Venues.{away_games, home_games}
use Rattle.league.specs.declared.game.Game.{Game}
use Rattle.league.specs.declared.class.Side.{Side}
use Rattle.league.specs.declared.class.Side.TheVariants.{H, A, Both}
use Rattle.league.proofs.RangeLemmas.{one_if, one_if-le}
use Rattle.league.proofs.SumLemmas.{sum_by-same_in}
use Rattle.rule_core.proofs.GameLemmas.{games_on-elsewhere, games_on-not_at_home, games_on-not_away}

-- games twice in a row, by the games of both slots
pub twice_in_a_row-same : (f h : ℕ → ℕ) (s : ℕ) → f (s - 1) ≡ h (s - 1) → f s ≡ h s → twice_in_a_row f s ≡ twice_in_a_row h s
twice_in_a_row-same f h s before now =
    ap (λ (x : ℕ). nat_lt 0 s && nat_lt 0 x && nat_lt 0 (f s)) before ∙ ap (λ (x : ℕ). nat_lt 0 s && nat_lt 0 (h (s - 1)) && nat_lt 0 x) now

-- the slot before one that is neither a slot nor the next isn't that slot: slot 0 has none before it
slot_before : (s t : ℕ) → s ≢ t → s ≢ t + 1 → s - 1 ≢ t
slot_before s t here next same = absurd (omega arith)

-- at all slots but that of a game and the next, each team has as many breaks
home_break-elsewhere : (n : ℕ) (m : Counts) (g : Game) (i s : ℕ) → IsGame n g → s ≢ g.slot.0 → s ≢ g.slot.0 + 1 → is_home_break n (one_more m g) i s ≡ is_home_break n m i s
home_break-elsewhere n m g i s fits here next =
    twice_in_a_row-same (home_games n (one_more m g) i) (home_games n m i) s
    (games_on-elsewhere n m H g i (s - 1) fits (slot_before s g.slot.0 here next))
    (games_on-elsewhere n m H g i s fits here)

away_break-elsewhere : (n : ℕ) (m : Counts) (g : Game) (i s : ℕ) → IsGame n g → s ≢ g.slot.0 → s ≢ g.slot.0 + 1 → is_away_break n (one_more m g) i s ≡ is_away_break n m i s
away_break-elsewhere n m g i s fits here next =
    twice_in_a_row-same (away_games n (one_more m g) i) (away_games n m i) s
    (games_on-elsewhere n m A g i (s - 1) fits (slot_before s g.slot.0 here next))
    (games_on-elsewhere n m A g i s fits here)

-- a team that isn't at home has the same home breaks, and one that isn't away the same away breaks
home_break-not_at_home : (n : ℕ) (m : Counts) (g : Game) (i s : ℕ) → IsGame n g → i ≢ g.home.0 → is_home_break n (one_more m g) i s ≡ is_home_break n m i s
home_break-not_at_home n m g i s fits differ =
    twice_in_a_row-same (home_games n (one_more m g) i) (home_games n m i) s (games_on-not_at_home n m g i (s - 1) fits differ) (games_on-not_at_home n m g i s fits differ)

away_break-not_away : (n : ℕ) (m : Counts) (g : Game) (i s : ℕ) → IsGame n g → i ≢ g.away.0 → is_away_break n (one_more m g) i s ≡ is_away_break n m i s
away_break-not_away n m g i s fits differ =
    twice_in_a_row-same (away_games n (one_more m g) i) (away_games n m i) s (games_on-not_away n m g i (s - 1) fits differ) (games_on-not_away n m g i s fits differ)

-- the breaks on a side, by the home breaks and the away breaks
on_both : (a b c d : Bool) → a ≡ b → c ≡ d → one_if a + one_if c ≡ one_if b + one_if d
on_both a b c d home away = omega (arith, ap one_if home, ap one_if away)

pub breaks_at-elsewhere : (n : ℕ) (m : Counts) (side : Side) (g : Game) (i s : ℕ) → IsGame n g → s ≢ g.slot.0 → s ≢ g.slot.0 + 1 → breaks_at n (one_more m g) side i s ≡ breaks_at n m side i s
breaks_at-elsewhere n m H g i s fits here next = ap one_if (home_break-elsewhere n m g i s fits here next)
breaks_at-elsewhere n m A g i s fits here next = ap one_if (away_break-elsewhere n m g i s fits here next)
breaks_at-elsewhere n m Both g i s fits here next =
    on_both (is_home_break n (one_more m g) i s) (is_home_break n m i s) (is_away_break n (one_more m g) i s) (is_away_break n m i s) (home_break-elsewhere n m g i s fits here next) (away_break-elsewhere n m g i s fits here next)

pub breaks_at-not_at_home : (n : ℕ) (m : Counts) (g : Game) (i s : ℕ) → IsGame n g → i ≢ g.home.0 → breaks_at n (one_more m g) H i s ≡ breaks_at n m H i s
breaks_at-not_at_home n m g i s fits differ = ap one_if (home_break-not_at_home n m g i s fits differ)

pub breaks_at-not_away : (n : ℕ) (m : Counts) (g : Game) (i s : ℕ) → IsGame n g → i ≢ g.away.0 → breaks_at n (one_more m g) A i s ≡ breaks_at n m A i s
breaks_at-not_away n m g i s fits differ = ap one_if (away_break-not_away n m g i s fits differ)

pub breaks_at-not_there : (n : ℕ) (m : Counts) (g : Game) (i s : ℕ) → IsGame n g → i ≢ g.home.0 → i ≢ g.away.0 → breaks_at n (one_more m g) Both i s ≡ breaks_at n m Both i s
breaks_at-not_there n m g i s fits not_home not_away =
    on_both (is_home_break n (one_more m g) i s) (is_home_break n m i s) (is_away_break n (one_more m g) i s) (is_away_break n m i s) (home_break-not_at_home n m g i s fits not_home) (away_break-not_away n m g i s fits not_away)

-- a team has at most two breaks at a slot
pub breaks_at-le : (n : ℕ) (m : Counts) (side : Side) (i s : ℕ) → breaks_at n m side i s ≤ 2
breaks_at-le n m H i s = omega (arith, one_if-le (is_home_break n m i s))
breaks_at-le n m A i s = omega (arith, one_if-le (is_away_break n m i s))
breaks_at-le n m Both i s = omega (arith, one_if-le (is_home_break n m i s), one_if-le (is_away_break n m i s))

-- the entry of a team, where its breaks at the slots are the same
pub br1_entry-same : (n : ℕ) (m more : Counts) (intp : ℕ) (side : Side) (slots : List ℕ) (i : ℕ) → All (λ s. breaks_at n more side i s ≡ breaks_at n m side i s) slots → br1_entry n more intp side slots i ≡ br1_entry n m intp side slots i
br1_entry-same n m more intp side slots i same =
    ap (λ (c : ℕ). excess c intp) (sum_by-same_in (λ s. breaks_at n more side i s) (λ s. breaks_at n m side i s) slots same)

-- the entry of all the teams, where their breaks at the slots are the same
pub br2_entry-same : (n : ℕ) (m more : Counts) (teams : List ℕ) (intp : ℕ) (slots : List ℕ) → All (λ i. All (λ s. breaks_at n more Both i s ≡ breaks_at n m Both i s) slots) teams → br2_entry n more teams intp slots ≡ br2_entry n m teams intp slots
br2_entry-same n m more teams intp slots same =
    ap (λ (c : ℕ). excess c intp)
    (sum_by-same_in (λ i. sum_by (λ s. breaks_at n more Both i s) slots) (λ i. sum_by (λ s. breaks_at n m Both i s) slots) teams
    (λ k d lt. sum_by-same_in (λ s. breaks_at n more Both (get_or teams k d) s) (λ s. breaks_at n m Both (get_or teams k d) s) slots (same k d lt)))
