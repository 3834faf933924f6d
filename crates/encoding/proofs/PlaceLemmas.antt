-- The numbers of variables, read back: two games have two variables, and so have two teams or slots.
use Rattle.std.proofs.Common.{◌≡◌, ◌≢◌, ℕ, ◌+◌, ◌-◌, ◌*◌, ◌<◌, nat_lt, if◌then◌else◌}
use Rattle.std.proofs.Common.{arith, ap, ◌∙◌, sym}
use Rattle.std.proofs.lemmas.Bool.Decides.{nat_tests}
use Rattle.std.proofs.lemmas.Nat.{mul-add-lt, same_from_place}
use Rattle.league.specs.Counts.{slot_count}
use Rattle.encoding.specs.Variables.{ab_var, h_count, h_var, hb_count, hb_var, place_beside, x_count, x_var}

-- the team at a place among the teams other than i
abbrev pub team_at : ℕ → ℕ → ℕ
team_at i k = if nat_lt k i then k else k + 1

pub team_at-place_beside : (i j : ℕ) → i ≢ j → team_at i (place_beside i j) ≡ j
team_at-place_beside i j differ = grind (arith, nat_tests)

pub place_beside-below : (n i j : ℕ) → i < n → j < n → i ≢ j → place_beside i j < n - 1
place_beside-below n i j home away differ = grind (arith, nat_tests)

-- the places of games, of teams in slots, and of breaks, from 0
abbrev pub x_place : ℕ → ℕ → ℕ → ℕ → ℕ
x_place n i j s = (i * (n - 1) + place_beside i j) * slot_count n + s

abbrev pub h_place : ℕ → ℕ → ℕ → ℕ
h_place n i s = i * slot_count n + s

abbrev pub b_place : ℕ → ℕ → ℕ → ℕ
b_place n i s = i * (slot_count n - 1) + (s - 1)

pub x_var-place : (n i j s : ℕ) → x_var n i j s ≡ 1 + x_place n i j s
x_var-place n i j s = omega arith

pub h_var-place : (n i s : ℕ) → h_var n i s ≡ 1 + (x_count n + h_place n i s)
h_var-place n i s = omega arith

pub hb_var-place : (n i s : ℕ) → hb_var n i s ≡ 1 + (x_count n + (h_count n + b_place n i s))
hb_var-place n i s = omega arith

pub ab_var-place : (n i s : ℕ) → ab_var n i s ≡ 1 + (x_count n + (h_count n + (hb_count n + b_place n i s)))
ab_var-place n i s = omega arith

three_factors : (n p w q s : ℕ) → q < p * n → s < w → q * w + s < n * p * w
three_factors n p w q s row column = omega (arith, mul-add-lt q w s (p * n) row column)

two_factors : (n w i s : ℕ) → i < n → s < w → i * w + s < n * w
two_factors n w i s row column = omega (arith, mul-add-lt i w s n row column)

-- the places are below the numbers of games, of teams in slots, and of breaks
pub x_place-below : (n i j s : ℕ) → i < n → j < n → i ≢ j → s < slot_count n → x_place n i j s < x_count n
x_place-below n i j s home away differ slot =
    three_factors n (n - 1) (slot_count n) (i * (n - 1) + place_beside i j) s
    (mul-add-lt i (n - 1) (place_beside i j) n home (place_beside-below n i j home away differ)) slot

pub h_place-below : (n i s : ℕ) → i < n → s < slot_count n → h_place n i s < h_count n
h_place-below n i s team slot = two_factors n (slot_count n) i s team slot

pub b_place-below : (n i s : ℕ) → i < n → 0 < s → s < slot_count n → b_place n i s < hb_count n
b_place-below n i s team later slot = two_factors n (slot_count n - 1) i (s - 1) team (omega arith)

-- two games with one place are one game
pub same_game : (n i j s a b t : ℕ) → i < n → j < n → i ≢ j → s < slot_count n → a < n → b < n → a ≢ b →
    t < slot_count n →
    x_place n i j s ≡ x_place n a b t → (i ≡ a) × (j ≡ b) × (s ≡ t)
same_game n i j s a b t home away differ slot home' away' differ' slot' same =
    let outer = same_from_place (i * (n - 1) + place_beside i j) s (a * (n - 1) + place_beside a b) t (slot_count n)
    slot slot' same in
    let inner = same_from_place i (place_beside i j) a (place_beside a b) (n - 1)
    (place_beside-below n i j home away differ) (place_beside-below n a b home' away' differ') outer.0 in
    let away_is : j ≡ b =
    sym (team_at-place_beside i j differ) ∙ ap (λ (k : ℕ). team_at i k) inner.1 ∙ ap
    (λ (k : ℕ). team_at k (place_beside a b)) inner.0 ∙ team_at-place_beside a b differ' in
    (inner.0, away_is, outer.1)

-- two teams in slots with one place are one, and so are two breaks
pub same_venue : (n i s a t : ℕ) → s < slot_count n → t < slot_count n → h_place n i s ≡ h_place n a t →
    (i ≡ a) × (s ≡ t)
same_venue n i s a t slot slot' same = same_from_place i s a t (slot_count n) slot slot' same

pub same_break : (n i s a t : ℕ) → 0 < s → s < slot_count n → 0 < t → t < slot_count n →
    b_place n i s ≡ b_place n a t → (i ≡ a) × (s ≡ t)
same_break n i s a t later slot later' slot' same =
    let both = same_from_place i (s - 1) a (t - 1) (slot_count n - 1) (omega arith) (omega arith) same in
    (both.0, omega (arith, both.1))
