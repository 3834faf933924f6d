-- Every schedule has a shadow: each variable's number is read back, and its truth value is that of what it stands
-- for.
use Rattle.std.proofs.Common.{◌≡◌, ◌≢◌, ℕ, ◌+◌, ◌-◌, ◌*◌, ◌/◌, ◌%◌, ◌<◌, Bool, nat_lt, if◌then◌else◌}
use Rattle.std.proofs.Common.{arith, ap, ◌∙◌, sym}
use Rattle.std.proofs.lemmas.Bool.{cond_above, cond_below}
use Rattle.std.proofs.lemmas.Nat.{div-mul-add, mod-mul-add}
use Rattle.league.specs.Breaks.{is_away_break, is_home_break}
use Rattle.league.specs.Counts.{Counts, slot_count}
use Rattle.league.specs.Venues.{home_games}
use Rattle.encoding.specs.Shadow.{IsShadow}
use Rattle.encoding.specs.Variables.{ab_var, h_count, h_var, hb_count, hb_var, place_beside, x_count, x_var}
use Rattle.encoding.proofs.PlaceLemmas.{ab_var-place, b_place, b_place-below, h_place, h_place-below, h_var-place}
use Rattle.encoding.proofs.PlaceLemmas.{hb_var-place, place_beside-below}
use Rattle.encoding.proofs.PlaceLemmas.{team_at, team_at-place_beside, x_place, x_place-below, x_var-place}

-- whether the game at a place takes place
abbrev game_at : ℕ → Counts → ℕ → Bool
game_at n m k =
    nat_lt 0 (m (k / slot_count n / (n - 1)) (team_at (k / slot_count n / (n - 1)) (k / slot_count n % (n - 1)))
    (k % slot_count n))

-- whether the team at a place is at home in the slot of the place
abbrev venue_at : ℕ → Counts → ℕ → Bool
venue_at n m k = nat_lt 0 (home_games n m (k / slot_count n) (k % slot_count n))

-- whether the team at a place has a break at the slot of the place
abbrev break_at : ℕ → (ℕ → ℕ → Bool) → ℕ → Bool
break_at n is_break k = is_break (k / (slot_count n - 1)) (k % (slot_count n - 1) + 1)

-- the value of a variable by its place: games stand first, then venues, home breaks and away breaks
abbrev value_of_break : ℕ → Counts → ℕ → Bool
value_of_break n m k =
    if nat_lt k (hb_count n) then break_at n (is_home_break n m) k else break_at n (is_away_break n m)
    (k - hb_count n)

abbrev value_of_venue : ℕ → Counts → ℕ → Bool
value_of_venue n m k = if nat_lt k (h_count n) then venue_at n m k else value_of_break n m (k - h_count n)

abbrev value_at : ℕ → Counts → ℕ → Bool
value_at n m k = if nat_lt k (x_count n) then game_at n m k else value_of_venue n m (k - x_count n)

abbrev pub shadow_values : ℕ → Counts → ℕ → Bool
shadow_values n m v = value_at n m (v - 1)

-- a value past the first kinds is one of the later kinds
past : (first later : ℕ → Bool) (count k : ℕ) → (if nat_lt (count + k) count then first (count + k) else later
    (count + k - count)) ≡ later k
past first later count k =
    sym (cond_above (count + k) count (first (count + k)) (later (count + k - count)) (later k) (omega arith)
    (ap later (omega arith)))

within : (first later : ℕ → Bool) (count k : ℕ) → k < count →
    (if nat_lt k count then first k else later (k - count)) ≡ first k
within first later count k below = sym (cond_below k count (first k) (later (k - count)) below)

game_at-place : (n : ℕ) (m : Counts) (i j s : ℕ) → i < n → j < n → i ≢ j → s < slot_count n →
    game_at n m (x_place n i j s) ≡ nat_lt 0 (m i j s)
game_at-place n m i j s home away differ slot =
    let p = n - 1 in
    let w = slot_count n in
    let q = i * p + place_beside i j in
    let k = x_place n i j s in
    let row : k / w ≡ q = div-mul-add q w s slot in
    let column : k % w ≡ s = mod-mul-add q w s slot in
    let home_is : q / p ≡ i = div-mul-add i p (place_beside i j) (place_beside-below n i j home away differ) in
    let place_is : q % p ≡ place_beside i j = mod-mul-add i p (place_beside i j)
    (place_beside-below n i j home away differ) in
    ap (λ (r : ℕ). nat_lt 0 (m (r / p) (team_at (r / p) (r % p)) (k % w))) row
    ∙ ap (λ (h : ℕ). nat_lt 0 (m h (team_at h (q % p)) (k % w))) home_is
    ∙ ap (λ (c : ℕ). nat_lt 0 (m i (team_at i c) (k % w))) place_is
    ∙ ap (λ (a : ℕ). nat_lt 0 (m i a (k % w))) (team_at-place_beside i j differ)
    ∙ ap (λ (t : ℕ). nat_lt 0 (m i j t)) column

venue_at-place : (n : ℕ) (m : Counts) (i s : ℕ) → s < slot_count n →
    venue_at n m (h_place n i s) ≡ nat_lt 0 (home_games n m i s)
venue_at-place n m i s slot =
    let w = slot_count n in
    ap (λ (r : ℕ). nat_lt 0 (home_games n m r (h_place n i s % w))) (div-mul-add i w s slot)
    ∙ ap (λ (t : ℕ). nat_lt 0 (home_games n m i t)) (mod-mul-add i w s slot)

break_at-place : (n : ℕ) (is_break : ℕ → ℕ → Bool) (i s : ℕ) → 0 < s → s < slot_count n →
    break_at n is_break (b_place n i s) ≡ is_break i s
break_at-place n is_break i s later slot =
    let w = slot_count n - 1 in
    let column : s - 1 < w = omega arith in
    let slot_is : b_place n i s % w + 1 ≡ s = omega (arith, mod-mul-add i w (s - 1) column) in
    ap (λ (r : ℕ). is_break r (b_place n i s % w + 1)) (div-mul-add i w (s - 1) column)
    ∙ ap (λ (t : ℕ). is_break i t) slot_is

-- a variable's place is one less
from_one : (v k : ℕ) → v ≡ 1 + k → v - 1 ≡ k
from_one v k is = omega arith

pub some_shadow : (n : ℕ) (m : Counts) (breaks : Bool) → IsShadow n breaks m (shadow_values n m)
some_shadow n m breaks =
    let home_break = is_home_break n m in
    let away_break = is_away_break n m in
    let of_break : ℕ → Bool = value_of_break n m in
    let of_venue : ℕ → Bool = value_of_venue n m in
    record {
      games = λ i j s home away differ slot.
          let k = x_place n i j s in
          ap (value_at n m) (from_one (x_var n i j s) k (x_var-place n i j s))
          ∙ within (game_at n m) of_venue (x_count n) k (x_place-below n i j s home away differ slot)
          ∙ game_at-place n m i j s home away differ slot;
      venues = λ i s team slot.
          let k = h_place n i s in
          ap (value_at n m) (from_one (h_var n i s) (x_count n + k) (h_var-place n i s))
          ∙ past (game_at n m) of_venue (x_count n) k
          ∙ within (venue_at n m) of_break (h_count n) k (h_place-below n i s team slot)
          ∙ venue_at-place n m i s slot;
      home_breaks = λ has i s team later slot.
          let k = b_place n i s in
          ap (value_at n m) (from_one (hb_var n i s) (x_count n + (h_count n + k)) (hb_var-place n i s))
          ∙ past (game_at n m) of_venue (x_count n) (h_count n + k)
          ∙ past (venue_at n m) of_break (h_count n) k
          ∙ within (break_at n home_break) (break_at n away_break) (hb_count n) k (b_place-below n i s team later slot)
          ∙ break_at-place n home_break i s later slot;
      away_breaks = λ has i s team later slot.
          let k = b_place n i s in
          ap (value_at n m) (from_one (ab_var n i s) (x_count n + (h_count n + (hb_count n + k))) (ab_var-place n i s))
          ∙ past (game_at n m) of_venue (x_count n) (h_count n + (hb_count n + k))
          ∙ past (venue_at n m) of_break (h_count n) (hb_count n + k)
          ∙ past (break_at n home_break) (break_at n away_break) (hb_count n) k
          ∙ break_at-place n away_break i s later slot;
    }
