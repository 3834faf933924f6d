-- How far the variables go, and where lists of slots and meetings come from.
use Rattle.std.proofs.Common.{◌≡◌, ℕ, zero, suc, ◌+◌, ◌-◌, ◌*◌, ◌≤◌, List, [], ◌∷◌, ◌++◌, length, take, drop, refl}
use Rattle.std.proofs.Common.{arith, ap, sym, subst, ◌∙◌, zero-add}
use Rattle.std.proofs.Math.Nat.{mul-le-mul}
use Rattle.std.specs.List.{flat_map, range_with_len}
use Rattle.league.specs.Capacity.{meetings_with}
use Rattle.league.specs.Counts.{slot_count, slots_of, teams_of}
use Rattle.league.specs.Meetings.{meetings_of}
use Rattle.league.specs.declared.class.Side.TheVariants.{H}
use Rattle.league.proofs.RangeLemmas.{range_with_len-more}
use Rattle.encoding.specs.Ascending.{AreMeetings, AreSlots, AreTeams, place_of}
use Rattle.encoding.specs.Variables.{x_count}
use Rattle.encoding.proofs.AscendLemmas.{AscendsBy-few, AscendsBy-low, AscendsBy-range}
use Rattle.encoding.proofs.MeetingOrder.{AreMeetings-all, AreSlots-all, AreTeams-all}

-- there are at most so many games
pub x_count-few : (n : ℕ) → n ≤ 40 → x_count n ≤ 121680
x_count-few n small =
    let others : n - 1 ≤ 39 = omega (arith, small) in
    let slots : slot_count n ≤ 78 = omega (arith, small) in
    let meetings : n * (n - 1) ≤ 40 * 39 = mul-le-mul small others in
    let games : n * (n - 1) * slot_count n ≤ 40 * 39 * 78 = mul-le-mul meetings slots in
    omega (arith, games)

-- the numbers below k, and k
pub numbers-more : (k : ℕ) → range_with_len 0 (k + 1) ≡ range_with_len 0 k ++ k ∷ []
numbers-more k = range_with_len-more 0 k ∙ ap (λ (last : ℕ). range_with_len 0 k ++ last ∷ []) (zero-add k)

-- all meetings of the teams
pub meetings_of-teams : (n : ℕ) (teams : List ℕ) (meetings : List (ℕ × ℕ)) → teams ≡ teams_of n
    → meetings ≡ flat_map (λ i. meetings_with H i teams) teams → meetings ≡ meetings_of n
meetings_of-teams n teams meetings are made = made ∙ ap (λ (xs : List ℕ). flat_map (λ i. meetings_with H i xs) xs) are

-- ---- what a season lists

pub teams_are : (n : ℕ) (teams : List ℕ) → teams ≡ teams_of n → AreTeams n teams
teams_are n teams is = subst (λ (xs : List ℕ). AreTeams n xs) (sym is) (AreTeams-all n)

pub slots_are : (n : ℕ) (slots : List ℕ) → slots ≡ slots_of n → AreSlots n slots
slots_are n slots is = subst (λ (xs : List ℕ). AreSlots n xs) (sym is) (AreSlots-all n)

pub meetings_are : (n : ℕ) (meetings : List (ℕ × ℕ)) → meetings ≡ meetings_of n → AreMeetings n meetings
meetings_are n meetings is = subst (λ (xs : List (ℕ × ℕ)). AreMeetings n xs) (sym is) (AreMeetings-all n)

pub meetings_few : (n : ℕ) (meetings : List (ℕ × ℕ)) → n ≤ 40 → AreMeetings n meetings → length meetings ≤ 1560
meetings_few n meetings small are =
    let others : n - 1 ≤ 39 = omega (arith, small) in
    let most : n * (n - 1) ≤ 40 * 39 = mul-le-mul small others in
    omega (arith, AscendsBy-few (place_of n) 0 meetings (n * (n - 1)) are.ascend, most)

-- ---- consecutive slots

same_range : (a b k l : ℕ) → a ≡ b → k ≡ l → range_with_len a k ≡ range_with_len b l
same_range a b k l start size = ap (λ (x : ℕ). range_with_len x k) start ∙ ap (λ (x : ℕ). range_with_len b x) size

drop-range : (k a n : ℕ) → drop k (range_with_len a n) ≡ range_with_len (a + k) (n - k)
drop-range zero a n = same_range a (a + 0) n (n - 0) (omega arith) (omega arith)
drop-range (suc k) a zero = same_range (a + suc k) (a + suc k) 0 (0 - suc k) refl (omega arith)
drop-range (suc k) a (suc n) = drop-range k (a + 1) n ∙ same_range (a + 1 + k) (a + suc k) (n - k) (suc n - suc k)
    (omega arith) (omega arith)

take-range : (k a n : ℕ) → k ≤ n → take k (range_with_len a n) ≡ range_with_len a k
take-range zero a n within = refl
take-range (suc k) a zero within = absurd (omega arith)
take-range (suc k) a (suc n) within = ap (λ (xs : List ℕ). a ∷ xs) (take-range k (a + 1) n (omega (arith, within)))

pub run_is : (n first end count : ℕ) (slots : List ℕ) → slots ≡ slots_of n → end ≡ first + count
    → first + count ≤ slot_count n → take (end - first) (drop first slots) ≡ range_with_len first count
run_is n first end count slots is whole within =
    let size : end - first ≡ count = omega (arith, whole) in
    ap (λ (xs : List ℕ). take (end - first) (drop first xs)) is
    ∙ ap (λ (xs : List ℕ). take (end - first) xs) (drop-range first 0 (slot_count n))
    ∙ ap (λ (k : ℕ). take k (range_with_len (0 + first) (slot_count n - first))) size
    ∙ take-range count (0 + first) (slot_count n - first) (omega (arith, within))
    ∙ same_range (0 + first) first count count (omega arith) refl

pub run_ascends : (n first count : ℕ) (slots : List ℕ) → slots ≡ range_with_len first count
    → first + count ≤ slot_count n → AreSlots n slots
run_ascends n first count slots is within =
    subst (λ (xs : List ℕ). AreSlots n xs) (sym is)
    (AscendsBy-low (λ s. s) 0 first (range_with_len first count) (slot_count n) (omega arith)
    (AscendsBy-range first count (slot_count n) within))
