-- The games of some meetings before each slot: how the list is made, and what it says of windows.
use Rattle.std.proofs.Common.{◌≡◌, ℕ, ◌+◌, ◌-◌, ◌*◌, ◌<◌, ◌≤◌, List, [], ◌∷◌, length, map, get_or, replicate, set}
use Rattle.std.proofs.Common.{refl, arith, ap, sym, ◌∙◌, inl, inr}
use Rattle.std.proofs.lemmas.Bool.{cases_eq}
use Rattle.std.proofs.lemmas.List.{get_or-map, get_or-set_other, get_or-set_same, length-replicate, length-set}
use Rattle.std.proofs.lemmas.List.FromFn.{get_or-range_with_len, length-range_with_len}
use Rattle.std.specs.List.{range_with_len, sum_by}
use Rattle.league.specs.Bounds.{outside}
use Rattle.league.specs.Capacity.{ca2_entry, ca3_entry, meetings_with}
use Rattle.league.specs.Counts.{Counts, slot_count}
use Rattle.league.specs.Deviation.{entry_of}
use Rattle.league.specs.Meetings.{games_of}
use Rattle.league.proofs.SumLemmas.{sum_by-map}
use Rattle.league.proofs.SumLemmas.{sum_by-same_in}
use Rattle.rule_core.proofs.OpponentLemmas.{games_of-window}
use Rattle.league.proofs.TableLemmas.{zero_at}
use Rattle.rule_core.specs.Ready.{entry_count}
use Rattle.deviation.specs.Ca3.{class_of}
use Rattle.deviation.specs.declared.ca3.Ca3.{Ca3}

-- the games before each slot up to one
pub record AreBefore (m : Counts) (meetings : List (ℕ × ℕ)) (slot : ℕ) (before : List ℕ) : Type 0 where
  pub size : length before ≡ 79
  pub games : (t : ℕ) → t ≤ slot → get_or before t 0 ≡ games_of m meetings (range_with_len 0 t)
  pub at_most : (t : ℕ) → get_or before t 0 ≤ 1560000 * slot

-- a sum over no slots
none_before : (m : Counts) (meetings : List (ℕ × ℕ)) → games_of m meetings [] ≡ 0
none_before m [] = refl
none_before m (p ∷ ps) = omega (arith, none_before m ps)

-- before slot 0
pub AreBefore-none : (m : Counts) (meetings : List (ℕ × ℕ)) → AreBefore m meetings 0 (replicate 79 0)
AreBefore-none m meetings = record {
  size = length-replicate {A = ℕ} 79 0;
  games = λ t le. let is : t ≡ 0 = omega arith in zero_at 79 t ∙ sym (ap (λ (k : ℕ). games_of m meetings (range_with_len 0 k)) is ∙ none_before m meetings);
  at_most = λ t. omega (arith, zero_at 79 t);
}

-- with one slot more
pub AreBefore-more : (m : Counts) (meetings : List (ℕ × ℕ)) (slot next total games : ℕ) (before : List ℕ) → slot < 78
    → next ≡ slot + 1 → total ≡ get_or before slot 0 + games → games ≡ games_of m meetings (slot ∷ []) → games ≤ 1560000
    → AreBefore m meetings slot before → AreBefore m meetings (slot + 1) (set before next total)
AreBefore-more m meetings slot next total games before small one is counted few are =
    let inside : next < length before = omega (arith, are.size) in
    record {
      size = length-set before next total ∙ are.size;
      games = λ t le. elim (cases_eq t next) [
        | inl same ↦
            let longer : t ≡ slot + 1 = omega arith in
            ap (λ (u : ℕ). get_or (set before next total) u 0) same
            ∙ get_or-set_same before next total 0 inside
            ∙ omega (arith, are.games slot (omega arith), games_of-window m meetings slot 1)
            ∙ ap (λ (u : ℕ). games_of m meetings (range_with_len 0 u)) (sym longer)
        | inr differ ↦ get_or-set_other before next t total 0 differ ∙ are.games t (omega arith)
      ];
      at_most = λ t. elim (cases_eq t next) [
        | inl same ↦ omega (arith, ap (λ (u : ℕ). get_or (set before next total) u 0) same, get_or-set_same before next total 0 inside, are.at_most slot)
        | inr differ ↦ omega (arith, get_or-set_other before next t total 0 differ, are.at_most t)
      ];
    }

-- a number is at most so far outside of two bounds
pub outside-le : (low high count : ℕ) → outside low high count ≤ low + count
outside-le low high count = omega arith

-- the games in a window, by those before its end and before its first slot
window : (n : ℕ) (m : Counts) (meetings : List (ℕ × ℕ)) (intp : ℕ) (before : List ℕ)
    → ((t : ℕ) → t ≤ slot_count n → get_or before t 0 ≡ games_of m meetings (range_with_len 0 t)) → (p first : ℕ)
    → p < slot_count n + 1 - intp → first ≡ 0 + p
    → get_or before (first + intp) 0 - get_or before first 0 ≡ games_of m meetings (range_with_len first intp)
window n m meetings intp before games p first small is = omega (arith, games (first + intp) (omega arith), games first (omega arith), games_of-window m meetings first intp)

-- the entry of a CA3, by the games before each slot
pub ca3_term : (r : Ca3) (m : Counts) (key teams : ℕ) (before : List ℕ) (slots result : ℕ)
    → key < entry_count (class_of r) → teams ≡ r.n → slots ≡ slot_count teams → ((t : ℕ) → t ≤ slot_count teams → get_or
    before t 0 ≡ games_of m (meetings_with r.opponents.side (get_or r.opponents.teams1 key 0) r.opponents.teams2)
    (range_with_len 0 t)) → result ≡ sum_by (λ first. outside r.min r.max (get_or before (first + r.intp) 0 - get_or
    before first 0)) (range_with_len 0 (slots + 1 - r.intp)) → result ≡ entry_of r.n m (class_of r) key
ca3_term r m key teams before slots result inside same are_slots games summed =
    let i : ℕ = get_or r.opponents.teams1 key 0 in
    let others : List ℕ = r.opponents.teams2 in
    let count : ℕ = slot_count teams + 1 - r.intp in
    let read : ℕ → ℕ = λ first. outside r.min r.max (get_or before (first + r.intp) 0 - get_or before first 0) in
    let wanted : ℕ → ℕ = λ first. ca2_entry m others r.min r.max r.opponents.side (range_with_len first r.intp) i in
    summed
    ∙ ap (λ (k : ℕ). sum_by read (range_with_len 0 (k + 1 - r.intp))) are_slots
    ∙ sum_by-same_in read wanted (range_with_len 0 count)
    (λ p d lt. ap (outside r.min r.max) (window teams m (meetings_with r.opponents.side i others) r.intp before games p (get_or (range_with_len 0 count) p d) (omega (arith, length-range_with_len 0 count)) (get_or-range_with_len 0 count p d (omega (arith, length-range_with_len 0 count)))))
    ∙ sym (sum_by-map (λ (window : List ℕ). ca2_entry m others r.min r.max r.opponents.side window i) (λ (first : ℕ). range_with_len first r.intp) (range_with_len 0 count))
    ∙ ap (λ (k : ℕ). ca3_entry k m others r.min r.max r.intp r.opponents.side i) same
    ∙ sym (get_or-map (ca3_entry r.n m others r.min r.max r.intp r.opponents.side) r.opponents.teams1 key 0 0 inside)

-- the entry of a CA3 whose windows are longer than the season
pub ca3_none : (r : Ca3) (m : Counts) (key teams slots : ℕ) → key < entry_count (class_of r) → teams ≡ r.n
    → slots ≡ slot_count teams → slots < r.intp → 0 ≡ entry_of r.n m (class_of r) key
ca3_none r m key teams slots inside same are_slots past =
    let i : ℕ = get_or r.opponents.teams1 key 0 in
    let none : slot_count r.n + 1 - r.intp ≡ 0 = omega (arith, are_slots, ap slot_count same) in
    sym (ap (λ (k : ℕ). sum_by
    (λ (window : List ℕ). ca2_entry m r.opponents.teams2 r.min r.max r.opponents.side window i)
    (map (λ (first : ℕ). range_with_len first r.intp) (range_with_len 0 k))) none)
    ∙ sym (get_or-map
    (ca3_entry r.n m r.opponents.teams2 r.min r.max r.intp r.opponents.side) r.opponents.teams1 key 0 0 inside)
