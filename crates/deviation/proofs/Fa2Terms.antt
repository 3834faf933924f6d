-- What a term needs of its rule, and what its evaluation gives.
use Rattle.std.proofs.Common.{◌≡◌, ℕ, ◌<◌, ◌≤◌, List, length, arith, ap, subst, sym, ◌∙◌, Some}
use Rattle.std.specs.Prelude.{slice_get}
use Rattle.std.proofs.lemmas.Bool.{and_parts}
use Rattle.std.proofs.lemmas.List.{get_or-map}
use Rattle.std.specs.List.{All}
use Rattle.std.specs.Ordering.{nat_cmp}
use Rattle.league.specs.Counts.{Counts, slot_count}
use Rattle.league.specs.Deviation.{entry_of}
use Rattle.league.specs.Fairness.{fa2_entry}
use Rattle.league.specs.Instance.{are_slots, are_teams}
use Rattle.league.specs.Meetings.{pairs_of}
use Rattle.league.specs.Sets.{IsAscending}
use Rattle.league.proofs.FitLemmas.{are_slots-ascending, are_slots-below, are_teams-below}
use Rattle.rule_core.specs.Ready.{entry_count}
use Rattle.rule_core.proofs.ReadyLemmas.{are_slots-few}
use Rattle.rule_core.proofs.PairLemmas.{pair_read}
use Rattle.deviation.specs.Fa2.{class_of}
use Rattle.deviation.specs.declared.fa2.Fa2.{Fa2}

-- the teams and the slots are of the league, and the slots ascend
pub teams_below : (r : Fa2) → All (λ t. t < r.n) r.pairs
teams_below r = are_teams-below r.n r.pairs (and_parts (are_teams r.n r.pairs) (are_slots r.n r.slots.items) r.ready.fits).0

pub slots_below : (r : Fa2) (teams : ℕ) (slots : List ℕ) → teams ≡ r.n → slots ≡ r.slots.items → All (λ s. s < slot_count teams) slots
slots_below r teams slots same are =
    let of_rule : All (λ s. s < slot_count r.n) r.slots.items = are_slots-below r.n r.slots.items (and_parts (are_teams r.n r.pairs) (are_slots r.n r.slots.items) r.ready.fits).1 in
    let P : List ℕ → Type 0 = λ xs. All (λ s. s < slot_count teams) xs in
    let Q : ℕ → Type 0 = λ k. All (λ s. s < slot_count k) r.slots.items in
    subst P (sym are) (subst Q (sym same) of_rule)

pub slots_ascending : (r : Fa2) (slots : List ℕ) → slots ≡ r.slots.items → IsAscending nat_cmp slots
slots_ascending r slots are =
    let of_rule : IsAscending nat_cmp r.slots.items = are_slots-ascending r.n r.slots.items (and_parts (are_teams r.n r.pairs) (are_slots r.n r.slots.items) r.ready.fits).1 in
    let P : List ℕ → Type 0 = λ xs. IsAscending nat_cmp xs in
    subst P (sym are) of_rule

-- the entry of an FA2, by the pair and the slots that were read
pub fa2_term : (r : Fa2) (m : Counts) (slots : List ℕ) (key teams x y result : ℕ) → key < entry_count (class_of r) → teams ≡ r.n → slice_get (pairs_of r.pairs) key ≡ Some (x, y) → slots ≡ r.slots.items → result ≡ fa2_entry teams m r.intp slots (x, y) → result ≡ entry_of r.n m (class_of r) key
fa2_term r m slots key teams x y result inside same is are_slots led =
    led
    ∙ ap (λ (xs : List ℕ). fa2_entry teams m r.intp xs (x, y)) are_slots
    ∙ ap (λ (k : ℕ). fa2_entry k m r.intp r.slots.items (x, y)) same
    ∙ ap (λ (p : ℕ × ℕ). fa2_entry r.n m r.intp r.slots.items p) (sym (pair_read r.pairs key x y is))
    ∙ sym (get_or-map (fa2_entry r.n m r.intp r.slots.items) (pairs_of r.pairs) key (0, 0) 0 inside)

pub slots_few : (r : Fa2) (slots : List ℕ) → slots ≡ r.slots.items → length slots ≤ 78
slots_few r slots are =
    omega (
      arith,
      ap length are,
      are_slots-few r.n r.slots.items r.ready.at_most
          (and_parts (are_teams r.n r.pairs) (are_slots r.n r.slots.items) r.ready.fits).1,
    )
