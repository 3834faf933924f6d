-- What the evaluation of a term adds up to.
use Rattle.std.proofs.Common.{◌≡◌, ℕ, ◌<◌, ◌≤◌, true, ◌&&◌, List, [], length, get_or, arith, ap, subst, sym, ◌∙◌}
use Rattle.std.proofs.lemmas.Bool.{and_parts}
use Rattle.std.proofs.lemmas.List.{get_or-map}
use Rattle.std.specs.List.{All, filter, sum_by}
use Rattle.league.specs.Bounds.{outside}
use Rattle.league.specs.Capacity.{ca1_entry, ca2_entry, ca4_entry, is_between, meetings_with}
use Rattle.league.specs.Counts.{Counts, slot_count, teams_of}
use Rattle.league.specs.Deviation.{entry_of, spans}
use Rattle.league.specs.Instance.{are_slots, are_teams}
use Rattle.league.specs.Meetings.{games_of, meetings_of}
use Rattle.league.specs.Venues.{games_on}
use Rattle.league.proofs.FitLemmas.{are_slots-below}
use Rattle.rule_core.specs.Ready.{entry_count}
use Rattle.rule_core.proofs.ReadyLemmas.{are_slots-few}
use Rattle.deviation.proofs.SpanLemmas.{spans-all, spans-few}
use Rattle.deviation.specs.Between.{can_host}
use Rattle.deviation.specs.Ca1 as ca1
use Rattle.deviation.specs.Ca2 as ca2
use Rattle.deviation.specs.Ca4 as ca4
use Rattle.deviation.specs.declared.ca1.Ca1.{Ca1}
use Rattle.deviation.specs.declared.ca2.Ca2.{Ca2}
use Rattle.deviation.specs.declared.ca4.Ca4.{Ca4}

-- the entry of a CA1, by the games of the team that was read
pub ca1_term : (r : Ca1) (m : Counts) (key teams team : ℕ) (slots : List ℕ) (games result : ℕ)
    → key < entry_count (ca1.class_of r) → teams ≡ r.n → team ≡ get_or r.teams key 0 → slots ≡ r.slots
    → games ≡ sum_by (λ s. games_on teams m r.side team s) slots → result ≡ outside r.min r.max games
    → result ≡ entry_of r.n m (ca1.class_of r) key
ca1_term r m key teams team slots games result inside same is_team are_slots summed less =
    less
    ∙ ap (outside r.min r.max)
    (summed
    ∙ ap (λ (xs : List ℕ). sum_by (λ s. games_on teams m r.side team s) xs) are_slots
    ∙ ap (λ (k : ℕ). sum_by (λ s. games_on k m r.side team s) r.slots) same
    ∙ ap (λ (i : ℕ). sum_by (λ s. games_on r.n m r.side i s) r.slots) is_team)
    ∙ sym (get_or-map (ca1_entry r.n m r.min r.max r.side r.slots) r.teams key 0 0 inside)

-- the entry of a CA2, by the games of the team in the slots that were read
pub ca2_term : (r : Ca2) (m : Counts) (key : ℕ) (slots : List ℕ) (games result : ℕ) → key < entry_count (ca2.class_of r)
    → slots ≡ r.slots
    → games ≡ games_of m (meetings_with r.opponents.side (get_or r.opponents.teams1 key 0) r.opponents.teams2) slots
    → result ≡ outside r.min r.max games → result ≡ entry_of r.n m (ca2.class_of r) key
ca2_term r m key slots games result inside are_slots counted less =
    less
    ∙ ap (outside r.min r.max) (counted ∙ ap (λ (xs : List ℕ). games_of m (meetings_with r.opponents.side (get_or r.opponents.teams1 key 0) r.opponents.teams2) xs) are_slots)
    ∙ sym (get_or-map (ca2_entry m r.opponents.teams2 r.min r.max r.opponents.side r.slots) r.opponents.teams1 key 0 0 inside)

-- the slots of an entry of a CA4 are few, and of the season
fitting_slots : (r : Ca4) → are_slots r.n r.slots ≡ true
fitting_slots r = (and_parts (are_teams r.n r.opponents.teams1 && are_teams r.n r.opponents.teams2) (are_slots r.n r.slots) r.ready.fits).1

pub ca4_slots-few : (r : Ca4) (key : ℕ) (read : List ℕ) → key < entry_count (ca4.class_of r) → read ≡ get_or (spans r.span r.slots) key [] → length read ≤ 78
ca4_slots-few r key read inside is_read =
    omega (arith, ap length is_read, spans-few r.span r.slots key inside (are_slots-few r.n r.slots r.ready.at_most (fitting_slots r)))

pub ca4_slots-below : (r : Ca4) (key teams : ℕ) (read : List ℕ) → key < entry_count (ca4.class_of r) → teams ≡ r.n
    → read ≡ get_or (spans r.span r.slots) key [] → All (λ s. s < slot_count teams) read
ca4_slots-below r key teams read inside same is_read =
    let of_rule : All (λ s. s < slot_count r.n) (get_or (spans r.span r.slots) key []) = spans-all (λ s. s < slot_count r.n) r.span r.slots key inside (are_slots-below r.n r.slots (fitting_slots r)) in
    let P : List ℕ → Type 0 = λ xs. All (λ s. s < slot_count teams) xs in
    let Q : ℕ → Type 0 = λ k. All (λ s. s < slot_count k) (get_or (spans r.span r.slots) key []) in
    subst P (sym is_read) (subst Q (sym same) of_rule)

-- the teams that can be at home, in the league of the counts
pub ca4_hosts : (r : Ca4) (teams : ℕ) (read : List ℕ) → teams ≡ r.n → read ≡ r.hosts.items
    → read ≡ filter (can_host r.opponents.side r.opponents.teams1 r.opponents.teams2) (teams_of teams)
ca4_hosts r teams read same is_read =
    is_read ∙ r.hosting
    ∙ ap (λ (k : ℕ). filter (can_host r.opponents.side r.opponents.teams1 r.opponents.teams2) (teams_of k))
    (sym same)

-- the entry of a CA4, by the games of its meetings in the slots that were read
pub ca4_term : (r : Ca4) (m : Counts) (key teams : ℕ) (read : List ℕ) (games result : ℕ)
    → key < entry_count (ca4.class_of r) → teams ≡ r.n → read ≡ get_or (spans r.span r.slots) key []
    → games ≡ games_of m
    (filter (is_between r.opponents.side r.opponents.teams1 r.opponents.teams2) (meetings_of teams)) read
    → result ≡ outside r.min r.max games → result ≡ entry_of r.n m (ca4.class_of r) key
ca4_term r m key teams read games result inside same is_read counted less =
    let opponents = r.opponents in
    less
    ∙ ap (outside r.min r.max)
    (counted
    ∙ ap (λ (xs : List ℕ). games_of m
    (filter (is_between opponents.side opponents.teams1 opponents.teams2) (meetings_of teams)) xs) is_read
    ∙ ap (λ (k : ℕ). games_of m
    (filter (is_between opponents.side opponents.teams1 opponents.teams2) (meetings_of k))
    (get_or (spans r.span r.slots) key [])) same)
    ∙ sym (get_or-map (ca4_entry r.n m opponents.teams1 opponents.teams2 r.min r.max opponents.side) (spans r.span r.slots) key [] 0 inside)
