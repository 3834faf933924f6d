-- What the evaluation of a term adds up to.
use Rattle.std.proofs.Common.{◌≡◌, ℕ, ◌-◌, ◌<◌, zero, suc, List, get_or, arith, ap, sym, refl, ◌∙◌}
use Rattle.std.proofs.lemmas.List.{get_or-map}
use Rattle.league.specs.Breaks.{all_breaks, br1_entry, br2_entry, breaks_among}
use Rattle.league.specs.Counts.{Counts}
use Rattle.league.specs.Deviation.{entry_of}
use Rattle.rule_core.specs.Ready.{entry_count}
use Rattle.deviation.specs.Br1 as br1
use Rattle.deviation.specs.Br2 as br2
use Rattle.deviation.specs.declared.br1.Br1.{Br1}
use Rattle.deviation.specs.declared.br2.Br2.{Br2}

-- the entry of a BR1, by the breaks of the team that was read
pub br1_term : (r : Br1) (m : Counts) (key teams team : ℕ) (slots : List ℕ) (breaks bound result : ℕ)
    → key < entry_count (br1.class_of r) → teams ≡ r.n → team ≡ get_or r.scope.teams key 0 → slots ≡ r.scope.slots
    → breaks ≡ breaks_among teams m r.side slots team → bound ≡ r.intp → result ≡ breaks - bound
    → result ≡ entry_of r.n m (br1.class_of r) key
br1_term r m key teams team slots breaks bound result inside same is_team are_slots summed is_bound less =
    less
    ∙ ap (λ (b : ℕ). breaks - b) is_bound
    ∙ ap (λ (b : ℕ). b - r.intp)
    (summed
    ∙ ap (λ (xs : List ℕ). breaks_among teams m r.side xs team) are_slots
    ∙ ap (λ (k : ℕ). breaks_among k m r.side r.scope.slots team) same
    ∙ ap (breaks_among r.n m r.side r.scope.slots) is_team)
    ∙ sym (get_or-map (br1_entry r.n m r.intp r.side r.scope.slots) r.scope.teams key 0 0 inside)

-- the one entry
only_entry : (r : Br2) (m : Counts) (key : ℕ) → key < entry_count (br2.class_of r) → br2_entry r.n m r.scope.teams r.intp r.scope.slots ≡ entry_of r.n m (br2.class_of r) key
only_entry r m zero inside = refl
only_entry r m (suc key) inside = absurd (omega arith)

-- the entry of a BR2, by the breaks of all the teams
pub br2_term : (r : Br2) (m : Counts) (key teams : ℕ) (listed slots : List ℕ) (breaks bound result : ℕ)
    → key < entry_count (br2.class_of r) → teams ≡ r.n → listed ≡ r.scope.teams → slots ≡ r.scope.slots
    → breaks ≡ all_breaks teams m listed slots → bound ≡ r.intp → result ≡ breaks - bound
    → result ≡ entry_of r.n m (br2.class_of r) key
br2_term r m key teams listed slots breaks bound result inside same are_teams are_slots summed is_bound less =
    less
    ∙ ap (λ (b : ℕ). breaks - b) is_bound
    ∙ ap (λ (b : ℕ). b - r.intp)
    (summed
    ∙ ap (λ (xs : List ℕ). all_breaks teams m xs slots) are_teams
    ∙ ap (λ (xs : List ℕ). all_breaks teams m r.scope.teams xs) are_slots
    ∙ ap (λ (k : ℕ). all_breaks k m r.scope.teams r.scope.slots) same)
    ∙ only_entry r m key inside
