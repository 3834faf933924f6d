-- The pair of a key: one of the first team, or one of the later teams; and whose teams it has.
use Rattle.std.proofs.Common.{◌≡◌, ℕ, ◌-◌, ◌<◌, ◌≤◌, List, ◌∷◌, length, map, get_or, subst, sym, ◌∙◌, IsTrue}
use Rattle.std.proofs.lemmas.List.{get_or-append_right, get_or-map, get_or_append_left, length-map}
use Rattle.std.proofs.lemmas.Bool.{and_parts}
use Rattle.league.specs.Instance.{are_slots, are_teams, class_fits}
use Rattle.league.specs.Meetings.{pairs_of}
use Rattle.league.specs.declared.class.Class.{Class}
use Rattle.league.specs.declared.class.Class.TheVariants.{Fa2, Se1}
use Rattle.league.proofs.FitLemmas.{are_teams-below}
use Rattle.rule_core.proofs.PairLemmas.{pairs_of-below}
use Rattle.rule_core.specs.Ready.{entry_count}

pub pair-first : (i : ℕ) (teams : List ℕ) (key d : ℕ) → key < length teams → get_or (pairs_of (i ∷ teams)) key (0, 0) ≡ (i, get_or teams key d)
pair-first i teams key d inside =
    let within : key < length (map (λ j. (i, j)) teams) = subst (λ (count : ℕ). key < count) (sym (length-map teams (λ j. (i, j)))) inside in
    get_or_append_left (map (λ j. (i, j)) teams) (pairs_of teams) (0, 0) key within
    ∙ get_or-map (λ j. (i, j)) teams key d (0, 0) inside

pub pair-later : (i : ℕ) (teams : List ℕ) (key : ℕ) → length teams ≤ key → get_or (pairs_of (i ∷ teams)) key (0, 0) ≡ get_or (pairs_of teams) (key - length teams) (0, 0)
pair-later i teams key past =
    get_or-append_right (map (λ j. (i, j)) teams) (pairs_of teams) (length teams) key (0, 0) (length-map teams (λ j. (i, j))) past

-- the teams of an entry of FA2, and of SE1, are of the league
pub fa2-below : (n : ℕ) (class : Class) (teams : List ℕ) (intp : ℕ) (slots : List ℕ) (key x y : ℕ) → class ≡ Fa2 teams intp slots → IsTrue (class_fits n class) → key < entry_count class → (x, y) ≡ get_or (pairs_of teams) key (0, 0) → (x < n) × (y < n)
fa2-below n class teams intp slots key x y is fits inside at =
    let fit : IsTrue (class_fits n (Fa2 teams intp slots)) = subst (λ (one : Class). IsTrue (class_fits n one)) is fits in
    let within : key < length (pairs_of teams) = subst (λ (one : Class). key < entry_count one) is inside in
    subst (λ (p : ℕ × ℕ). (p.0 < n) × (p.1 < n)) (sym at)
    (pairs_of-below n teams (are_teams-below n teams (and_parts (are_teams n teams) (are_slots n slots) fit).0) key (0, 0) within)

pub se1-below : (n : ℕ) (class : Class) (teams : List ℕ) (min key x y : ℕ) → class ≡ Se1 teams min → IsTrue (class_fits n class) → key < entry_count class → (x, y) ≡ get_or (pairs_of teams) key (0, 0) → (x < n) × (y < n)
se1-below n class teams min key x y is fits inside at =
    let fit : IsTrue (class_fits n (Se1 teams min)) = subst (λ (one : Class). IsTrue (class_fits n one)) is fits in
    let within : key < length (pairs_of teams) = subst (λ (one : Class). key < entry_count one) is inside in
    subst (λ (p : ℕ × ℕ). (p.0 < n) × (p.1 < n)) (sym at) (pairs_of-below n teams (are_teams-below n teams fit) key (0, 0) within)
