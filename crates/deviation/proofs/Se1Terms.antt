-- What the evaluation of a term gives.
use Rattle.std.proofs.Common.{◌≡◌, ℕ, ◌<◌, List, length, map, refl, ap, sym, ◌∙◌, Some}
use Rattle.std.proofs.lemmas.List.{get_or-map, length-map}
use Rattle.std.proofs.lemmas.List.FromFn.{fill_by_all}
use Rattle.std.specs.List.{range_with_len}
use Rattle.std.specs.Prelude.{slice_get}
use Rattle.league.specs.Counts.{Counts}
use Rattle.league.specs.Deviation.{entry_of}
use Rattle.league.specs.Meetings.{pairs_of}
use Rattle.league.specs.Separation.{se1_entry}
use Rattle.rule_core.proofs.PairLemmas.{pair_read}
use Rattle.league.specs.declared.class.Class.TheVariants.{Se1}

-- the entry of an SE1, by the pair that was read
pub se1_term : (n : ℕ) (m : Counts) (teams : List ℕ) (min key known x y result : ℕ) → key < length (pairs_of teams) → known ≡ n → slice_get (pairs_of teams) key ≡ Some (x, y) → result ≡ se1_entry known m min (x, y) → result ≡ entry_of n m (Se1 teams min) key
se1_term n m teams min key known x y result inside same is lacked =
    lacked
    ∙ ap (λ (k : ℕ). se1_entry k m min (x, y)) same
    ∙ ap (λ (p : ℕ × ℕ). se1_entry n m min p) (sym (pair_read teams key x y is))
    ∙ sym (get_or-map (se1_entry n m min) (pairs_of teams) key (0, 0) 0 inside)

-- the entries of all pairs of the teams that were read
pub se1_vector : (n : ℕ) (m : Counts) (teams read : List ℕ) (min known : ℕ) → known ≡ n → read ≡ teams
    → map (se1_entry known m min) (pairs_of read) ≡ map (λ k. entry_of n m (Se1 teams min) k)
    (range_with_len 0 (length (pairs_of teams)))
se1_vector n m teams read min known same are =
    ap (λ (k : ℕ). map (se1_entry k m min) (pairs_of read)) same
    ∙ ap (λ (ts : List ℕ). map (se1_entry n m min) (pairs_of ts)) are
    ∙ fill_by_all (λ k. entry_of n m (Se1 teams min) k) (map (se1_entry n m min) (pairs_of teams))
    (length (pairs_of teams)) 0 (length-map (pairs_of teams) (se1_entry n m min)) (λ k lt. refl)
