-- Entries that an edit doesn't touch are the same before and after.
use Rattle.std.proofs.Common.{◌≡◌, ℕ, ◌<◌, false, if◌then◌else◌, inl, inr, List, [], ◌∷◌, ◌++◌, length, get_or, map, ap, sym, ◌∙◌, arith}
use Rattle.std.proofs.lemmas.Bool.{cases_Bool, or_parts}
use Rattle.std.proofs.lemmas.Bool.Decides.{Decides-eqb, not_from_Decides}
use Rattle.std.proofs.lemmas.List.{ext_get_or}
use Rattle.std.proofs.lemmas.List.FromFn.{get_or-map-range_with_len, length-map-range_with_len}
use Rattle.std.proofs.lemmas.List.Elements.{All-head, All-tail}
use Rattle.std.proofs.lemmas.List.Sums.{sum_by-cons}
use Rattle.std.proofs.lemmas.Map.Made.{is_member-Decides}
use Rattle.std.specs.List.{All, Contains, flat_map, range_with_len}
use Rattle.league.specs.Counts.{Counts, is_game, one_more}
use Rattle.league.specs.Instance.{IsGame}
use Rattle.league.specs.declared.game.Game.{Game}
use Rattle.league.proofs.RangeLemmas.{one_if}
use Rattle.rule_core.proofs.ListedLemmas.{same_counts}
use Rattle.descent.specs.KeySet.{is_in}
use Rattle.descent.specs.Tallies.{with_games}
use Rattle.descent.specs.Weighing.{renewed}
use Rattle.descent.proofs.SetLemmas.{is_in-append}
use Rattle.descent.proofs.TouchedLemmas.{flat_map-append}
use Rattle.descent.proofs.WeighingLemmas.{chosen, left_out, renewed-at, renewed-long}

-- a game changes no entry of a key that it doesn't touch
abbrev pub HasFrame : ℕ → ℕ → (ℕ → Counts → ℕ) → (Game → List ℕ) → Type 0
HasFrame n terms entry touches = (g : Game) (m : Counts) (k : ℕ) → IsGame n g → k < terms → (Contains (touches g) k → ⊥) → entry k (one_more m g) ≡ entry k m

pub with_none : (m : Counts) → with_games m [] ≡ m
with_none m = same_counts (with_games m []) m (λ i j s. omega arith)

pub with_next : (m : Counts) (g : Game) (games : List Game) → with_games m (g ∷ games) ≡ one_more (with_games m games) g
with_next m g games = same_counts (with_games m (g ∷ games)) (one_more (with_games m games) g) (λ i j s. omega (arith, sum_by-cons (λ x. one_if (is_game i j s x)) g games))

lacks : (keys : List ℕ) (k : ℕ) → is_in keys k ≡ false → Contains keys k → ⊥
lacks keys k out = not_from_Decides (is_in keys k) (is_member-Decides Decides-eqb keys k) out

pub frame_all : (n terms : ℕ) (entry : ℕ → Counts → ℕ) (touches : Game → List ℕ) → HasFrame n terms entry touches → (m : Counts) (games : List Game) → All (IsGame n) games → (k : ℕ) → k < terms → is_in (flat_map touches games) k ≡ false → entry k (with_games m games) ≡ entry k m
frame_all n terms entry touches frame m [] fit k below out = ap (entry k) (with_none m)
frame_all n terms entry touches frame m (g ∷ games) fit k below out =
    let parts = or_parts (is_in (touches g) k) (is_in (flat_map touches games) k) (sym (is_in-append (touches g) (flat_map touches games) k) ∙ out) in
    ap (entry k) (with_next m g games)
    ∙ frame g (with_games m games) k (All-head (IsGame n) g games fit) below (lacks (touches g) k parts.0)
    ∙ frame_all n terms entry touches frame m games (All-tail (IsGame n) g games fit) k below parts.1

pub edit_kept : (n terms : ℕ) (entry : ℕ → Counts → ℕ) (touches : Game → List ℕ) → HasFrame n terms entry touches
    → (now m : Counts) (out into : List Game) → All (IsGame n) out → All (IsGame n) into
    → with_games now out ≡ with_games m into → (k : ℕ) → k < terms
    → is_in (flat_map touches out ++ flat_map touches into) k ≡ false → entry k now ≡ entry k m
edit_kept n terms entry touches frame now m out into out_fit into_fit same k below lacking =
    let parts = or_parts (is_in (flat_map touches out) k) (is_in (flat_map touches into) k) (sym (is_in-append (flat_map touches out) (flat_map touches into) k) ∙ lacking) in
    sym (frame_all n terms entry touches frame now out out_fit k below parts.0) ∙ ap (entry k) same ∙ frame_all n terms entry touches frame m into into_fit k below parts.1

get_or-range : (f : ℕ → ℕ) (terms i : ℕ) → i < terms → get_or (map f (range_with_len 0 terms)) i 0 ≡ f i
get_or-range f terms i below = get_or-map-range_with_len f 0 terms i i 0 below (omega arith)

-- entries that were exact before an edit are exact after it where those that it touches are evaluated afresh
pub edit_exact : (n terms : ℕ) (entry : ℕ → Counts → ℕ) (touches : Game → List ℕ) → HasFrame n terms entry touches
    → (now m : Counts) (out into : List Game) → All (IsGame n) out → All (IsGame n) into → with_games now out ≡ with_games m into
    → (keys entries : List ℕ) → ((k : ℕ) → is_in keys k ≡ is_in (flat_map touches (out ++ into)) k)
    → entries ≡ map (λ k. entry k m) (range_with_len 0 terms)
    → renewed (λ k. entry k now) keys entries ≡ map (λ k. entry k now) (range_with_len 0 terms)
edit_exact n terms entry touches frame now m out into out_fit into_fit same keys entries touched was =
    let f : ℕ → ℕ = λ k. entry k now in
    let long : length entries ≡ terms = ap length was ∙ length-map-range_with_len (λ k. entry k m) 0 terms in
    let wide : length (map f (range_with_len 0 terms)) ≡ terms = length-map-range_with_len f 0 terms in
    ext_get_or 0 (renewed f keys entries) (map f (range_with_len 0 terms))
    (renewed-long f keys entries ∙ long ∙ sym wide) (λ i h.
    let within : i < length entries = omega (arith, h, renewed-long f keys entries) in
    let below : i < terms = omega (arith, within, long) in
    renewed-at f keys entries i within
    ∙ elim (cases_Bool (is_in keys i)) as (λ _. (if is_in keys i then f i else get_or entries i 0) ≡ f i) [
      | inl found ↦ chosen (is_in keys i) (f i) (get_or entries i 0) found
      | inr lost ↦
          left_out (is_in keys i) (f i) (get_or entries i 0) lost
          ∙ ap (λ (l : List ℕ). get_or l i 0) was
          ∙ get_or-range (λ k. entry k m) terms i below
          ∙ sym (edit_kept n terms entry touches frame now m out into out_fit into_fit same i below
          (ap (λ (l : List ℕ). is_in l i) (sym (flat_map-append touches out into)) ∙ sym (touched i) ∙ lost))
    ]
    ∙ sym (get_or-range f terms i below))
