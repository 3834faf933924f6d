-- The subjects of a class, and the places at which it bounds them.
use Rattle.std.proofs.Common.{◌≡◌, ℕ, ◌+◌, ◌-◌, ◌<◌, ◌≤◌, List, ◌∷◌, length, length-append, get_or, map, refl, ap, sym, subst, ◌∙◌, arith, true}
use Rattle.std.proofs.lemmas.List.{get_or-append_right, get_or-map, get_or_append_left, length-map}
use Rattle.std.proofs.lemmas.List.Elements.{All-get_or}
use Rattle.std.proofs.lemmas.List.FromFn.{get_or-range_with_len, length-range_with_len}
use Rattle.std.specs.List.{All, range_with_len}
use Rattle.league.specs.Counts.{slot_count}
use Rattle.league.specs.Instance.{are_teams}
use Rattle.league.specs.Meetings.{pairs_of}
use Rattle.encoding.specs.Pairs.{IsPair}
use Rattle.encoding.specs.declared.subjects.Subject.{Subject}
use Rattle.encoding.specs.declared.subjects.Subject.TheVariants.{Team, Pair}
use Rattle.encoding.proofs.FewLemmas.{pairs_fit}

-- ---- pairs by their places

pub pairs_further : (i : ℕ) (later : List ℕ) → length (pairs_of (i ∷ later)) ≡ length later + length (pairs_of later)
pairs_further i later =
    let pair : ℕ → ℕ × ℕ = λ j. (i, j) in
    omega (arith, length-append (map pair later) (pairs_of later), length-map later pair)

-- the pairs of the first team come first
pub pair_here : (i : ℕ) (later : List ℕ) (k d : ℕ) (other : ℕ × ℕ) → k < length later
    → get_or (pairs_of (i ∷ later)) k other ≡ (i, get_or later k d)
pair_here i later k d other here =
    let pair : ℕ → ℕ × ℕ = λ j. (i, j) in
    get_or_append_left (map pair later) (pairs_of later) other k (omega (arith, here, length-map later pair))
    ∙ get_or-map pair later k d other here

pub pair_later : (i : ℕ) (later : List ℕ) (k : ℕ) (other : ℕ × ℕ) → length later ≤ k
    → get_or (pairs_of (i ∷ later)) k other ≡ get_or (pairs_of later) (k - length later) other
pair_later i later k other beyond =
    let pair : ℕ → ℕ × ℕ = λ j. (i, j) in
    get_or-append_right (map pair later) (pairs_of later) (length later) k other (length-map later pair) beyond

-- ---- subjects by their places

pub team_at : (k : ℕ) (teams : List ℕ) (d : ℕ) (other : Subject) → k < length teams
    → Team (get_or teams k d) ≡ get_or (map Team teams) k other
team_at k teams d other there = sym (get_or-map Team teams k d other there)

pub pair_at : (k : ℕ) (pairs : List (ℕ × ℕ)) (p : ℕ × ℕ) (other : Subject) → k < length pairs
    → p ≡ get_or pairs k p → Pair p.0 p.1 ≡ get_or (map (λ q. Pair q.0 q.1) pairs) k other
pair_at k pairs p other there is =
    ap (λ (q : ℕ × ℕ). Pair q.0 q.1) is ∙ sym (get_or-map (λ q. Pair q.0 q.1) pairs k p other there)

pub pair_fits : (n k : ℕ) (teams : List ℕ) (p : ℕ × ℕ) → are_teams n teams ≡ true → k < length (pairs_of teams)
    → p ≡ get_or (pairs_of teams) k p → IsPair n p
pair_fits n k teams p fit there is =
    subst (λ (q : ℕ × ℕ). IsPair n q) (sym is)
    (All-get_or (IsPair n) (pairs_of teams) k p there (pairs_fit n teams teams (pairs_of teams) fit refl refl))

-- ---- places

-- windows of so many slots end with the season
pub firsts_fit : (n window : ℕ) (firsts : List ℕ) → firsts ≡ range_with_len 0 (slot_count n + 1 - window)
    → All (λ first. first + window ≤ slot_count n) firsts
firsts_fit n window firsts are k d lt =
    let long : length firsts ≡ slot_count n + 1 - window =
    ap length are ∙ length-range_with_len 0 (slot_count n + 1 - window) in
    let is : get_or firsts k d ≡ 0 + k =
    ap (λ (xs : List ℕ). get_or xs k d) are
    ∙ get_or-range_with_len 0 (slot_count n + 1 - window) k d (omega arith) in
    omega arith

pub firsts_few : (n window : ℕ) (firsts : List ℕ) → n ≤ 40 → 1 ≤ window
    → firsts ≡ range_with_len 0 (slot_count n + 1 - window) → length firsts ≤ 78
firsts_few n window firsts small some are =
    omega (arith, ap length are, length-range_with_len 0 (slot_count n + 1 - window))
