-- Where the rows of each constraint begin, as they are written one after another.
use Rattle.std.proofs.Common.{◌≡◌, ℕ, ◌+◌, ◌<◌, Bool, true, false, cond, List, [], ◌∷◌, ◌++◌, length, take, get_or, map}
use Rattle.std.proofs.Common.{arith, ap, sym, ◌∙◌, append_assoc, append-nil, length-append}
use Rattle.std.proofs.lemmas.List.{take_more}
use Rattle.std.proofs.lemmas.List.FromFn.{map-range_with_len_more}
use Rattle.std.specs.List.{flat_map, range_with_len}
use Rattle.league.specs.declared.class.Constraint.{Constraint}
use Rattle.rows.specs.Rows.{Row}
use Rattle.encoding.proofs.RowRangeLemmas.{constraint_rows-append}
use Rattle.encoding.specs.Encoding.{class_rows, constraint_rows, season_rows}
use Rattle.encoding.specs.RowRanges.{first_behind, starts_behind}
use Rattle.encoding.specs.Season.{break_rows}

-- the rows of one constraint more
one_more : (n k : ℕ) (cs : List Constraint) (c : Constraint) → c ≡ get_or cs k c → k < length cs
    → constraint_rows n (take (k + 1) cs) ≡ constraint_rows n (take k cs) ++ constraint_rows n (c ∷ [])
one_more n k cs c is there =
    ap (λ (ds : List Constraint). constraint_rows n ds) (take_more cs k c there)
    ∙ ap (λ (d : Constraint). constraint_rows n (take k cs ++ d ∷ [])) (sym is)
    ∙ constraint_rows-append n (take k cs) (c ∷ [])

hard-own : (n : ℕ) (c : Constraint) → c.hard ≡ true → constraint_rows n (c ∷ []) ≡ class_rows n c.class
hard-own n c hard =
    ap (λ (b : Bool). flat_map (λ (d : Constraint). class_rows n d.class) (cond b (c ∷ []) [])) hard
    ∙ append-nil (class_rows n c.class)

soft-own : (n : ℕ) (c : Constraint) → c.hard ≡ false → constraint_rows n (c ∷ []) ≡ []
soft-own n c soft = ap (λ (b : Bool). flat_map (λ (d : Constraint). class_rows n d.class) (cond b (c ∷ []) [])) soft

-- a hard constraint more adds the rows of its class
pub rows-hard : (n k : ℕ) (cs : List Constraint) (c : Constraint) (old rows new : List Row) → c ≡ get_or cs k c
    → k < length cs → c.hard ≡ true → rows ≡ old ++ constraint_rows n (take k cs)
    → new ≡ rows ++ class_rows n c.class → new ≡ old ++ constraint_rows n (take (k + 1) cs)
rows-hard n k cs c old rows new is there hard so_far made =
    let before : List Row = constraint_rows n (take k cs) in
    made
    ∙ ap (λ (rs : List Row). rs ++ class_rows n c.class) so_far
    ∙ append_assoc old before (class_rows n c.class)
    ∙ ap (λ (rs : List Row). old ++ (before ++ rs)) (sym (hard-own n c hard))
    ∙ ap (λ (rs : List Row). old ++ rs) (sym (one_more n k cs c is there))

-- a soft one adds none
pub rows-soft : (n k : ℕ) (cs : List Constraint) (c : Constraint) (old rows new : List Row) → c ≡ get_or cs k c
    → k < length cs → c.hard ≡ false → rows ≡ old ++ constraint_rows n (take k cs) → new ≡ rows
    → new ≡ old ++ constraint_rows n (take (k + 1) cs)
rows-soft n k cs c old rows new is there soft so_far same =
    let before : List Row = constraint_rows n (take k cs) in
    same
    ∙ so_far
    ∙ ap (λ (rs : List Row). old ++ rs) (sym (append-nil before))
    ∙ ap (λ (rs : List Row). old ++ (before ++ rs)) (sym (soft-own n c soft))
    ∙ ap (λ (rs : List Row). old ++ rs) (sym (one_more n k cs c is there))

-- one beginning more
pub starts-more : (n k at : ℕ) (cs : List Constraint) (old rows : List Row) (starts more : List ℕ)
    → rows ≡ old ++ constraint_rows n (take k cs) → at ≡ length rows
    → starts ≡ map (first_behind (length old) n cs) (range_with_len 0 k) → more ≡ starts ++ at ∷ []
    → more ≡ map (first_behind (length old) n cs) (range_with_len 0 (k + 1))
starts-more n k at cs old rows starts more so_far long before made =
    let begin : ℕ → ℕ = first_behind (length old) n cs in
    let here : at ≡ begin k =
    long ∙ ap (λ (rs : List Row). length rs) so_far ∙ length-append old (constraint_rows n (take k cs)) in
    made
    ∙ ap (λ (ks : List ℕ). ks ++ at ∷ []) before
    ∙ ap (λ (p : ℕ). map begin (range_with_len 0 k) ++ p ∷ []) here
    ∙ sym (map-range_with_len_more begin 0 k k (let start : 0 + k ≡ k = omega arith in start))

-- behind the last constraint its end is noted
pub starts-all : (n k at : ℕ) (cs : List Constraint) (old rows : List Row) (starts more : List ℕ)
    → rows ≡ old ++ constraint_rows n (take k cs) → at ≡ length rows
    → starts ≡ map (first_behind (length old) n cs) (range_with_len 0 k) → more ≡ starts ++ at ∷ []
    → k ≡ length cs → more ≡ starts_behind (length old) n cs
starts-all n k at cs old rows starts more so_far long before made all =
    starts-more n k at cs old rows starts more so_far long before made
    ∙ ap (λ (j : ℕ). map (first_behind (length old) n cs) (range_with_len 0 (j + 1))) all

-- the beginnings behind the rows of the season and of breaks
pub made_starts : (n m : ℕ) (phased asked breaks : Bool) (cs ds : List Constraint) (start season tied : List Row)
    (starts : List ℕ) → starts ≡ starts_behind (length tied) m ds → tied ≡ season ++ break_rows m breaks
    → season ≡ start ++ season_rows m asked → start ≡ [] → m ≡ n → asked ≡ phased → ds ≡ cs
    → starts ≡ starts_behind (length (season_rows n phased ++ break_rows n breaks)) n cs
made_starts n m phased asked breaks cs ds start season tied starts are is_tied is_season none same_n same_phased same =
    are
    ∙ ap (λ (rows : List Row). starts_behind (length rows) m ds) is_tied
    ∙ ap (λ (rows : List Row). starts_behind (length (rows ++ break_rows m breaks)) m ds) is_season
    ∙ ap (λ (rows : List Row). starts_behind (length ((rows ++ season_rows m asked) ++ break_rows m breaks)) m ds) none
    ∙ ap (λ (k : ℕ). starts_behind (length (season_rows k asked ++ break_rows k breaks)) k ds) same_n
    ∙ ap (λ (b : Bool). starts_behind (length (season_rows n b ++ break_rows n breaks)) n ds) same_phased
    ∙ ap (λ (es : List Constraint). starts_behind (length (season_rows n phased ++ break_rows n breaks)) n es) same
