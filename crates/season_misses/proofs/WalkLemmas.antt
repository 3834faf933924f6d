-- Lists that are gone through from the front.
use Rattle.std.proofs.Common.{◌≡◌, ◌≢◌, ℕ, suc, zero, ◌+◌, ◌-◌, ◌<◌, ◌≤◌, Bool, true, false, not, ◌&&◌, cond, List, [], ◌∷◌, ◌++◌, length, drop, get_or, refl, arith, ap, sym, ◌∙◌, add-one, append_assoc, append-nil, take, length-drop}
use Rattle.std.proofs.Math.Seq.{drop-cons, take-length}
use Rattle.std.proofs.lemmas.List.{at_drop_all}
use Rattle.std.specs.List.{position_or_len}
use Rattle.league.specs.declared.game.Game.{Game}
use Rattle.season_misses.specs.declared.reason.Reason.{Reason}
use Rattle.season_misses.specs.Rows.{Row, are_same_games, goes_on, is_same_game, more_windows, rows_from}
use Rattle.season_misses.proofs.RowLemmas.{rows_from-next, rows_from-none, rows_from-told}

-- a list from a place on, by the item there and the others
pub cut_at : {X : Type 0} (xs : List X) (k : ℕ) (x : X) → k < length xs → get_or xs k x ≡ x → drop k xs ≡ x ∷ drop (k + 1) xs
cut_at {X} xs k x within is =
    drop-cons xs k x within ∙ ap (λ (y : X). y ∷ drop (suc k) xs) is ∙ ap (λ (j : ℕ). x ∷ drop j xs) (sym (add-one k))

-- the rest of a list is whole
pub rest_whole : {X : Type 0} (xs : List X) (k : ℕ) → take (length xs - k) (drop k xs) ≡ drop k xs
rest_whole {X} xs k = ap (λ (n : ℕ). take n (drop k xs)) (sym (length-drop k xs)) ∙ take-length (drop k xs)

-- ---- the first item that passes a test

pub position_more : {X : Type 0} (p : X → Bool) (xs : List X) (k : ℕ) (x : X) (whole : ℕ) → k < length xs → get_or xs k x ≡ x → p x ≡ false
    → whole ≡ k + position_or_len p (drop k xs) → whole ≡ k + 1 + position_or_len p (drop (k + 1) xs)
position_more {X} p xs k x whole within is fails so_far =
    let step : position_or_len p (drop k xs) ≡ 1 + position_or_len p (drop (k + 1) xs) =
    ap (position_or_len p) (cut_at xs k x within is)
    ∙ ap (λ (b : Bool). cond (not b) (1 + position_or_len p (drop (k + 1) xs)) 0) fails in
    omega (arith, step, so_far)

pub position_here : {X : Type 0} (p : X → Bool) (xs : List X) (k : ℕ) (x : X) (whole : ℕ) → k < length xs → get_or xs k x ≡ x → p x ≡ true
    → whole ≡ k + position_or_len p (drop k xs) → k ≡ whole
position_here {X} p xs k x whole within is passes so_far =
    let step : position_or_len p (drop k xs) ≡ 0 =
    ap (position_or_len p) (cut_at xs k x within is)
    ∙ ap (λ (b : Bool). cond (not b) (1 + position_or_len p (drop (k + 1) xs)) 0) passes in
    omega (arith, step, so_far)

pub position_end : {X : Type 0} (p : X → Bool) (xs : List X) (k : ℕ) (whole : ℕ) → length xs ≤ k
    → whole ≡ k + position_or_len p (drop k xs) → k ≡ whole
position_end {X} p xs k whole past so_far =
    let step : position_or_len p (drop k xs) ≡ 0 = at_drop_all (position_or_len p) xs k past in
    omega (arith, step, so_far)

-- ---- how many windows go on

pub windows_more : (others : List Reason) (k : ℕ) (before reason : Reason) (whole : ℕ) → k < length others → get_or others k reason ≡ reason → goes_on before reason ≡ true
    → whole ≡ k + more_windows before (drop k others) → whole ≡ k + 1 + more_windows reason (drop (k + 1) others)
windows_more others k before reason whole within is goes so_far =
    let step : more_windows before (drop k others) ≡ 1 + more_windows reason (drop (k + 1) others) =
    ap (more_windows before) (cut_at others k reason within is)
    ∙ ap (λ (b : Bool). cond b (1 + more_windows reason (drop (k + 1) others)) 0) goes in
    omega (arith, step, so_far)

pub windows_here : (others : List Reason) (k : ℕ) (before reason : Reason) (whole : ℕ) → k < length others → get_or others k reason ≡ reason → goes_on before reason ≡ false
    → whole ≡ k + more_windows before (drop k others) → k ≡ whole
windows_here others k before reason whole within is stops so_far =
    let step : more_windows before (drop k others) ≡ 0 =
    ap (more_windows before) (cut_at others k reason within is)
    ∙ ap (λ (b : Bool). cond b (1 + more_windows reason (drop (k + 1) others)) 0) stops in
    omega (arith, step, so_far)

pub windows_end : (others : List Reason) (k : ℕ) (before : Reason) (whole : ℕ) → length others ≤ k
    → whole ≡ k + more_windows before (drop k others) → k ≡ whole
windows_end others k before whole past so_far =
    let step : more_windows before (drop k others) ≡ 0 = at_drop_all (more_windows before) others k past in
    omega (arith, step, so_far)

-- ---- rows

-- a reason that was told
pub row_skipped : (told : ℕ) (reason : Reason) (others : List Reason) (made : List Row) → 0 < told → made ++ rows_from (told - 1) others ≡ made ++ rows_from told (reason ∷ others)
row_skipped zero reason others made some = absurd (omega arith)
row_skipped (suc told) reason others made some =
    let less : suc told - 1 ≡ told = omega arith in
    ap (λ (j : ℕ). made ++ rows_from j others) less ∙ ap (λ (rows : List Row). made ++ rows) (sym (rows_from-told told reason others))

-- a reason that begins a row
pub row_begun : (told more : ℕ) (reason : Reason) (others : List Reason) (made new : List Row) → told ≤ 0 → more ≡ more_windows reason others
    → new ≡ made ++ record { reason = reason; more = more } ∷ [] → new ++ rows_from more others ≡ made ++ rows_from told (reason ∷ others)
row_begun (suc told) more reason others made new none is_more is_new = absurd (omega arith)
row_begun zero more reason others made new none is_more is_new =
    let row : ℕ → Row = λ j. record { reason = reason; more = j } in
    ap (λ (rows : List Row). rows ++ rows_from more others) is_new
    ∙ append_assoc made (row more ∷ []) (rows_from more others)
    ∙ ap (λ (j : ℕ). made ++ row j ∷ rows_from j others) is_more
    ∙ ap (λ (rows : List Row). made ++ rows) (sym (rows_from-next reason others))

pub rows_end : (reasons : List Reason) (k told : ℕ) (made whole : List Row) → length reasons ≤ k → made ++ rows_from told (drop k reasons) ≡ whole → made ≡ whole
rows_end reasons k told made whole past so_far =
    sym (append-nil made) ∙ sym (ap (λ (rows : List Row). made ++ rows) (at_drop_all (rows_from told) reasons k past ∙ rows_from-none told)) ∙ so_far

-- ---- the same games

pub same_lengths : (games others : List Game) → length games ≢ length others → are_same_games games others ≡ false
same_lengths [] [] differ = absurd (differ refl)
same_lengths [] (h ∷ others) differ = refl
same_lengths (g ∷ games) [] differ = refl
same_lengths (g ∷ games) (h ∷ others) differ = both (is_same_game g h) (are_same_games games others) (same_lengths games others (λ same. differ (ap suc same)))
  where
    both : (a b : Bool) → b ≡ false → (a && b) ≡ false
    both true b is = is
    both false b is = refl

pub same_more : (games others : List Game) (k : ℕ) (g h : Game) (whole : Bool) → k < length games → k < length others → get_or games k g ≡ g → get_or others k h ≡ h → is_same_game g h ≡ true
    → are_same_games (drop k games) (drop k others) ≡ whole → are_same_games (drop (k + 1) games) (drop (k + 1) others) ≡ whole
same_more games others k g h whole within also is_g is_h same so_far =
    sym (ap (λ (l : List Game). are_same_games l (drop k others)) (cut_at games k g within is_g)
    ∙ ap (λ (l : List Game). are_same_games (g ∷ drop (k + 1) games) l) (cut_at others k h also is_h)
    ∙ ap (λ (b : Bool). b && are_same_games (drop (k + 1) games) (drop (k + 1) others)) same)
    ∙ so_far

pub same_not : (games others : List Game) (k : ℕ) (g h : Game) (whole : Bool) → k < length games → k < length others → get_or games k g ≡ g → get_or others k h ≡ h → is_same_game g h ≡ false
    → are_same_games (drop k games) (drop k others) ≡ whole → false ≡ whole
same_not games others k g h whole within also is_g is_h differ so_far =
    sym (ap (λ (l : List Game). are_same_games l (drop k others)) (cut_at games k g within is_g)
    ∙ ap (λ (l : List Game). are_same_games (g ∷ drop (k + 1) games) l) (cut_at others k h also is_h)
    ∙ ap (λ (b : Bool). b && are_same_games (drop (k + 1) games) (drop (k + 1) others)) differ)
    ∙ so_far

pub same_end : (games others : List Game) (k : ℕ) (whole : Bool) → length games ≤ k → length others ≤ k
    → are_same_games (drop k games) (drop k others) ≡ whole → true ≡ whole
same_end games others k whole past also so_far =
    sym (at_drop_all (λ (l : List Game). are_same_games l (drop k others)) games k past ∙ at_drop_all (λ (l : List Game). are_same_games [] l) others k also) ∙ so_far
