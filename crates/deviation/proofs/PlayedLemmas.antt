-- Rows of home games played: one number more, one row more, and the largest difference of two rows.
use Rattle.std.proofs.Common.{◌≡◌, ◌≢◌, ℕ, ◌+◌, ◌*◌, ◌<◌, ◌≤◌, max, List, length, get_or, set, take, arith, ap, sym}
use Rattle.std.proofs.Common.{◌∙◌, inl, inr, subst}
use Rattle.std.proofs.lemmas.Bool.{cases_eq, cases_lt}
use Rattle.std.proofs.lemmas.List.{get_or-set_other, get_or-set_same, get_or_default, take_all}
use Rattle.std.proofs.lemmas.Nat.{same_from_place}
use Rattle.league.specs.Bounds.{difference, excess, largest}
use Rattle.league.specs.Counts.{Counts}
use Rattle.league.specs.Fairness.{home_played}
use Rattle.league.specs.Grid.{entry}
use Rattle.league.proofs.TableLemmas.{number-inside, number-outside}
use Rattle.deviation.specs.Played.{IsPlayed}
use Rattle.deviation.proofs.LeadLemmas.{largest_more}

-- a number that is written in a row and column, and all others
pub entry-set_same : (xs : List ℕ) (row column value : ℕ) → column < 78 → row * 78 + column < length xs
    → entry (set xs (row * 78 + column) value) row column ≡ value
entry-set_same xs row column value inside within =
    number-inside 78 (set xs (row * 78 + column) value) row column inside
    ∙ get_or-set_same xs (row * 78 + column) value 0 within

pub entry-set_other : (xs : List ℕ) (row column value i q : ℕ) → column < 78 → ((i ≡ row) × (q ≡ column) → ⊥)
    → entry (set xs (row * 78 + column) value) i q ≡ entry xs i q
entry-set_other xs row column value i q inside differ =
    elim (cases_lt q 78) [
      | inl lt ↦
          number-inside 78 (set xs (row * 78 + column) value) i q lt
          ∙ get_or-set_other xs (row * 78 + column) (i * 78 + q) value 0
          (λ same. differ (let parts = same_from_place i q row column 78 lt inside same in (parts.0, parts.1)))
          ∙ sym (number-inside 78 xs i q lt)
      | inr ge ↦ number-outside 78 (set xs (row * 78 + column) value) i q ge ∙ sym (number-outside 78 xs i q ge)
    ]

-- the first numbers of a row
abbrev pub IsPlayedTo : ℕ → Counts → List ℕ → List ℕ → ℕ → ℕ → Type 0
IsPlayedTo n m slots played i count = (q : ℕ) → q < count → entry played i q ≡ home_played n m i (get_or slots q 0)

-- with the next one
pub played_to-more : (n : ℕ) (m : Counts) (slots played : List ℕ) (i place games : ℕ) → place < 78
    → i * 78 + place < length played → games ≡ home_played n m i (get_or slots place 0)
    → IsPlayedTo n m slots played i place → IsPlayedTo n m slots (set played (i * 78 + place) games) i (place + 1)
played_to-more n m slots played i place games small within is so_far q lt =
    elim (cases_eq q place) [
      | inl same ↦
          ap (λ (k : ℕ). entry (set played (i * 78 + place) games) i k) same
          ∙ entry-set_same played i place games small within
          ∙ is
          ∙ ap (λ (k : ℕ). home_played n m i (get_or slots k 0)) (sym same)
      | inr differ ↦ entry-set_other played i place games i q small (λ both. differ both.1) ∙ so_far q (omega arith)
    ]

-- two rows' next numbers, and the largest difference so far
pub lead_more : (f : ℕ → ℕ) (slots : List ℕ) (i most gap intp new : ℕ) → i < length slots
    → excess most intp ≡ largest f (take i slots) → excess gap intp ≡ f (get_or slots i 0) → new ≡ max most gap
    → excess new intp ≡ largest f (take (i + 1) slots)
lead_more f slots i most gap intp new inside so_far value is =
    let beyond : excess new intp ≡ max (excess most intp) (excess gap intp) = omega arith in
    largest_more f slots i (excess most intp) (excess gap intp) (excess new intp) inside so_far value beyond

-- what two rows differ by after a slot, beyond the bound
pub gap_is : (n : ℕ) (m : Counts) (slots played : List ℕ) (i j place gap intp : ℕ) → place < 78
    → place < length slots → IsPlayed n m slots played i → IsPlayed n m slots played j
    → gap ≡ difference (get_or played (i * 78 + place) 0) (get_or played (j * 78 + place) 0)
    → excess gap intp
    ≡ excess (difference (home_played n m i (get_or slots place 0)) (home_played n m j (get_or slots place 0))) intp
gap_is n m slots played i j place gap intp small inside first second is =
    let x : get_or played (i * 78 + place) 0 ≡ home_played n m i (get_or slots place 0) =
    sym (number-inside 78 played i place small) ∙ first place inside in
    let y : get_or played (j * 78 + place) 0 ≡ home_played n m j (get_or slots place 0) =
    sym (number-inside 78 played j place small) ∙ second place inside in
    ap (λ (g : ℕ). excess g intp) is
    ∙ ap (λ (a : ℕ). excess (difference a (get_or played (j * 78 + place) 0)) intp) x
    ∙ ap (λ (b : ℕ). excess (difference (home_played n m i (get_or slots place 0)) b) intp) y

-- rows stay where others are written
pub IsPlayed-kept : (n : ℕ) (m : Counts) (slots before after : List ℕ) (i row : ℕ)
    → ((k q : ℕ) → k ≢ row → entry after k q ≡ entry before k q) → i ≢ row → IsPlayed n m slots before i
    → IsPlayed n m slots after i
IsPlayed-kept n m slots before after i row kept differ are q lt = kept i q differ ∙ are q lt

-- the rows of the first teams, with the next one's
pub rows_more : (n : ℕ) (m : Counts) (slots before after teams : List ℕ) (i row : ℕ) → i < length teams
    → row ≡ get_or teams i 0 → IsPlayed n m slots after row
    → ((k q : ℕ) → k ≢ row → entry after k q ≡ entry before k q)
    → ((k d : ℕ) → k < i → IsPlayed n m slots before (get_or teams k d)) → (k d : ℕ) → k < i + 1
    → IsPlayed n m slots after (get_or teams k d)
rows_more n m slots before after teams i row inside is here kept so_far k d lt =
    elim (cases_eq (get_or teams k d) row) [
      | inl same ↦ subst (λ (x : ℕ). IsPlayed n m slots after x) (sym same) here
      | inr differ ↦
          elim (cases_eq k i) [
            | inl last ↦ absurd
                (differ (ap (λ (x : ℕ). get_or teams x d) last ∙ get_or_default teams i d 0 inside ∙ sym is))
            | inr before_it ↦ IsPlayed-kept n m slots before after (get_or teams k d) row kept differ
                (so_far k d (omega arith))
          ]
    ]

-- the largest of all
pub lead_all : (f : ℕ → ℕ) (slots : List ℕ) (i most intp result : ℕ) → length slots ≤ i
    → excess most intp ≡ largest f (take i slots) → result ≡ excess most intp → result ≡ largest f slots
lead_all f slots i most intp result all so_far is = is ∙ so_far ∙ ap (largest f) (take_all i slots all)
