-- The last step of a log that names a row.
use Rattle.std.proofs.Common.{◌≡◌, ◌≢◌, ◌⊎◌, ℕ, ◌+◌, ◌<◌, ◌≤◌, List, []}
use Rattle.std.proofs.Common.{get_or, length, take, slice_get, length-take, Option, Some, None}
use Rattle.std.proofs.Common.{inl, inr, arith, ap, sym, subst, ◌∙◌}
use Rattle.std.specs.Option.{option_map_or}
use Rattle.std.proofs.lemmas.Bool.{cases_lt}
use Rattle.std.proofs.lemmas.List.{get_or-drop, length-drop, take_all, take_more}
use Rattle.std.proofs.lemmas.List.Elements.{All-push}
use Rattle.std.proofs.lemmas.Option.{get_or_from_slice_get, none-some, slice_get-get_or, slice_get_within}
use Rattle.refutation.specs.Steps.{Step}
use Rattle.refutation_check.specs.Forgotten.{AreLast, AreLastUpTo, Lacks, names, names_at}

-- no step is noted yet
pub last-none : (before : ℕ) (log : List Step) (last : List ℕ) → AreLastUpTo before log 0 last
last-none before log last p k within early past = absurd (omega (arith, early))

-- a step is noted
pub last-more : (before : ℕ) (log : List Step) (k : ℕ) (old new : List ℕ) → length new ≡ length old
    → AreLastUpTo before log k old
    → ((p : ℕ) → (get_or new p 0 ≡ get_or old p 0) ⊎ (get_or new p 0 ≡ k))
    → ((p : ℕ) → p < length new → get_or new p 0 < k → Lacks (before + p + 1) (names_at log k))
    → AreLastUpTo before log (k + 1) new
last-more before log k old new even were kept noted p j within early past =
    elim (cases_lt j k) [
      | inl sooner ↦ elim (kept p) [
        | inl same ↦ were p j (omega (arith, within, even)) sooner (omega (arith, past, same))
        | inr here ↦ absurd (omega (arith, past, here, sooner))
      ]
      | inr later ↦
          let is : k ≡ j = omega (arith, early, later) in
          subst (λ (i : ℕ). Lacks (before + p + 1) (names_at log i)) is (noted p within (omega (arith, past, is)))
    ]

-- behind the whole log
pub last-all : (before : ℕ) (log : List Step) (end : ℕ) (last : List ℕ) → end ≡ length log
    → AreLastUpTo before log end last → length last ≡ length log → AreLast before log last
last-all before log end last whole are even p k within past i d there =
    let j : ℕ = k + 1 + i in
    let inside : j < length log = omega (arith, there, length-drop (k + 1) log) in
    subst (λ (step : Step). Lacks (before + p + 1) (names step)) (sym (get_or-drop (k + 1) log i d))
    (subst (λ (numbers : List ℕ). Lacks (before + p + 1) numbers)
    (ap (λ (o : Option Step). option_map_or names o []) (slice_get-get_or log j d inside))
    (are p j within (omega (arith, inside, whole)) (omega (arith, past))))

-- ---- the numbers of one step

pub lacks-none : (number : ℕ) (numbers : List ℕ) → Lacks number (take 0 numbers)
lacks-none number numbers i d there = absurd (omega (arith, there, length-take 0 numbers))

-- where a number is the next one
pub next_there : (numbers : List ℕ) (place n : ℕ) → Some n ≡ slice_get numbers place → place < length numbers
next_there numbers place n is = slice_get_within numbers place n (sym is)

pub none_left : (numbers : List ℕ) (place : ℕ) → None ≡ slice_get numbers place → length numbers ≤ place
none_left numbers place is =
    elim (cases_lt place (length numbers)) [
      | inl within ↦ absurd (none-some (get_or numbers place 0) (is ∙ slice_get-get_or numbers place 0 within))
      | inr past ↦ past
    ]

-- a number more
pub lacks-more : (number : ℕ) (numbers : List ℕ) (place n : ℕ) → Some n ≡ slice_get numbers place
    → Lacks number (take place numbers) → n ≢ number → Lacks number (take (place + 1) numbers)
lacks-more number numbers place n is before other =
    let within : place < length numbers = next_there numbers place n is in
    subst (λ (ns : List ℕ). Lacks number ns) (sym (take_more numbers place 0 within))
    (All-push (λ m. m ≢ number) (take place numbers) (get_or numbers place 0) before
    (λ same. other (sym (get_or_from_slice_get numbers place n 0 (sym is)) ∙ same)))

-- all numbers
pub lacks-all : (number : ℕ) (numbers : List ℕ) (place : ℕ) → None ≡ slice_get numbers place
    → Lacks number (take place numbers) → Lacks number numbers
lacks-all number numbers place is before =
    subst (λ (ns : List ℕ). Lacks number ns) (take_all place numbers (none_left numbers place is)) before
