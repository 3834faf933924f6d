-- What the functions of this crate have made so far.
use Rattle.std.proofs.Common.{◌≡◌, ℕ, zero, suc, ◌+◌, ◌*◌, ◌-◌, ◌<◌, ◌≤◌, true}
use Rattle.std.proofs.Common.{List, [], ◌∷◌, ◌++◌, length, get_or, map, take, slice_get, Some, subst}
use Rattle.std.proofs.Common.{refl, sym, ap, ◌∙◌, arith, zero-add, append_assoc, inl, inr}
use Rattle.std.proofs.lemmas.Bool.{cases_eq}
use Rattle.std.proofs.lemmas.List.FromFn.{get_or-map-range_with_len, length-map-range_with_len, map-range_with_len_more}
use Rattle.std.proofs.lemmas.List.Sums.{sum_by_more}
use Rattle.std.proofs.lemmas.Option.{get_or_from_slice_get, slice_get_within}
use Rattle.std.specs.Int.{from_bool}
use Rattle.std.specs.List.{All, range_with_len, sum_by}
use Rattle.std.specs.Ordering.{nat_cmp}
use Rattle.league.specs.Accepted.{IsAccepted}
use Rattle.league.specs.Breaks.{breaks_among}
use Rattle.league.specs.Counts.{slot_count, slots_of}
use Rattle.league.specs.Instance.{Instance, IsTeamCount, is_one_side}
use Rattle.league.specs.Sets.{IsAscending}
use Rattle.league.specs.Venues.{away_games, games_on, home_games}
use Rattle.league.specs.declared.class.Constraint.{Constraint}
use Rattle.league.specs.declared.class.Side.{Side}
use Rattle.league.specs.declared.class.Side.TheVariants.{H, A, Both}
use Rattle.league.specs.declared.game.Game.{Game}
use Rattle.league.proofs.RangeLemmas.{one_if, summed}
use Rattle.league.proofs.SetLemmas.{length-ascending}
use Rattle.league.proofs.WrongLemmas.{from_bool-is}
use Rattle.circle_method.specs.Circle.{double_games, last_team_game}
use Rattle.circle_method.proofs.RoundRobinLemmas.{cell}
use Rattle.patterns.specs.Pattern.{breaks_in, is_repeat}
use Rattle.patterns.specs.PatternSet.{letter_of, pattern_of, patterns_of, side_with}
use Rattle.patterns.proofs.BreakLemmas.{breaks_in-pattern_in}
use Rattle.rand_pcg.specs.Lcg.{Lcg}
use Rattle.instance_gen.specs.Draws.{after, next}
use Rattle.instance_gen.specs.Made.{circle, game_at, made_constraints, made_league, made_list}
use Rattle.instance_gen.proofs.AcceptedLemmas.{accepts_circle, length-made_constraints}

-- the generator after some words and then some more
pub after-add : (a b : ℕ) (g : Lcg) → after a (after b g) ≡ after (a + b) g
after-add zero b g = ap (λ (k : ℕ). after k g) (sym (zero-add b))
after-add (suc a) b g =
    let more : suc (a + b) ≡ suc a + b = omega arith in
    ap next (after-add a b g) ∙ ap (λ (k : ℕ). after k g) more

-- one constraint more has taken its words
pub after-next : (words k : ℕ) (g now next : Lcg) → now ≡ after (words * k) g → next ≡ after words now
    → next ≡ after (words * (k + 1)) g
after-next words k g now next so_far is =
    let more : words + words * k ≡ words * (k + 1) = omega arith in
    is ∙ ap (after words) so_far ∙ after-add words (words * k) g ∙ ap (λ (l : ℕ). after l g) more

-- one constraint more stands at the end
pub made_list-next : (make : Lcg → Constraint) (words k : ℕ) (g now : Lcg) (start before after_it : List Constraint)
    (made : Constraint) → before ≡ start ++ made_list make words k g → now ≡ after (words * k) g → made ≡ make now
    → after_it ≡ before ++ made ∷ [] → after_it ≡ start ++ made_list make words (k + 1) g
made_list-next make words k g now start before after_it made so_far here is pushed =
    let f : ℕ → Constraint = λ l. make (after (words * l) g) in
    pushed
    ∙ ap (λ (l : List Constraint). l ++ made ∷ []) so_far
    ∙ ap (λ (c : Constraint). (start ++ made_list make words k g) ++ c ∷ []) (is ∙ ap make here)
    ∙ append_assoc start (made_list make words k g) (f k ∷ [])
    ∙ ap (λ (l : List Constraint). start ++ l) (sym (map-range_with_len_more f 0 k k (omega arith)))

-- what a generator makes at the end of a list that is known, where the generator is known
pub listed-next : (make : Lcg → List Constraint) (before next so_far : List Constraint) (now there : Lcg)
    → next ≡ before ++ make now → before ≡ so_far → now ≡ there → next ≡ so_far ++ make there
listed-next make before next so_far now there is known here =
    is ∙ ap (λ (l : List Constraint). l ++ make now) known ∙ ap (λ (g : Lcg). so_far ++ make g) here

-- an element of a list that a function makes
pub read_made : {X : Type 0} (f : ℕ → X) (k i : ℕ) (made : List X) (x : X) → made ≡ map f (range_with_len 0 k)
    → slice_get made i ≡ Some x → x ≡ f i
read_made {X} f k i made x is read =
    let within : i < k = omega (arith, slice_get_within made i x read, ap length is, length-map-range_with_len f 0 k) in
    sym (get_or_from_slice_get made i x x read)
    ∙ ap (λ (l : List X). get_or l i x) is
    ∙ get_or-map-range_with_len f 0 k i i x within (omega arith)

-- the game that is read at a place of the double circle schedule
pub game_read : (n place : ℕ) (games : List Game) (game : Game) → games ≡ double_games n
    → slice_get games place ≡ Some game
    → game ≡ game_at n place
game_read n place games game is read =
    sym (get_or_from_slice_get games place game (last_team_game n 0) read)
    ∙ ap (λ (l : List Game). get_or l place (last_team_game n 0)) is

-- how many patterns there are, and how many letters in each
pub patterns_count : (n : ℕ) (patterns : List (List Side)) → patterns ≡ patterns_of n (circle n) → length patterns ≡ n
patterns_count n patterns are = ap length are ∙ length-map-range_with_len (pattern_of n (circle n)) 0 n

pub letters_count : (n i : ℕ) (patterns : List (List Side)) (pattern : List Side) → patterns ≡ patterns_of n (circle n)
    → slice_get patterns i ≡ Some pattern → length pattern ≡ slot_count n
letters_count n i patterns pattern are read =
    ap length (read_made (pattern_of n (circle n)) n i patterns pattern are read)
    ∙ length-map-range_with_len (letter_of n (circle n) i) 0 (slot_count n)

-- where a team plays that has one game: at home where that is a home game
home_letter : (home away : ℕ) → home + away ≡ 1 → home ≡ one_if (is_repeat (side_with home) H)
home_letter home away one =
    let P : ℕ → Type 0 = λ x. x ≡ one_if (is_repeat (side_with x) H) in
    elim (cases_eq home 0) as (λ _. home ≡ one_if (is_repeat (side_with home) H)) [
      | inl none ↦ subst P (sym none) refl
      | inr some ↦ let is : home ≡ 1 = omega arith in subst P (sym is) refl
    ]

away_letter : (home away : ℕ) → home + away ≡ 1 → away ≡ one_if (is_repeat (side_with home) A)
away_letter home away one =
    let P : ℕ → Type 0 = λ x. one_if (is_repeat (side_with x) A) ≡ 1 - x in
    elim (cases_eq home 0) as (λ _. away ≡ one_if (is_repeat (side_with home) A)) [
      | inl none ↦ let letter : one_if (is_repeat (side_with home) A) ≡ 1 - home = subst P (sym none) refl in omega
          arith
      | inr some ↦
          let is : home ≡ 1 = omega arith in
          let letter : one_if (is_repeat (side_with home) A) ≡ 1 - home = subst P (sym is) refl in
          omega arith
    ]

-- the games of a team on a side in a slot, by its letter there
pub games_on-letter : (n i s : ℕ) (side : Side) → IsTeamCount n → i < n → s < slot_count n → is_one_side side ≡ true
    → games_on n (circle n) side i s ≡ one_if (is_repeat (letter_of n (circle n) i s) side)
games_on-letter n i s H size team slot one =
    home_letter (home_games n (circle n) i s) (away_games n (circle n) i s) (cell n i s size team slot)
games_on-letter n i s A size team slot one =
    away_letter (home_games n (circle n) i s) (away_games n (circle n) i s) (cell n i s size team slot)
games_on-letter n i s Both size team slot one = absurd (cc)

-- the games in some slots, with those in the next slot
pub games_in-next : (n i k games found next : ℕ) (side letter : Side) (row : List Side) (slots : List ℕ)
    → IsTeamCount n → i < n → is_one_side side ≡ true → k < length slots → All (λ s. s < slot_count n) slots
    → row ≡ pattern_of n (circle n) i → slice_get row (get_or slots k 0) ≡ Some letter
    → found ≡ from_bool (is_repeat letter side)
    → games ≡ sum_by (λ s. games_on n (circle n) side i s) (take k slots) → next ≡ games + found
    → next ≡ sum_by (λ s. games_on n (circle n) side i s) (take (k + 1) slots)
games_in-next n i k games found next side letter row slots size team one within below is_row read told so_far more =
    let s : ℕ = get_or slots k 0 in
    let is_letter : letter ≡ letter_of n (circle n) i s =
    read_made (letter_of n (circle n) i) (slot_count n) s row letter is_row read in
    let here : found ≡ games_on n (circle n) side i s =
    told
    ∙ from_bool-is (is_repeat letter side)
    ∙ ap (λ (x : Side). one_if (is_repeat x side)) is_letter
    ∙ sym (games_on-letter n i s side size team (below k 0 within) one) in
    omega (arith, sum_by_more (λ s. games_on n (circle n) side i s) slots k 0 within)

-- a set of slots has at most 78
pub slots_few : (n : ℕ) (slots : List ℕ) → IsTeamCount n → IsAscending nat_cmp slots → All (λ s. s < slot_count n) slots
    → length slots ≤ 78
slots_few n slots size ascending below =
    let most : n ≤ 40 = size.at_most in
    omega (arith, length-ascending slots (slot_count n) ascending below)

-- the breaks of the first teams, with those of the next one
pub breaks-next : (n i breaks next found : ℕ) (patterns : List (List Side)) (pattern : List Side) → IsTeamCount n
    → i < n
    → patterns ≡ patterns_of n (circle n) → slice_get patterns i ≡ Some pattern → found ≡ breaks_in pattern
    → breaks ≡ sum_by (breaks_among n (circle n) Both (slots_of n)) (range_with_len 0 i) → next ≡ breaks + found
    → next ≡ sum_by (breaks_among n (circle n) Both (slots_of n)) (range_with_len 0 (i + 1))
breaks-next n i breaks next found patterns pattern size team are read is so_far more =
    let is_pattern : pattern ≡ pattern_of n (circle n) i =
    read_made (pattern_of n (circle n)) n i patterns pattern are read in
    let here : found ≡ breaks_among n (circle n) Both (slots_of n) i =
    is
    ∙ ap breaks_in is_pattern
    ∙ breaks_in-pattern_in n (circle n) i (slot_count n) (λ t slot. cell n i t size team slot) in
    summed (breaks_among n (circle n) Both (slots_of n)) i breaks next so_far (more ∙ ap (λ (x : ℕ). breaks + x) here)

-- a league of the made constraints
pub league-made : (n m : ℕ) (g : Lcg) (constraints : List Constraint) (league : Instance) → m ≡ n
    → constraints ≡ made_constraints m g → league ≡ record { n = n; phased = true; constraints = constraints }
    → league ≡ made_league n g
league-made n m g constraints league same made is =
    is
    ∙ ap (λ (cs : List Constraint). record { n = n; phased = true; constraints = cs })
    (made ∙ ap (λ (k : ℕ). made_constraints k g) same)

pub league-accepts : (n : ℕ) (g : Lcg) (league : Instance) → IsTeamCount n → league ≡ made_league n g
    → IsAccepted league (circle n)
league-accepts n g league size is =
    let P : Instance → Type 0 = λ l. IsAccepted l (circle n) in
    subst P (sym is) (accepts_circle n g size)

pub league-count : (n : ℕ) (g : Lcg) (league : Instance) → IsTeamCount n → league ≡ made_league n g
    → length league.constraints ≡ n + 17
league-count n g league size is =
    ap (λ (l : Instance). length l.constraints) is ∙ length-made_constraints n g size
