-- The draft of an instance: constraints that fit stay so, and what a season is.
use Rattle.std.proofs.Common.{◌≡◌, ◌≢◌, ℕ, zero, suc, ◌+◌, ◌%◌, ◌<◌, ◌≤◌, Bool, true, false, not, ◌&&◌, List, length, get_or, refl, sym, subst, arith}
use Rattle.std.specs.Prelude.{nat_lt, nat_le, ◌==◌}
use Rattle.std.specs.List.{All, list_all, range_with_len}
use Rattle.std.specs.Cmp.Derive.{both_true}
use Rattle.std.proofs.lemmas.Bool.Decides.{nat_tests}
use Rattle.std.proofs.lemmas.List.FromFn.{length-range_with_len}
use Rattle.std.proofs.lemmas.List.Sums.{AllPass-from_list_all, list_all-from_AllPass}
use Rattle.std.specs.Ordering.{nat_cmp}
use Rattle.league.specs.Counts.{teams_of, slots_of, slot_count}
use Rattle.league.specs.Instance.{IsTeamCount, is_team_count, class_fits, are_teams, are_slots, is_meeting, are_meetings, is_one_side}
use Rattle.league.specs.Sets.{ascends, is_in, pair_cmp}
use Rattle.league.specs.declared.class.Class.{Class}
use Rattle.league.specs.declared.class.Constraint.{Constraint}
use Rattle.league.specs.declared.class.Class.TheVariants as class
use Rattle.league.proofs.AscendingLemmas.{first_true, second_true}
use Rattle.robinx.specs.InstanceFile.{is_season, are_ids}

-- ---- constraints that fit a league fit a larger one

-- what passes a test passes a weaker one
all_weaker : {X : Type 0} (p q : X → Bool) → ((x : X) → p x ≡ true → q x ≡ true) → (xs : List X) → list_all p xs ≡ true → list_all q xs ≡ true
all_weaker p q weaker xs h = list_all-from_AllPass q xs (λ k d within. weaker (get_or xs k d) (AllPass-from_list_all p xs h k d within))

below_later : (m n x : ℕ) → m ≤ n → nat_lt x m ≡ true → nat_lt x n ≡ true
below_later m n x le h = grind (arith, nat_tests)

meets_later : (m n i j : ℕ) → m ≤ n → nat_lt i m && nat_lt j m && not (i == j) ≡ true → nat_lt i n && nat_lt j n && not (i == j) ≡ true
meets_later m n i j le h =
    let both = first_true (nat_lt i m && nat_lt j m) (not (i == j)) h in
    both_true
    (both_true (below_later m n i le (first_true (nat_lt i m) (nat_lt j m) both)) (below_later m n j le (second_true (nat_lt i m) (nat_lt j m) both)))
    (second_true (nat_lt i m && nat_lt j m) (not (i == j)) h)

-- both parts of a test pass later, where each does
both_later : (a b c d : Bool) → (a ≡ true → c ≡ true) → (b ≡ true → d ≡ true) → a && b ≡ true → c && d ≡ true
both_later a b c d one other h = both_true (one (first_true a b h)) (other (second_true a b h))

module _ (m n : ℕ) (le : m ≤ n) where
  teams_later : (ts : List ℕ) → are_teams m ts ≡ true → are_teams n ts ≡ true
  teams_later ts h =
      both_later (list_all (λ t. nat_lt t m) ts) (ascends nat_cmp ts) (list_all (λ t. nat_lt t n) ts) (ascends nat_cmp ts)
      (all_weaker (λ t. nat_lt t m) (λ t. nat_lt t n) (λ t below. below_later m n t le below) ts) (λ same. same) h

  slots_later : (ss : List ℕ) → are_slots m ss ≡ true → are_slots n ss ≡ true
  slots_later ss h =
      both_later (list_all (λ s. nat_lt s (slot_count m)) ss) (ascends nat_cmp ss) (list_all (λ s. nat_lt s (slot_count n)) ss) (ascends nat_cmp ss)
      (all_weaker (λ s. nat_lt s (slot_count m)) (λ s. nat_lt s (slot_count n)) (λ s below. below_later (slot_count m) (slot_count n) s (omega arith) below) ss) (λ same. same) h

  meetings_later : (ps : List (ℕ × ℕ)) → are_meetings m ps ≡ true → are_meetings n ps ≡ true
  meetings_later ps h =
      both_later (list_all (is_meeting m) ps) (ascends pair_cmp ps) (list_all (is_meeting n) ps) (ascends pair_cmp ps)
      (all_weaker (is_meeting m) (is_meeting n) (λ p meets. meets_later m n p.0 p.1 le meets) ps) (λ same. same) h

  two_later : (ts ss : List ℕ) → are_teams m ts && are_slots m ss ≡ true → are_teams n ts && are_slots n ss ≡ true
  two_later ts ss h = both_later (are_teams m ts) (are_slots m ss) (are_teams n ts) (are_slots n ss) (teams_later ts) (slots_later ss) h

  opponents_later : (ts us : List ℕ) → are_teams m ts && are_teams m us ≡ true → are_teams n ts && are_teams n us ≡ true
  opponents_later ts us h = both_later (are_teams m ts) (are_teams m us) (are_teams n ts) (are_teams n us) (teams_later ts) (teams_later us) h

  three_later : (ts us ss : List ℕ) → are_teams m ts && are_teams m us && are_slots m ss ≡ true → are_teams n ts && are_teams n us && are_slots n ss ≡ true
  three_later ts us ss h =
      both_later (are_teams m ts && are_teams m us) (are_slots m ss) (are_teams n ts && are_teams n us) (are_slots n ss) (opponents_later ts us) (slots_later ss) h

  pub class_fits_later : (c : Class) → class_fits m c ≡ true → class_fits n c ≡ true
  class_fits_later (class.Ca1 teams min max side slots) h =
      both_later (are_teams m teams && are_slots m slots) (is_one_side side) (are_teams n teams && are_slots n slots) (is_one_side side) (two_later teams slots) (λ same. same) h
  class_fits_later (class.Ca2 teams1 teams2 min max side slots) h = three_later teams1 teams2 slots h
  class_fits_later (class.Ca3 teams1 teams2 min max intp side) h =
      both_later (are_teams m teams1 && are_teams m teams2) (nat_lt 0 intp) (are_teams n teams1 && are_teams n teams2) (nat_lt 0 intp) (opponents_later teams1 teams2) (λ same. same) h
  class_fits_later (class.Ca4 teams1 teams2 min max side span slots) h = three_later teams1 teams2 slots h
  class_fits_later (class.Ga1 meetings min max slots) h =
      both_later (are_meetings m meetings) (are_slots m slots) (are_meetings n meetings) (are_slots n slots) (meetings_later meetings) (slots_later slots) h
  class_fits_later (class.Br1 teams intp side slots) h = two_later teams slots h
  class_fits_later (class.Br2 teams intp slots) h = two_later teams slots h
  class_fits_later (class.Fa2 teams intp slots) h = two_later teams slots h
  class_fits_later (class.Se1 teams min) h = teams_later teams h

pub all_fit_later : (m n : ℕ) → m ≤ n → (cs : List Constraint) → All (λ c. class_fits m c.class ≡ true) cs → All (λ c. class_fits n c.class ≡ true) cs
all_fit_later m n le cs fit = λ k d h. class_fits_later m n le (get_or cs k d).class (fit k d h)

-- ---- the season

team_count : (n : ℕ) → is_team_count n ≡ true → IsTeamCount n
team_count n h =
    let even : (n % 2 == 0) ≡ true = first_true (n % 2 == 0) (nat_le 2 n && nat_le n 40) h in
    let size = second_true (n % 2 == 0) (nat_le 2 n && nat_le n 40) h in
    let two : nat_le 2 n ≡ true = first_true (nat_le 2 n) (nat_le n 40) size in
    let most : nat_le n 40 ≡ true = second_true (nat_le 2 n) (nat_le n 40) size in
    record { even = grind (arith, nat_tests); at_least = grind (arith, nat_tests); at_most = grind (arith, nat_tests) }

pub season_size : (teams slots : List ℕ) → is_season teams slots ≡ true → IsTeamCount (length teams)
season_size teams slots h =
    let n = length teams in
    team_count n (first_true (is_team_count n) (are_ids teams (teams_of n)) (first_true (is_team_count n && are_ids teams (teams_of n)) (are_ids slots (slots_of n)) h))

-- a test of each number of a range
pub all_in_range : (p : ℕ → Bool) (a n : ℕ) → ((k : ℕ) → a ≤ k → k < a + n → p k ≡ true) → list_all p (range_with_len a n) ≡ true
all_in_range p a zero h = refl
all_in_range p a (suc n) h =
    let here : p a ≡ true = h a (omega arith) (omega arith) in
    rw here (all_in_range p (a + 1) n (λ k low high. h k (omega arith) (omega arith)))

pub fails_in_range : (p : ℕ → Bool) (a n k : ℕ) → a ≤ k → k < a + n → p k ≡ false → list_all p (range_with_len a n) ≡ false
fails_in_range p a zero k low high fails = absurd (omega arith)
fails_in_range p a (suc n) k low high fails = by_first (p a) refl (λ later. fails_in_range p (a + 1) n k later (omega arith) fails) where
  bool_differ : (t : Bool) → t ≡ true → t ≡ false → ⊥
  bool_differ true x y = absurd cc
  bool_differ false x y = absurd cc

  by_first : (t : Bool) → p a ≡ t → (a + 1 ≤ k → list_all p (range_with_len (a + 1) n) ≡ false) → t && list_all p (range_with_len (a + 1) n) ≡ false
  by_first false is others = refl
  by_first true is others =
      let other : a ≢ k = λ same. absurd (bool_differ (p a) is (subst (λ (x : ℕ). p x ≡ false) (sym same) fails)) in
      others (omega arith)

-- so many ids are those of a range
pub are_ids-range : (ids : List ℕ) (count : ℕ) → are_ids ids (range_with_len 0 count) ≡ (length ids == count) && list_all (λ i. is_in i ids) (range_with_len 0 count)
are_ids-range ids count = rw (length-range_with_len 0 count) refl
